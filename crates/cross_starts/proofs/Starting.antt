-- The columns of the start, filled in from the first list on: each entry so far is its definition, and the rest is as it was. Assumes nothing.
use mathlib.Core.Path.{◌≡◌, refl, sym, ap, ◌∙◌}
use mathlib.Core.List.{List, [], ◌∷◌, ◌++◌, map, append-nil}
use Prim.Native.Nat.{ℕ, zero, suc, ◌+◌, ◌≤◌, ◌<◌}
use native.Mathlib.Numerals.{add-one}
use native.Mathlib.Omega.{arith}
use lib.ListN.{length, get_or, set, take, drop, length-map, length-set, drop_of_length-le}
use lib.Seq.{take_all, drop-cons, set_at, get_or_at, length-take-le, append_snoc}
use lib.Ieee.{Float, nan}
use Rattle.std.proofs.lemmas.List.{get_or-map}
use Rattle.day.specs.Vehicle.{route_cost}
use Rattle.day.specs.declared.vehicle.Van.{Van}
use Rattle.fleet.specs.Fleet.{Fleet, fleet_vehicle}
use Rattle.fleet.proofs.Numbered.{found_again}
use Rattle.cross_moves.specs.CrossDepot.{starting_cost, found_ids, starting_costs}

-- ---- a column in the place of which another is written

map_more : {A B : Type 0} (f : A → B) (xs : List A) (i : ℕ) (d : A) → i < length xs → map f (take (suc i) xs) ≡ map f (take i xs) ++ f (get_or xs i d) ∷ []
map_more f [] i d h = absurd (omega arith)
map_more f (x ∷ xs) zero d h = refl
map_more f (x ∷ xs) (suc i) d h = ap (λ z. f x ∷ z) (map_more f xs i d (omega arith))

module _ {A : Type 0} (f : A → A) (xs : List A) where
  unfoldable pub mapped_to : ℕ → List A
  mapped_to i = map f (take i xs) ++ drop i xs

  pub record Mapping (now : List A) (i : ℕ) : Type 0 where
    pub now_is : now ≡ mapped_to i
    pub same_length : length now ≡ length xs

  pub mapping_starts : Mapping xs 0
  unfolding mapped_to
  mapping_starts = record { now_is = refl; same_length = refl }

  module _ (now : List A) (i : ℕ) (w : Mapping now i) where
    long : i < length xs → length (map f (take i xs)) ≡ i
    long h = length-map (take i xs) f ∙ length-take-le i xs (omega arith)

    pub mapping_at : (d : A) → i < length xs → get_or now i d ≡ get_or xs i d
    unfolding mapped_to
    mapping_at d h = rw (w.now_is, drop-cons xs i d h, get_or_at (map f (take i xs)) (get_or xs i d) (drop (suc i) xs) d i (long h))

    pub mapping_turns : (d y : A) → i < length xs → y ≡ f (get_or now i d) → Mapping (set now i y) (i + 1)
    unfolding mapped_to
    mapping_turns d y h e = record {
      now_is = rw (
        add-one i,
        e,
        mapping_at d h,
        map_more f xs i d h,
        w.now_is,
        drop-cons xs i d h,
        set_at (map f (take i xs)) (get_or xs i d) (drop (suc i) xs) (f (get_or xs i d)) i (long h),
      )
          (sym (append_snoc (map f (take i xs)) (f (get_or xs i d)) (drop (suc i) xs)));
      same_length = simp length-set w.same_length;
    }

    pub mapping_ends : length xs ≤ i → now ≡ map f xs
    unfolding mapped_to
    mapping_ends h = rw (w.now_is, take_all i xs h, drop_of_length-le xs h) (append-nil (map f xs))

-- ---- what each list costs at the start

take_stored : {A : Type 0} (xs : List A) (i : ℕ) (y : A) → i < length xs → take (suc i) (set xs i y) ≡ take i xs ++ y ∷ []
take_stored [] i y h = absurd (omega arith)
take_stored (x ∷ xs) zero y h = refl
take_stored (x ∷ xs) (suc i) y h = ap (λ z. x ∷ z) (take_stored xs i y (omega arith))

module _ (fleet : Fleet) where
  costs_more : (ids : List ℕ) (prices : List Float) (i : ℕ) → i < length ids → i < length prices
      → starting_costs fleet (take (suc i) ids) (take (suc i) prices)
      ≡ starting_costs fleet (take i ids) (take i prices) ++ starting_cost fleet (get_or ids i 0) (get_or prices i nan) ∷ []
  unfolding starting_costs
  costs_more [] prices i h k = absurd (omega arith)
  costs_more (id ∷ ids) [] i h k = absurd (omega arith)
  costs_more (id ∷ ids) (price ∷ prices) zero h k = refl
  costs_more (id ∷ ids) (price ∷ prices) (suc i) h k = ap (λ z. starting_cost fleet id price ∷ z) (costs_more ids prices i (omega arith) (omega arith))

  pub record Costing (ids : List ℕ) (prices now : List Float) (i : ℕ) : Type 0 where
    pub same_length : length now ≡ length ids
    pub now_is : take i now ≡ starting_costs fleet (take i ids) (take i prices)

  module _ (ids : List ℕ) (prices now : List Float) (even : length prices ≡ length ids) where
    pub costing_starts : length now ≡ length ids → Costing ids prices now 0
    unfolding starting_costs
    costing_starts e = record { same_length = e; now_is = refl }

    pub costing_turns : (i : ℕ) (y : Float) → Costing ids prices now i → i < length ids → y ≡ starting_cost fleet (get_or ids i 0) (get_or prices i nan)
        → Costing ids prices (set now i y) (i + 1)
    costing_turns i y w h e = record {
      same_length = simp length-set w.same_length;
      now_is = rw (add-one i, take_stored now i y (omega (arith, w.same_length)), costs_more ids prices i h (omega arith), w.now_is, e);
    }

    pub costing_ends : (i : ℕ) → Costing ids prices now i → length ids ≤ i → now ≡ starting_costs fleet ids prices
    costing_ends i w h =
        sym (take_all i now (omega (arith, w.same_length))) ∙ w.now_is ∙ (λ t. starting_costs fleet (take_all i ids h t) (take_all i prices (omega arith) t))

-- the van of the id that is put in is the van that was found
pub cost_found : (fleet : Fleet) (ids now : List ℕ) (prices : List Float) (i : ℕ) → Mapping (λ id. (fleet_vehicle fleet id).id) ids now i → i < length ids
    → (van : Van) → van ≡ fleet_vehicle fleet (get_or now i 0) → (cost : Float) → cost ≡ route_cost van (get_or prices i nan)
    → cost ≡ starting_cost fleet (get_or (found_ids fleet ids) i 0) (get_or prices i nan)
cost_found fleet ids now prices i w h van is cost costs =
    let here : van ≡ fleet_vehicle fleet (get_or ids i 0) = is ∙ ap (fleet_vehicle fleet) (mapping_at _ ids now i w 0 h) in
    let entry : get_or (found_ids fleet ids) i 0 ≡ (fleet_vehicle fleet (get_or ids i 0)).id = get_or-map _ ids i 0 0 h in
    costs ∙ ap (λ (v : Van). route_cost v (get_or prices i nan))
    (here ∙ sym (found_again fleet (get_or ids i 0)) ∙ sym (ap (fleet_vehicle fleet) entry))

-- as many ids are found
pub many_found : (fleet : Fleet) (ids : List ℕ) → length (found_ids fleet ids) ≡ length ids
many_found fleet ids = length-map ids _
