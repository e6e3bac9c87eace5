-- The moves of a pair of lists, and all relocations: which they are, that all relocations are those of the pairs, and that both stand in the order of
-- their numbers, since the loops count up. Assumes nothing.
use mathlib.Core.Path.{◌≡◌, refl, sym, ap, ◌∙◌, subst}
use mathlib.Core.Logic.{◌⊎◌, inl, inr, ◌≢◌}
use mathlib.Core.Bool.{Bool, true, false, cond}
use mathlib.Core.List.{List, [], ◌++◌, map}
use Prim.Native.Nat.{ℕ, suc, ◌≤◌, ◌<◌}
use native.Mathlib.Omega.{arith}
use native.Mathlib.Decide.{dec_lt}
use borrow.Author.Tests.{eqb-false, eq-eqb, ne_eqb}
use lib.Dec.{eqb}
use lib.ListN.{length}
use Rattle.descent.specs.Order.{◌∈◌, range, each}
use Rattle.descent.specs.Across.{at, Relocation, relocations}
use Rattle.descent.proofs.Members.{not_in, in_left, in_right, in_either, in_range, range_in, in_each, each_in, map_in}
use Rattle.pairs.specs.Pairs.{across, between, Moves}
use Rattle.pairs.proofs.Order.{by_place, by_to, by_position, by_from}
use Rattle.pairs.proofs.Sorted.{Sorted, range_sorted, others_sorted, sorted_map, sorted_each}
use Rattle.pairs.proofs.Best.{Earlier}

module _ (ls : List (List ℕ)) where
  -- ---- the moves of one visit into one list

  abbrev into : ℕ → ℕ → ℕ → List Relocation
  into from position to = map (λ place. record { from = from; position = position; to = to; place = place }) (range 0 (suc (length (at ls to))))

  -- what a move of them is
  record Into (from position to : ℕ) (m : Relocation) : Type 0 where
    is_from : m.from ≡ from
    is_position : m.position ≡ position
    is_to : m.to ≡ to
    place_there : m.place ≤ length (at ls to)

  into_is : (from position to : ℕ) (m : Relocation) → m ∈ into from position to → Into from position to m
  into_is from position to m i =
      let r = map_in (λ (place : ℕ). record { from = from; position = position; to = to; place = place }) (range 0 (suc (length (at ls to)))) m i in
      let b = range_in 0 (suc (length (at ls to))) r.0 r.1 in
      let p : m.place ≡ r.0 = ap (λ (z : Relocation). z.place) (sym r.2) in
      record {
        is_from = ap (λ (z : Relocation). z.from) (sym r.2);
        is_position = ap (λ (z : Relocation). z.position) (sym r.2);
        is_to = ap (λ (z : Relocation). z.to) (sym r.2);
        place_there = omega arith;
      }

  into_sorted : (from position to : ℕ) → Sorted Earlier (into from position to)
  into_sorted from position to = sorted_map ◌<◌ Earlier _ (range 0 (suc (length (at ls to)))) (range_sorted 0 (suc (length (at ls to))))
      (λ a b h. by_place _ _ refl refl refl h)

  -- ---- the moves of a pair

  across_sorted : (from to : ℕ) → Sorted Earlier (across ls from to)
  across_sorted from to =
      sorted_each ◌<◌ Earlier (λ position. into from position to) (range 0 (length (at ls from))) (range_sorted 0 (length (at ls from)))
      (λ position. into_sorted from position to)
      (λ a b x y h i j.
      let e = into_is from a to x i in
      let f = into_is from b to y j in
      let p = e.is_position in
      let q = f.is_position in
      by_position x y (e.is_from ∙ sym f.is_from) (omega arith))

  pub between_sorted : (from to : ℕ) → Sorted Earlier (between ls from to)
  unfolding between
  between_sorted from to = go (eqb from to)
    where
      go : (t : Bool) → Sorted Earlier (cond t [] (across ls from to))
      go true = tt
      go false = across_sorted from to

  -- a pair of one list has no move, of two lists those across
  pub between_same : (from to : ℕ) → from ≡ to → between ls from to ≡ []
  unfolding between
  between_same from to e = rw (eq-eqb from to e)

  pub between-apart : (from to : ℕ) → from ≢ to → between ls from to ≡ across ls from to
  unfolding between
  between-apart from to h = rw (ne_eqb from to h)

  -- which they are
  pub record Of (from to : ℕ) (m : Relocation) : Type 0 where
    pub is_from : m.from ≡ from
    pub is_to : m.to ≡ to
    pub apart : from ≢ to
    pub visit_there : m.position < length (at ls from)
    pub place_there : m.place ≤ length (at ls to)

  across_is : (from to : ℕ) → from ≢ to → (m : Relocation) → m ∈ across ls from to → Of from to m
  across_is from to h m i =
      let r = each_in (λ position. into from position to) (range 0 (length (at ls from))) m i in
      let e = into_is from r.0 to m r.2 in
      let p = e.is_position in
      let b = range_in 0 (length (at ls from)) r.0 r.1 in
      record { is_from = e.is_from; is_to = e.is_to; apart = h; visit_there = omega arith; place_there = e.place_there }

  pub between_is : (from to : ℕ) (m : Relocation) → m ∈ between ls from to → Of from to m
  unfolding between
  between_is from to m = go (eqb from to) refl
    where
      go : (t : Bool) → eqb from to ≡ t → m ∈ cond t [] (across ls from to) → Of from to m
      go true e i = not_in i
      go false e i = across_is from to (eqb-false from to e) m i

  is_between : (from position to : ℕ) (m : Relocation) → from ≢ to → position < length (at ls from) → m ∈ into from position to → m ∈ between ls from to
  is_between from position to m h k i =
      rw (between-apart from to h)
      (in_each (λ position. into from position to) (range 0 (length (at ls from))) position m (in_range 0 (length (at ls from)) position (omega arith) k) i)

  -- ---- all relocations

  abbrev others : ℕ → List ℕ
  others from = range 0 from ++ range (suc from) (length ls)

  others_in : (from to : ℕ) → from < length ls → to ∈ others from → (to < length ls) × (from ≢ to)
  others_in from to h i = go (in_either (range 0 from) (range (suc from) (length ls)) to i)
    where
      go : (to ∈ range 0 from) ⊎ (to ∈ range (suc from) (length ls)) → (to < length ls) × (from ≢ to)
      go (inl j) = let b = range_in 0 from to j in (omega arith, λ e. omega arith)
      go (inr j) = let b = range_in (suc from) (length ls) to j in (omega arith, λ e. omega arith)

  in_others : (from to : ℕ) → to < length ls → from ≢ to → to ∈ others from
  in_others from to h k = go (dec_lt to from)
    where
      go : Dec (to < from) → to ∈ others from
      go (yes l) = in_left (range (suc from) (length ls)) (in_range 0 from to (omega arith) l)
      go (no l) = in_right (range 0 from) (in_range (suc from) (length ls) to (omega arith) h)

  abbrev of_visit : ℕ → ℕ → List Relocation
  of_visit from position = each (others from) λ to. into from position to

  abbrev of_list : ℕ → List Relocation
  of_list from = each (range 0 (length (at ls from))) λ position. of_visit from position

  visit_is : (from position : ℕ) (m : Relocation) → m ∈ of_visit from position → (m.from ≡ from) × (m.position ≡ position)
  visit_is from position m i =
      let r = each_in (λ to. into from position to) (others from) m i in
      let e = into_is from position r.0 m r.2 in
      (e.is_from, e.is_position)

  list_is : (from : ℕ) (m : Relocation) → m ∈ of_list from → m.from ≡ from
  list_is from m i =
      let r = each_in (λ position. of_visit from position) (range 0 (length (at ls from))) m i in
      (visit_is from r.0 m r.2).0

  pub relocations_sorted : Sorted Earlier (relocations ls)
  relocations_sorted =
      sorted_each ◌<◌ Earlier of_list (range 0 (length ls)) (range_sorted 0 (length ls))
      (λ from. sorted_each ◌<◌ Earlier (of_visit from) (range 0 (length (at ls from))) (range_sorted 0 (length (at ls from)))
      (λ position. sorted_each ◌<◌ Earlier (into from position) (others from) (others_sorted from (length ls)) (into_sorted from position)
      (λ a b x y h i j.
      let e = into_is from position a x i in
      let f = into_is from position b y j in
      let p = e.is_to in
      let q = f.is_to in
      by_to x y (e.is_from ∙ sym f.is_from) (e.is_position ∙ sym f.is_position) (omega arith)))
      (λ a b x y h i j.
      let e = visit_is from a x i in
      let f = visit_is from b y j in
      let p = e.1 in
      let q = f.1 in
      by_position x y (e.0 ∙ sym f.0) (omega arith)))
      (λ a b x y h i j.
      let p = list_is a x i in
      let q = list_is b y j in
      by_from x y (omega arith))

  -- all relocations are those of the pairs
  abbrev pub OfPairs : ℕ → Relocation → Type 0
  OfPairs n m = (from : ℕ) × (from ∈ range 0 n) × ((to : ℕ) × (to ∈ range 0 n) × (m ∈ between ls from to))

  pub relocation_of : (m : Relocation) → m ∈ relocations ls → OfPairs (length ls) m
  relocation_of m i =
      let r = each_in of_list (range 0 (length ls)) m i in
      let b = range_in 0 (length ls) r.0 r.1 in
      let s = each_in (of_visit r.0) (range 0 (length (at ls r.0))) m r.2 in
      let k = range_in 0 (length (at ls r.0)) s.0 s.1 in
      let u = each_in (into r.0 s.0) (others r.0) m s.2 in
      let o = others_in r.0 u.0 b.1 u.1 in
      (r.0, r.1, (u.0, in_range 0 (length ls) u.0 (omega arith) o.0, is_between r.0 s.0 u.0 m o.1 k.1 u.2))

  pub of_relocations : (m : Relocation) → OfPairs (length ls) m → m ∈ relocations ls
  of_relocations m p = go p.0 (range_in 0 (length ls) p.0 p.1).1 p.2.0 (range_in 0 (length ls) p.2.0 p.2.1).1 p.2.2
    where
      go : (from : ℕ) → from < length ls → (to : ℕ) → to < length ls → m ∈ between ls from to → m ∈ relocations ls
      go from h to k i =
          let e = between_is from to m i in
          let a : m ∈ across ls from to = subst (λ (ms : List Relocation). m ∈ ms) (between-apart from to e.apart) i in
          let r = each_in (λ position. into from position to) (range 0 (length (at ls from))) m a in
          in_each of_list (range 0 (length ls)) from m (in_range 0 (length ls) from (omega arith) h)
          (in_each (of_visit from) (range 0 (length (at ls from))) r.0 m r.1
          (in_each (into from r.0) (others from) to m (in_others from to k e.apart) r.2))

  -- a relocation lies in the lists
  pub relocation_there : (m : Relocation) → m ∈ relocations ls → Moves ls m.from m.position m.to m.place
  relocation_there m i =
      let p = relocation_of m i in
      go p.0 (range_in 0 (length ls) p.0 p.1).1 p.2.0 (range_in 0 (length ls) p.2.0 p.2.1).1 (between_is p.0 p.2.0 m p.2.2)
    where
      go : (from : ℕ) → from < length ls → (to : ℕ) → to < length ls → Of from to m → Moves ls m.from m.position m.to m.place
      go from h to k e = record {
        gives = rw e.is_from h;
        takes = rw e.is_to k;
        apart = rw (e.is_from, e.is_to) e.apart;
        visit_there = rw e.is_from e.visit_there;
        place_there = rw e.is_to e.place_there;
      }
