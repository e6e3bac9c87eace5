-- The walk over a list, whichever clock it carries: a fold from a state that is a value, so that it goes on from where it ended. Assumes nothing.
use Rattle.std.specs.Prelude.{ℕ, suc, ◌+◌, ◌<◌, ◌≤◌, ◌≡◌, length, get_or, drop, Float}
use Rattle.std.proofs.Common.{add-one, drop_of_length-le, drop-cons}
use mathlib.Core.List.{List, [], ◌∷◌, ◌++◌, foldl, foldl-append}
use Rattle.numbers.specs.Operations.{◌⊕◌}
use Rattle.labels.specs.Columns.{Columns, leg_in}

-- how far a list is driven: the distance, the clock, and the place where the van is
pub record Tour (Clock : Type 0) : Type 0 where
  pub distance : Float
  pub clock : Clock
  pub place : ℕ

-- the tour of these
abbrev pub tour_of : {Clock : Type 0} → Float → Clock → ℕ → Tour Clock
tour_of distance clock place = record { distance = distance; clock = clock; place = place }

-- one visit more; `tick` says what the way from a place to a visit makes of the clock
abbrev pub onward : {Clock : Type 0} → Columns → (Clock → ℕ → ℕ → Clock) → Tour Clock → ℕ → Tour Clock
onward c tick t visit = tour_of (t.distance ⊕ leg_in c t.place visit) (tick t.clock t.place visit) visit

-- the visits of a list, one after another
abbrev pub walk : {Clock : Type 0} → Columns → (Clock → ℕ → ℕ → Clock) → Tour Clock → List ℕ → Tour Clock
walk c tick t list = foldl (onward c tick) t list

-- ---- laws

module _ {Clock : Type 0} (c : Columns) (tick : Clock → ℕ → ℕ → Clock) where
  -- a walk over A ++ B is the walk over B from where A ended, with a break and without, where it fails too
  pub walk_on : (t : Tour Clock) (first rest : List ℕ) → walk c tick t (first ++ rest) ≡ walk c tick (walk c tick t first) rest
  walk_on t first rest = foldl-append (onward c tick) t first rest

  -- what every visit keeps of the clock, the walk keeps
  pub walk_keeps : (P : Clock → Type 0) → ((k : Clock) (place visit : ℕ) → P k → P (tick k place visit)) →
      (list : List ℕ) (t : Tour Clock) → P t.clock → P (walk c tick t list).clock
  walk_keeps P step [] t p = p
  walk_keeps P step (visit ∷ rest) t p = walk_keeps P step rest (onward c tick t visit) (step t.clock t.place visit p)

  -- what a loop over the list knows at each turn
  module _ (list : List ℕ) (i : ℕ) where
    -- one visit more
    pub walk_turn : (distance x : Float) (k next : Clock) (place : ℕ) → i < length list → x ≡ leg_in c place (get_or list i 0) →
        next ≡ tick k place (get_or list i 0) →
        walk c tick (tour_of (distance ⊕ x) next (get_or list i 0)) (drop (i + 1) list) ≡ walk c tick (tour_of distance k place) (drop i list)
    walk_turn distance x k next place h e f = rw (add-one, drop-cons list i 0 h, e, f)

    -- none is left
    pub walk_end : (t : Tour Clock) → length list ≤ i → t ≡ walk c tick t (drop i list)
    walk_end t h = rw (drop_of_length-le list h)

    -- what holds of the clock after the visit at i, and is kept, holds at the end
    pub walk_lost : (P : Clock → Type 0) → ((k : Clock) (place visit : ℕ) → P k → P (tick k place visit)) → (t : Tour Clock) → i < length list →
        P (tick t.clock t.place (get_or list i 0)) → P (walk c tick t (drop i list)).clock
    walk_lost P step t h p = rw (drop-cons list i 0 h) (walk_keeps P step (drop (suc i) list) (onward c tick t (get_or list i 0)) p)
