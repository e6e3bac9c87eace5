-- An exchange judged where no window is soft: by its change in distance, and whether both new lists pass. For src/, `tails` and `exchange`; the engine's own
-- definition is `tail-exchange` of descent. Assumes nothing.
use Rattle.std.specs.Prelude.{◌≡◌, Bool, true, ◌&&◌, List, [], ◌∷◌, ℕ, ◌≤◌, ◌<◌, leb, ℤ, Float}
use borrow.Author.Tests.{leb-true}
use Rattle.numbers.specs.Floor.{gain_floor}
use Rattle.day.specs.Matrix.{leg, scale_of}
use Rattle.labels.specs.Columns.{Columns, Formed}
use Rattle.evaluation.specs.Route.{checks_needed}
use Rattle.edits.specs.Total.{total}
use Rattle.list_changes.specs.Edits.{joined}
use Rattle.descent.specs.Permitted.{Checks, room, fits}
use Rattle.descent.proofs.Members.{and_parts}
use Rattle.deltas.specs.Deltas.{exchange_delta}
use Rattle.engine.specs.Engine.{checks_of}
use Rattle.loads.specs.Loads.{boxes_of, measure_of, Loaded}
use Rattle.tail_candidates.specs.declared.Terms.{Terms}

-- what both new lists must meet: 'both loads and both lists pass'
abbrev pub checks_for : Columns → List ℤ → Terms → Checks
checks_for c demand t = checks_of (measure_of demand t.capacity ∷ []) c t.limits t.depot

-- what a run's functions ask of what stays the same
pub record Asked (c : Columns) (demand : List ℤ) (t : Terms) : Type 0 where
  pub formed : Formed c
  pub loaded : Loaded c.l demand
  pub depot_there : t.depot < c.l
  pub needed : t.needed ≡ checks_needed c.flags t.limits
  pub floor : t.floor ≡ gain_floor (scale_of c.distances)

-- a list that meets them has room
has_room : (c : Columns) (demand : List ℤ) (t : Terms) (list : List ℕ) → fits (checks_for c demand t) list ≡ true → total (boxes_of demand) list ≤ t.capacity
has_room c demand t list e =
    let fit = and_parts (room (measure_of demand t.capacity ∷ []) list) ((checks_for c demand t).passes list) e in
    leb-true (total (boxes_of demand) list) t.capacity (and_parts (leb (total (boxes_of demand) list) t.capacity) true fit.0).0

-- the exchanges of this engine
module _ (c : Columns) (demand : List ℤ) (t : Terms) (X Y : List ℕ) where
  abbrev pub delta_by : ℕ → ℕ → Float
  delta_by cut1 cut2 = exchange_delta (leg c.l c.distances) t.depot X Y cut1 cut2

  abbrev pub pass_by : ℕ → ℕ → Bool
  pass_by cut1 cut2 = fits (checks_for c demand t) (joined X cut1 Y cut2) && fits (checks_for c demand t) (joined Y cut2 X cut1)

  -- ---- laws

  -- where an exchange passes both new lists have room
  pub both_have_room : (cut1 cut2 : ℕ) → pass_by cut1 cut2 ≡ true
      → (total (boxes_of demand) (joined X cut1 Y cut2) ≤ t.capacity) × (total (boxes_of demand) (joined Y cut2 X cut1) ≤ t.capacity)
  both_have_room cut1 cut2 e =
      let lists = and_parts (fits (checks_for c demand t) (joined X cut1 Y cut2)) (fits (checks_for c demand t) (joined Y cut2 X cut1)) e in
      (has_room c demand t (joined X cut1 Y cut2) lists.0, has_room c demand t (joined Y cut2 X cut1) lists.1)
