-- Cross-depot's search as its functions state it: one candidate more, the rows of candidates one after another, and the best so far. For src/; the engine's
-- own definition is CrossDepot.antt. Assumes nothing.
use Rattle.std.specs.Prelude.{◌≡◌, Bool, true, false, cond, List, ℕ, ◌+◌, eqb, ltb, ℤ, length, Float, Option, Some, None}
use Rattle.std.proofs.Math.Option as maybe
use Rattle.std.proofs.Math.Option.{none, some}
use Rattle.std.proofs.Math.Seq.{slice}
use Rattle.std.specs.Float.Ieee.{lt, neg}
use Rattle.numbers.specs.Operations.{◌⊕◌, ◌⊖◌, zero64}
use Rattle.list_changes.specs.Edits.{at}
use Rattle.labels.specs.Columns.{Columns, Formed}
use Rattle.descent.specs.Order.{range, scan}
use Rattle.cross_moves.specs.Boxes.{Prefixed}
use Rattle.fleet.specs.Fleet.{Fleet, Driven}
use Rattle.cross_moves.specs.CrossDepot.{Plan, allowed, is_tested, replaced, relocation, exchange, cuts, pair_of, same_depot}
use Rattle.cross_moves.specs.declared.pair.Pair.{Pair}
use Rattle.cross_moves.specs.declared.pair.Move.{Move}
use Rattle.cross_moves.specs.declared.side.Side.{Side}
use Rattle.day.specs.declared.vehicle.Van.{Van}
use Rattle.kept_heads.specs.Kept.{Kept}
use Rattle.loads.specs.Loads.{Two, Loaded}
use Rattle.cross_choices.specs.declared.Choice.{Choice}

-- ---- what a caller shows

-- of what stays the same over a run
pub record Asked (c : Columns) (demand : List ℤ) : Type 0 where
  pub formed : Formed c
  pub loaded : Loaded c.l demand

-- of the vans of two lists
pub record Paired (l : ℕ) (pair : Pair) : Type 0 where
  pub driven1 : Driven l pair.van1
  pub driven2 : Driven l pair.van2

-- of one of two lists, whose loads and heads are worked out
pub record Sided (c : Columns) (demand : List ℤ) (van : Van) (side : Side) : Type 0 where
  pub is_van : side.van ≡ van
  pub driven : Driven c.l side.van
  pub prefixed : Prefixed demand side.list.now side.loads.now.sums
  pub kept : Kept c side.van.depot side.list.now side.heads.now

-- of both
pub record Ready (c : Columns) (demand : List ℤ) (pair : Pair) (one other : Side) : Type 0 where
  pub asked : Asked c demand
  pub two : Two c.l one.list.now other.list.now
  pub first : Sided c demand pair.van1 one
  pub second : Sided c demand pair.van2 other

-- what a move makes of the first list
abbrev pub made1 : List ℕ → List ℕ → Move → List ℕ
made1 X Y m = replaced X m.from1 m.to1 (slice m.from2 m.to2 Y)

-- and of the second
abbrev pub made2 : List ℕ → List ℕ → Move → List ℕ
made2 X Y m = replaced Y m.from2 m.to2 (slice m.from1 m.to1 X)

-- ---- one candidate more

-- with both prices: 'below the best so far' is 'counts' too, since the best starts at minus the floor
unfoldable pub decided : Pair → Move → Option Float → Option Float → Choice → Choice
decided pair m None q best = best
decided pair m (Some x) None best = best
decided pair m (Some x) (Some y) best =
    cond (lt (x ⊕ y ⊖ pair.before) best.delta) (record { found = 1; chosen = m; delta = x ⊕ y ⊖ pair.before; cost1 = x; cost2 = y }) best

module _ (c : Columns) (demand : List ℤ) (pair : Pair) (X Y : List ℕ) where
  -- the prices of the two lists that a move makes
  abbrev pub price1 : Move → Option Float
  price1 m = allowed c demand (is_tested m) pair.van1 (made1 X Y m)

  abbrev pub price2 : Move → Option Float
  price2 m = allowed c demand true pair.van2 (made2 X Y m)

  -- the better of the best so far and a move
  unfoldable pub better : Move → Choice → Choice
  better m best = decided pair m (price1 m) (price2 m) best

  -- ---- rows of candidates

  -- a visit of the first list at a place of the second
  unfoldable pub try_relocation : ℕ → ℕ → Choice → Choice
  try_relocation position place = better (relocation pair.one pair.other position place)

  -- a visit of the first list, or its tail, with one of the second
  unfoldable pub try_exchange : Bool → ℕ → ℕ → Choice → Choice
  try_exchange tails k1 k2 = better (exchange tails pair.one pair.other (length X) (length Y) k1 k2)

  -- with every place of the second
  unfoldable pub relocate_row : ℕ → Choice → Choice
  relocate_row position = scan (try_relocation position) (range 0 (length Y + 1))

  -- with the first `count` of the second
  unfoldable pub exchange_row : Bool → ℕ → ℕ → Choice → Choice
  exchange_row tails k1 count = scan (try_exchange tails k1) (range 0 count)

  unfoldable pub best_relocation : Choice → Choice
  best_relocation = scan relocate_row (range 0 (length X))

  unfoldable pub best_swap : Choice → Choice
  best_swap = scan (λ k1. exchange_row false k1 (length Y)) (range 0 (length X))

  unfoldable pub best_tails : Choice → Choice
  best_tails = scan (λ k1. exchange_row true k1 (cuts (length X) (length Y) k1)) (range 0 (length X + 1))

  -- 'each pair of routes once'
  unfoldable pub best_exchange : Choice → Choice
  best_exchange best = cond (ltb pair.one pair.other) (best_tails (best_swap best)) best

  -- all moves between two lists
  unfoldable pub best_between : Choice → Choice
  best_between best = best_exchange (best_relocation best)

-- ---- all pairs of lists

module _ (c : Columns) (demand : List ℤ) (fleet : Fleet) (p : Plan) where
  -- two lists, if their vans start from different depots
  unfoldable pub best_of_pair : ℕ → ℕ → Choice → Choice
  best_of_pair a b best =
      let pair = pair_of fleet p.ids p.costs a b in
      cond (same_depot pair) best (best_between c demand pair (at p.lists a) (at p.lists b) best)

  unfoldable pub best_from : ℕ → Choice → Choice
  best_from a = scan (best_of_pair a) (range 0 (length p.lists))

  unfoldable pub best_of : Choice → Choice
  best_of = scan best_from (range 0 (length p.lists))

-- one move of the plan more
unfoldable pub better_in : Columns → List ℤ → Fleet → Plan → Move → Choice → Choice
better_in c demand fleet p m =
    better c demand (pair_of fleet p.ids p.costs m.one m.other) (at p.lists m.one) (at p.lists m.other) m

-- no move so far: a delta has to be below minus the floor
abbrev pub nothing : Float → Choice
nothing floor = record {
  found = 0;
  chosen = record { one = 0; from1 = 0; to1 = 0; other = 0; from2 = 0; to2 = 0; tested = 0 };
  delta = neg floor;
  cost1 = zero64;
  cost2 = zero64;
}

-- a move is found
abbrev pub is_found : Choice → Bool
is_found b = eqb b.found 1

-- the move that a choice says
unfoldable pub move_of : Choice → maybe.Option Move
move_of b = elim (is_found b) [ true ↦ some b.chosen | false ↦ none ]
