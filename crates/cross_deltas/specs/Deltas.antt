-- The table of a run: for each pair of lists the least delta of its moves. The plain search is the definition; these are for the functions that leave out a
-- pair whose least delta is known. Assumes nothing.
use Rattle.std.specs.Prelude.{◌≡◌, ◌⊎◌, Bool, true, cond, not, ◌&&◌, List, ℕ, ◌+◌, ◌*◌, ◌<◌, eqb, ltb, ℤ, length, get_or, set, Float, Option, Some, None}
use Rattle.std.specs.Float.{nan}
use Rattle.std.specs.Float.Ieee.{lt, neg}
use Rattle.labels.specs.Columns.{Columns}
use Rattle.fleet.specs.Fleet.{Fleet}
use Rattle.cross_moves.specs.CrossDepot.{Plan}
use Rattle.cross_choices.specs.Scan.{nothing, best_of_pair}
use Rattle.cross_choices.specs.declared.Choice.{Choice}
use Rattle.cross_deltas.specs.declared.KeptDeltas.{KeptDeltas}

-- the better of two choices, the first of equals
unfoldable pub joined : Choice → Choice → Choice
joined best fresh = cond (lt fresh.delta best.delta) fresh best

-- a best so far: none, or a move that counts
abbrev pub Sunk : Float → Choice → Type 0
Sunk floor best = (best ≡ nothing floor) ⊎ (lt best.delta (neg floor) ≡ true)

-- one of the first `kept` lists, and neither of two
unfoldable pub is_old : ℕ → ℕ → ℕ → ℕ → Bool
is_old kept one other a = ltb a kept && (not (eqb a one) && not (eqb a other))

-- how many lists keep their numbers over a move, of n before it: all, if so many are left
unfoldable pub kept_of : ℕ → ℕ → ℕ
kept_of n left = cond (eqb left n) n 0

-- the least delta of two old lists; the pair (a, b) has place 16 a + b
unfoldable pub known : KeptDeltas → ℕ → ℕ → Option Float
known t a b = cond (is_old t.kept t.one t.other a && is_old t.kept t.one t.other b) (Some (get_or t.deltas (16 * a + b) nan)) None

-- the table with the least delta of a pair
abbrev pub noted : KeptDeltas → ℕ → ℕ → Float → KeptDeltas
noted t a b delta = record { deltas = set t.deltas (16 * a + b) delta; kept = t.kept; one = t.one; other = t.other }

-- which pairs are known stays as it was
abbrev pub SameKnown : KeptDeltas → KeptDeltas → Type 0
SameKnown t before = (t.kept ≡ before.kept) × (t.one ≡ before.one) × (t.other ≡ before.other)

-- the table behind a move between two lists, so many others kept
abbrev pub moved_on : KeptDeltas → ℕ → ℕ → ℕ → KeptDeltas
moved_on t kept one other = record { deltas = t.deltas; kept = kept; one = one; other = other }

module _ (c : Columns) (demand : List ℤ) (fleet : Fleet) (p : Plan) (floor : Float) where
  -- the least delta of a pair that counts, or minus the floor
  unfoldable pub least_of : ℕ → ℕ → Float
  least_of a b = (best_of_pair c demand fleet p a b (nothing floor)).delta

  -- the table has the least deltas of the pairs before place k, and of those of two old lists; the pair (a, b) has place 16 a + b
  pub record Kept (kept one other k : ℕ) (deltas : List Float) : Type 0 where
    pub done : (a b : ℕ) → a < length p.lists → b < length p.lists → 16 * a + b < k → get_or deltas (16 * a + b) nan ≡ least_of a b
    pub old : (a b : ℕ) → a < length p.lists → b < length p.lists → is_old kept one other a ≡ true → is_old kept one other b ≡ true
        → get_or deltas (16 * a + b) nan ≡ least_of a b

  -- the same of a run's table
  pub record KeptIn (k : ℕ) (t : KeptDeltas) : Type 0 where
    pub long : length t.deltas ≡ 256
    pub right : Kept t.kept t.one t.other k t.deltas
