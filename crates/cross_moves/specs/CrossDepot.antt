-- Cross-depot (local_search/cross_depot.rs), for readers: the plan, the moves between lists of different depots in the order of the Rust's loops, when a move
-- is allowed, what it changes, and what it makes of the plan. Assumes nothing.
--
-- Every move exchanges a stretch of one list for a stretch of another: a relocation one visit for none, a swap one for one, a tail exchange the rest of the
-- one for the rest of the other. So there is one `Move`, and one definition of the two lists that it makes.
use Rattle.std.specs.Prelude.{◌≡◌, ◌⊎◌, Bool, true, false, cond, not, ◌&&◌, ◌||◌, List, [], ◌∷◌, ◌++◌, map, ℕ, zero, suc, ◌+◌, ◌≤◌, ◌<◌, eqb, leb, ltb, ℤ, nat_abs, length, get_or, set, take, drop, Float, Option, Some, None}
use Rattle.std.proofs.Math.Seq.{slice}
use Rattle.std.specs.Float.{nan, inf}
use Rattle.std.specs.Float.Ieee.{lt, neg}
use Rattle.numbers.specs.Operations.{◌⊕◌, ◌⊖◌, zero64}
use Rattle.numbers.specs.Floor.{gain_floor}
use Rattle.day.specs.Matrix.{scale_of}
use Rattle.day.specs.Vehicle.{route_cost, limits_of}
use Rattle.day.specs.declared.vehicle.Van.{Van}
use Rattle.edits.specs.Total.{total}
use Rattle.lists.specs.Table.{lists, lengths_of}
use Rattle.list_changes.specs.Edits.{at, filled}
use Rattle.labels.specs.Columns.{Columns}
use Rattle.evaluation.specs.Route.{eval, priced_distance}
use Rattle.evaluation.specs.declared.route.RouteEval.{RouteEval}
use Rattle.descent.specs.Order.{range, each}
use Rattle.descent.specs.Search.{begins_again, Search, Judge, Sweep, Word, settled, Outcome, next, run}
use Rattle.loads.specs.Loads.{boxes_of}
use Rattle.fleet.specs.Fleet.{Fleet, fleet_vehicle}
use Rattle.cross_moves.specs.declared.pair.Pair.{Pair}
use Rattle.cross_moves.specs.declared.pair.Move.{Move}

-- ---- the plan

-- the Rust's `State` of every route: its visits, the id of its van, and what it costs
pub record Plan : Type 0 where
  pub lists : List (List ℕ)
  pub ids : List ℕ
  pub costs : List Float

-- 01: 'Starting prices are lent, one a list and only read, in place of `total_distance` plus `lateness_cost`': `vehicle.route_cost(..)`, of an empty list too
abbrev pub starting_cost : Fleet → ℕ → Float → Float
starting_cost fleet id price = route_cost (fleet_vehicle fleet id) price

-- the id of the van that `fleet_vehicle` finds, for each list
abbrev pub found_ids : Fleet → List ℕ → List ℕ
found_ids fleet ids = map (λ id. (fleet_vehicle fleet id).id) ids

-- what each list costs at the start, by its van and the price that is lent
unfoldable pub starting_costs : Fleet → List ℕ → List Float → List Float
starting_costs fleet [] prices = []
starting_costs fleet (id ∷ ids) [] = []
starting_costs fleet (id ∷ ids) (price ∷ prices) = starting_cost fleet id price ∷ starting_costs fleet ids prices

-- the plan that is lent: the lists, the ids of their vans, and their prices
abbrev pub lent_plan : Fleet → List (List ℕ) → List ℕ → List Float → Plan
lent_plan fleet ls ids prices = record { lists = ls; ids = found_ids fleet ids; costs = starting_costs fleet (found_ids fleet ids) prices }

-- the plan that the tables hold
abbrev pub plan_of : List ℕ → List ℕ → List ℕ → List Float → Plan
plan_of visits lengths ids costs = record { lists = lists visits lengths; ids = ids; costs = costs }

-- ---- what a list costs

-- a list that its van's evaluation lets pass
unfoldable pub price_of : Van → Option RouteEval → Option Float
price_of van None = None
price_of van (Some e) = Some (route_cost van (priced_distance e))

-- `priced`: 'What a route costs with a vehicle, or `None` when the vehicle does not allow it (an empty route costs nothing)'
unfoldable pub priced_as : Columns → Van → List ℕ → Option Float
priced_as c van [] = Some zero64
priced_as c van (visit ∷ rest) = price_of van (eval c (limits_of van) van.depot (visit ∷ rest))

-- the load is within the van's capacity
unfoldable pub holds : List ℤ → Van → List ℕ → Bool
holds demand van list = leb (total (boxes_of demand) list) (nat_abs van.capacity)

-- the price of a list that a move makes, where its load, if it is tested, is within the capacity
unfoldable pub allowed : Columns → List ℤ → Bool → Van → List ℕ → Option Float
allowed c demand tested van list = cond (not tested || holds demand van list) (priced_as c van list) None

-- there is a price
unfoldable pub has_price : Option Float → Bool
has_price None = false
has_price (Some x) = true

-- the price as a number; a list that isn't allowed would never gain
unfoldable pub amount : Option Float → Float
amount None = inf false
amount (Some x) = x

-- ---- moves

-- a list with another part in the place of its stretch from `from` up to, not including, `to`
abbrev pub replaced : List ℕ → ℕ → ℕ → List ℕ → List ℕ
replaced list from to part = take from list ++ part ++ drop to list

-- the load of the first list is tested
abbrev pub is_tested : Move → Bool
is_tested m = eqb m.tested 1

-- 'The customer at `pos` of `a` goes to position `at` of `b`'; the list that it leaves isn't tested for its load
abbrev pub relocation : ℕ → ℕ → ℕ → ℕ → Move
relocation a b position place = record { one = a; from1 = position; to1 = position + 1; other = b; from2 = place; to2 = place; tested = 0 }

-- where a stretch of a swap or of a tail exchange ends: behind its one visit, or at the list's end
abbrev pub stretch_end : Bool → ℕ → ℕ → ℕ
stretch_end true n k = n
stretch_end false n k = k + 1

-- 'The customer at `pa` of `a` and the one at `pb` of `b` change places', or `a` keeps its first `i` customers, `b` its first `j`, and the rest change places
abbrev pub exchange : Bool → ℕ → ℕ → ℕ → ℕ → ℕ → ℕ → Move
exchange tails a b n1 n2 k1 k2 =
    record { one = a; from1 = k1; to1 = stretch_end tails n1 k1; other = b; from2 = k2; to2 = stretch_end tails n2 k2; tested = 1 }

-- `for pos in 0..n1`, `for at in 0..=n2`
unfoldable pub relocations : ℕ → ℕ → ℕ → ℕ → List Move
relocations a b n1 n2 = each (range 0 n1) λ position. map (relocation a b position) (range 0 (n2 + 1))

-- `for pa in 0..n1`, `for pb in 0..n2`
unfoldable pub swaps : ℕ → ℕ → ℕ → ℕ → List Move
swaps a b n1 n2 = each (range 0 n1) λ pa. map (exchange false a b n1 n2 pa) (range 0 n2)

-- how many cuts of the second list go with a cut of the first: 'Nothing moves when both cut at the end'
abbrev pub cuts : ℕ → ℕ → ℕ → ℕ
cuts n1 n2 i = cond (eqb i n1) n2 (n2 + 1)

-- `for i in 0..=n1`, `for j in 0..=n2`, but for the last cut of both
unfoldable pub tail_exchanges : ℕ → ℕ → ℕ → ℕ → List Move
tail_exchanges a b n1 n2 = each (range 0 (n1 + 1)) λ i. map (exchange true a b n1 n2 i) (range 0 (cuts n1 n2 i))

-- a move between list `one` and list `other`: what it makes of `one`
abbrev pub first : List (List ℕ) → Move → List ℕ
first ls m = replaced (at ls m.one) m.from1 m.to1 (slice m.from2 m.to2 (at ls m.other))

-- and of `other`
abbrev pub second : List (List ℕ) → Move → List ℕ
second ls m = replaced (at ls m.other) m.from2 m.to2 (slice m.from1 m.to1 (at ls m.one))

-- the lists with both
unfoldable pub exchanged_by : List (List ℕ) → Move → List (List ℕ)
exchanged_by ls m = set (set ls m.one (first ls m)) m.other (second ls m)

-- ---- 01: 'Dropped places leave length 0, and vehicle id 0, at the end'

-- of a column by list, the entries of the lists that have a visit
unfoldable pub of_filled : {A : Type 0} → List ℕ → List A → List A
of_filled [] xs = []
of_filled (n ∷ lengths) [] = []
of_filled (zero ∷ lengths) (x ∷ xs) = of_filled lengths xs
of_filled (suc n ∷ lengths) (x ∷ xs) = x ∷ of_filled lengths xs

-- `routes.retain(|r| !r.ids.is_empty())`
unfoldable pub dropped : Plan → Plan
dropped p = record {
  lists = filled p.lists;
  ids = of_filled (lengths_of p.lists) p.ids;
  costs = of_filled (lengths_of p.lists) p.costs;
}

-- the plan after a move whose two lists then cost so much: the empty lists are dropped
unfoldable pub after_move : Plan → Move → Float → Float → Plan
after_move p m cost1 cost2 = dropped (record {
  lists = exchanged_by p.lists m;
  ids = p.ids;
  costs = set (set p.costs m.one cost1) m.other cost2;
})

-- ---- the search

-- two lists by number, with their vans and what they cost together, of the columns of ids and costs
unfoldable pub pair_of : Fleet → List ℕ → List Float → ℕ → ℕ → Pair
pair_of fleet ids costs a b = record {
  one = a;
  other = b;
  van1 = fleet_vehicle fleet (get_or ids a 0);
  van2 = fleet_vehicle fleet (get_or ids b 0);
  before = get_or costs a nan ⊕ get_or costs b nan;
}

-- 'Relocate: out of `a`, into `b`'; 'Swap, each pair of routes once'; 'Tail exchange'
unfoldable pub between_lists : ℕ → ℕ → ℕ → ℕ → List Move
between_lists a b n1 n2 = relocations a b n1 n2 ++ cond (ltb a b) (swaps a b n1 n2 ++ tail_exchanges a b n1 n2) []

-- both vans start from one depot; so do those of a list and itself
abbrev pub same_depot : Pair → Bool
same_depot pair = eqb pair.van1.depot pair.van2.depot

module _ (fleet : Fleet) (p : Plan) where
  -- the moves between two lists, if their vans start from different depots
  unfoldable pub of_pair : ℕ → ℕ → List Move
  of_pair a b =
      cond (same_depot (pair_of fleet p.ids p.costs a b)) [] (between_lists a b (length (at p.lists a)) (length (at p.lists b)))

  -- `for a in 0..routes.len()`, `for b in 0..routes.len()`
  unfoldable pub moves : List Move
  moves = each (range 0 (length p.lists)) λ a. each (range 0 (length p.lists)) (of_pair a)

module _ (c : Columns) (demand : List ℤ) (fleet : Fleet) where
  -- what each of the two lists costs then, if its van allows it
  unfoldable pub first_price : Plan → Move → Option Float
  first_price p m = allowed c demand (is_tested m) (fleet_vehicle fleet (get_or p.ids m.one 0)) (first p.lists m)

  unfoldable pub second_price : Plan → Move → Option Float
  second_price p m = allowed c demand true (fleet_vehicle fleet (get_or p.ids m.other 0)) (second p.lists m)

  -- the plan after a move
  unfoldable pub moved : Plan → Move → Plan
  moved p m = after_move p m (amount (first_price p m)) (amount (second_price p m))

  -- one place; a search begins again after a move
  unfoldable pub search_of : Search Plan Unit Move
  search_of = record {
    places = λ p. tt ∷ [];
    candidates = λ p place. moves fleet p;
    passes = λ p m. has_price (first_price p m) && has_price (second_price p m);
    made = moved;
    after = begins_again;
  }

  -- `cost_a + cost_b - before`, which counts below minus the floor; the greatest gain is the least delta
  unfoldable pub judge_of : Judge Plan Move Float
  judge_of = record {
    delta = λ p m. amount (first_price p m) ⊕ amount (second_price p m) ⊖ (get_or p.costs m.one nan ⊕ get_or p.costs m.other nan);
    counts = λ d. lt d (neg (gain_floor (scale_of c.distances)));
    less = lt;
  }

  -- the run from a plan, with at most `limit` moves
  unfoldable pub run_of : ℕ → Plan → Outcome (Sweep Plan Unit)
  run_of limit p = run (next search_of judge_of) limit (record { now = p; ahead = [] })

-- ---- what an entry answers

-- what a run leaves: its word, its moves, the lists, and the id of the van of each
pub record Ran : Type 0 where
  pub word : Word
  pub moves : ℕ
  pub lists : List (List ℕ)
  pub ids : List ℕ

-- of a run of the search
abbrev pub ran_of : Outcome (Sweep Plan Unit) → Ran
ran_of outcome =
    record { word = outcome.word; moves = outcome.moves; lists = outcome.last.now.lists; ids = outcome.last.now.ids }

-- 01: 'With fewer than two lists, and for cross-depot with an empty fleet, lists return as given'
unfoldable pub cross_ran : Columns → List ℤ → Fleet → ℕ → List (List ℕ) → List ℕ → List Float → Ran
cross_ran c demand fleet limit ls ids prices =
    cond (ltb (length ls) 2 || eqb (length fleet.ids) 0)
    (record { word = settled; moves = 0; lists = ls; ids = ids })
    (ran_of (run_of c demand fleet limit (lent_plan fleet ls ids prices)))

-- ---- what every run keeps

-- a list under the van of an id: its load is within the van's capacity or, as the list that a relocation leaves isn't tested for its load, it carries no
-- more than a list did that was lent under the same van
abbrev pub Carries : List ℤ → Fleet → List (List ℕ) → List ℕ → List ℕ → ℕ → Type 0
Carries demand fleet lent lent-ids list id =
    (total (boxes_of demand) list ≤ nat_abs (fleet_vehicle fleet id).capacity)
    ⊎ ((j : ℕ) × (j < length lent) × (fleet_vehicle fleet id ≡ fleet_vehicle fleet (get_or lent-ids j 0))
    × (total (boxes_of demand) list ≤ total (boxes_of demand) (at lent j)))

-- so each list handed back. Where all lists lent are within their vans' capacities, all handed back are
abbrev pub Carried : List ℤ → Fleet → List (List ℕ) → List ℕ → List (List ℕ) → List ℕ → Type 0
Carried demand fleet lent lent-ids back back-ids = (k : ℕ) → k < length back → Carries demand fleet lent lent-ids (at back k) (get_or back-ids k 0)
