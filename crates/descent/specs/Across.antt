-- The engines across lists: places and candidates in the order of the Rust's loops, and what each candidate makes of the lists.
-- Assumes nothing.
use Rattle.std.specs.Prelude.{Bool, ◌&&◌, List, [], ◌∷◌, ◌++◌, map, ℕ, suc, length, get_or, set, take, drop}
use Rattle.descent.specs.Order.{range, each}
use Rattle.descent.specs.Permitted.{Checks, fits, giver_passes}
use Rattle.descent.specs.Search.{goes_on, begins_again, Search}

-- list r of the lists
abbrev pub at : List (List ℕ) → ℕ → List ℕ
at ls r = get_or ls r []

-- ---- tail exchange

-- two lists by number
pub record Pair : Type 0 where
  pub one : ℕ
  pub other : ℕ

-- the first list keeps `cut1` visits, the second `cut2`, and their tails change places
pub record Tails : Type 0 where
  pub pair : Pair
  pub cut1 : ℕ
  pub cut2 : ℕ

-- `for r1 in 0..n`, `for r2 in r1 + 1..n`
abbrev pub pairs : ℕ → List Pair
pairs n = each (range 0 n) λ r1. map (λ r2. record { one = r1; other = r2 }) (range (suc r1) n)

-- `for cut1 in 1..=n1`, `for cut2 in 1..=n2`: 'each head has one visit or more'
abbrev pub tail_cuts : List (List ℕ) → Pair → List Tails
tail_cuts ls p =
    each (range 1 (suc (length (at ls p.one)))) λ cut1.
    map (λ cut2. record { pair = p; cut1 = cut1; cut2 = cut2 }) (range 1 (suc (length (at ls p.other))))

-- `route1[..cut1]` and `route2[cut2..]`
abbrev pub new1 : List (List ℕ) → Tails → List ℕ
new1 ls t = take t.cut1 (at ls t.pair.one) ++ drop t.cut2 (at ls t.pair.other)

-- `route2[..cut2]` and `route1[cut1..]`
abbrev pub new2 : List (List ℕ) → Tails → List ℕ
new2 ls t = take t.cut2 (at ls t.pair.other) ++ drop t.cut1 (at ls t.pair.one)

-- each pair is a place; 'both loads and both lists pass'
abbrev pub tail_exchange_search : Checks → Search (List (List ℕ)) Pair Tails
tail_exchange_search checks = record {
  places = λ ls. pairs (length ls);
  candidates = tail_cuts;
  passes = λ ls t. fits checks (new1 ls t) && fits checks (new2 ls t);
  made = λ ls t. set (set ls t.pair.one (new1 ls t)) t.pair.other (new2 ls t);
  after = goes_on;
}

-- ---- relocate

-- 'one visit goes to any place of another list': the visit at `position` of list `from`, to `place` of list `to`
pub record Relocation : Type 0 where
  pub from : ℕ
  pub position : ℕ
  pub to : ℕ
  pub place : ℕ

-- `a full scan in the order (from route, from position, to route, to position)`
abbrev pub relocations : List (List ℕ) → List Relocation
relocations ls =
    each (range 0 (length ls)) λ from.
    each (range 0 (length (at ls from))) λ position.
    each (range 0 from ++ range (suc from) (length ls)) λ to.
    map (λ place. record { from = from; position = position; to = to; place = place }) (range 0 (suc (length (at ls to))))

-- `remove(from_pos)`
abbrev pub giver : List (List ℕ) → Relocation → List ℕ
giver ls m = take m.position (at ls m.from) ++ drop (suc m.position) (at ls m.from)

-- `insert(to_pos, customer_id)`
abbrev pub receiver : List (List ℕ) → Relocation → List ℕ
receiver ls m = take m.place (at ls m.to) ++ get_or (at ls m.from) m.position 0 ∷ drop m.place (at ls m.to)

-- one place; 'the receiver has capacity and passes. The giver isn't tested' but where the switch is on
abbrev pub relocate_search : Bool → Checks → Search (List (List ℕ)) Unit Relocation
relocate_search giver-tested checks = record {
  places = λ ls. tt ∷ [];
  candidates = λ ls p. relocations ls;
  passes = λ ls m. fits checks (receiver ls m) && giver_passes giver-tested checks (giver ls m);
  made = λ ls m. set (set ls m.from (giver ls m)) m.to (receiver ls m);
  after = begins_again;
}
