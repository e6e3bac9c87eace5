-- The moves that document 01 permits each engine, under 'Permitted moves'. For the claim (Claim.antt). Assumes nothing.
use Rattle.std.specs.Prelude.{◌≡◌, ◌≢◌, Bool, true, false, ◌&&◌, List, [], ◌∷◌, ◌++◌, reverse, ℕ, ◌-◌, ◌≤◌, ◌<◌, T, leb, length, get_or, set}
use Rattle.edits.specs.Total.{total}
use Rattle.descent.specs.Order.{◌∈◌}

-- ---- what a list must meet

-- what an office needs of a van, and what the van has: boxes today (02, F-1 adds a measure)
pub record Measure : Type 0 where
  pub demand : ℕ → ℕ
  pub capacity : ℕ

-- the measures, and 'passes': `route_feasible` where `route_checks_needed`, else always true
pub record Checks : Type 0 where
  pub measures : List Measure
  pub passes : List ℕ → Bool

-- 'a list's load, its visits' demands added up'
abbrev pub load : Measure → List ℕ → ℕ
load m = total m.demand

-- 'has capacity': in every measure
abbrev pub room : List Measure → List ℕ → Bool
room [] X = true
room (m ∷ ms) X = leb (load m X) m.capacity && room ms X

-- 'has capacity and passes'
abbrev pub fits : Checks → List ℕ → Bool
fits checks X = room checks.measures X && checks.passes X

-- 'The giver isn't tested'; with the switch on (02, F-3) it passes, and an emptied list does
abbrev pub giver_passes : Bool → Checks → List ℕ → Bool
giver_passes false checks X = true
giver_passes true checks [] = true
giver_passes true checks (x ∷ X) = checks.passes (x ∷ X)

-- ---- moves within a list

-- 2-opt (Croes 1958): 'reverse a run of two or more; the result passes'
pub data Reversed (passes : List ℕ → Bool) : List ℕ → List ℕ → Type 0 where
  reversed : (A B C : List ℕ) → 2 ≤ length B → T (passes (A ++ reverse B ++ C)) → Reversed passes (A ++ B ++ C) (A ++ reverse B ++ C)

-- an arrangement of two pieces B and C: are they exchanged, is B turned round, is C
abbrev pub Arrangement : Type 0
Arrangement = Bool × Bool × Bool

-- a piece as it is, or turned round
abbrev pub turn : Bool → List ℕ → List ℕ
turn false P = P
turn true P = reverse P

-- two pieces in their order, or exchanged
abbrev pub in_order : Bool → List ℕ → List ℕ → List ℕ
in_order false B C = B ++ C
in_order true B C = C ++ B

-- the two pieces as an arrangement has them
abbrev pub arranged : Arrangement → List ℕ → List ℕ → List ℕ
arranged a B C = in_order a.0 (turn a.1 B) (turn a.2 C)

-- all but the one that changes nothing, as the Rust's patterns 1 to 7
abbrev pub seven : List Arrangement
seven =
    (false, false, true) ∷ (false, true, false) ∷ (false, true, true)
    ∷ (true, false, false) ∷ (true, true, false) ∷ (true, false, true) ∷ (true, true, true) ∷ []

-- 3-opt (Lin 1965): 'lists of 4 or more; the first visit stays; pieces B and C take one of seven rearrangements; the result passes'
pub data Reconnected (passes : List ℕ → Bool) : List ℕ → List ℕ → Type 0 where
  reconnected : (A B C D : List ℕ) (a : Arrangement) → a ∈ seven → 4 ≤ length (A ++ B ++ C ++ D) → 1 ≤ length A → 1 ≤ length B → 1 ≤ length C
      → T (passes (A ++ arranged a B C ++ D)) → Reconnected passes (A ++ B ++ C ++ D) (A ++ arranged a B C ++ D)

-- Or-opt (Or 1976): 'a piece of 1 to 3, shorter than the list, goes before the visit at position to of the original list, 0 to n minus the
-- piece's length, not from its start to its end; the result passes'. So the piece P goes to the front of the visits B before it, or behind the
-- visits B after it; `last n p` is the last position that a piece of p visits may have in a list of n (02, F-9 changes it).
pub data PieceMoved (last : ℕ → ℕ → ℕ) (passes : List ℕ → Bool) : List ℕ → List ℕ → Type 0 where
  earlier : (A B P C : List ℕ) → 1 ≤ length P → length P ≤ 3 → 1 ≤ length B
      → T (passes (A ++ P ++ B ++ C)) → PieceMoved last passes (A ++ B ++ P ++ C) (A ++ P ++ B ++ C)
  later : (A P B C : List ℕ) → 1 ≤ length P → length P ≤ 3 → 1 ≤ length B → length (A ++ P ++ B) ≤ last (length (A ++ P ++ B ++ C)) (length P)
      → T (passes (A ++ B ++ P ++ C)) → PieceMoved last passes (A ++ P ++ B ++ C) (A ++ B ++ P ++ C)

-- 'n minus the piece's length'
abbrev pub n_minus_length : ℕ → ℕ → ℕ
n_minus_length n p = n - p

-- ---- moves between two lists

-- of the lists `ls` two, at different numbers, change: the one from X to X', the other from Y to Y'
pub record Changed (X Y X' Y' : List ℕ) (ls ms : List (List ℕ)) : Type 0 where
  pub i : ℕ
  pub j : ℕ
  pub apart : i ≢ j
  pub i_there : i < length ls
  pub j_there : j < length ls
  pub at_i : get_or ls i [] ≡ X
  pub at_j : get_or ls j [] ≡ Y
  pub becomes : ms ≡ set (set ls i X') j Y'

-- tail exchange (Potvin and Rousseau 1995): 'each head has one visit or more; both loads and both lists pass'
pub data TailsExchanged (checks : Checks) (ls ms : List (List ℕ)) : Type 0 where
  tails_exchanged : (A B C D : List ℕ) → 1 ≤ length A → 1 ≤ length C → Changed (A ++ B) (C ++ D) (A ++ D) (C ++ B) ls ms
      → T (fits checks (A ++ D)) → T (fits checks (C ++ B)) → TailsExchanged checks ls ms

-- relocate: 'one visit goes to any place of another list, an empty one included; the receiver has capacity and passes'
pub data Relocated (giver-tested : Bool) (checks : Checks) (ls ms : List (List ℕ)) : Type 0 where
  relocated : (v : ℕ) (A B C D : List ℕ) → Changed (A ++ v ∷ B) (C ++ D) (A ++ B) (C ++ v ∷ D) ls ms
      → T (fits checks (C ++ v ∷ D)) → T (giver_passes giver-tested checks (A ++ B)) → Relocated giver-tested checks ls ms

-- ---- the five engines

-- 'whichever of the five engines runs': Or-opt with its last position, relocate with its switch
pub data Engine : Type 0 where
  two_opt : Engine
  three_opt : Engine
  or_opt : (last : ℕ → ℕ → ℕ) → Engine
  tail_exchange : Engine
  relocate : (giver-tested : Bool) → Engine

-- what an engine works on: 'For 2-opt, 3-opt and Or-opt the list asked for alone counts as the lists lent and the lists handed back'
abbrev pub State : Engine → Type 0
State two_opt = List ℕ
State three_opt = List ℕ
State (or_opt last) = List ℕ
State tail_exchange = List (List ℕ)
State (relocate giver-tested) = List (List ℕ)

-- what an engine works on, as lists
abbrev pub lists : (e : Engine) → State e → List (List ℕ)
lists two_opt xs = xs ∷ []
lists three_opt xs = xs ∷ []
lists (or_opt last) xs = xs ∷ []
lists tail_exchange ls = ls
lists (relocate giver-tested) ls = ls

-- the moves permitted each engine
abbrev pub Permitted : (e : Engine) → Checks → State e → State e → Type 0
Permitted two_opt checks = Reversed checks.passes
Permitted three_opt checks = Reconnected checks.passes
Permitted (or_opt last) checks = PieceMoved last checks.passes
Permitted tail_exchange checks = TailsExchanged checks
Permitted (relocate giver-tested) checks = Relocated giver-tested checks
