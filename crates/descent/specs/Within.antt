-- The engines within a list: places and candidates in the order of the Rust's loops, and what each candidate makes of the list.
-- Assumes nothing.
use Rattle.std.specs.Prelude.{true, false, List, [], ◌∷◌, ◌++◌, reverse, map, ℕ, suc, ◌+◌, ◌-◌, leb, ltb, length, take, drop}
use Rattle.std.proofs.Math.Seq.{slice}
use Rattle.descent.specs.Order.{range, each}
use Rattle.descent.specs.Permitted.{Checks, Arrangement, seven, arranged}
use Rattle.descent.specs.Search.{After, goes_on, begins_again, Search}

-- a search within a list: 'the result passes'
abbrev pub search_within : {Place Move : Type 0} → Checks → (List ℕ → List Place) → (List ℕ → Place → List Move) → (List ℕ → Move → List ℕ) → After
    → Search (List ℕ) Place Move
search_within checks places candidates made after = record {
  places = places;
  candidates = candidates;
  passes = λ xs m. checks.passes (made xs m);
  made = made;
  after = after;
}

-- ---- 2-opt. 01: 'Letting the 2-opt sweep start again after a kept reversal: it goes on from there.'

-- 'reverse a run of two or more': from the first position to the last
pub record Reversal : Type 0 where
  pub first : ℕ
  pub last : ℕ

-- `for i in 0..n - 1`, `for j in i + 1..n`
abbrev pub reversals : ℕ → List Reversal
reversals n = each (range 0 (n - 1)) λ i. map (λ j. record { first = i; last = j }) (range (suc i) n)

-- `current[i..=j].reverse()`
abbrev pub turned : List ℕ → Reversal → List ℕ
turned xs r = take r.first xs ++ reverse (slice r.first (suc r.last) xs) ++ drop (suc r.last) xs

-- each pair is a place with one candidate
abbrev pub two_opt_search : Checks → Search (List ℕ) Reversal Reversal
two_opt_search checks = search_within checks (λ xs. reversals (length xs)) (λ xs r. r ∷ []) turned goes_on

-- ---- Or-opt

-- 'a piece [..] goes before the visit at position to of the original list': `size` visits from `from` on
pub record Piece : Type 0 where
  pub size : ℕ
  pub from : ℕ
  pub to : ℕ

-- `for from in 0..=n - seg_len`, `for to in 0..=n - seg_len`, 'not from its start to its end'; `last` gives the last position
abbrev pub pieces : (ℕ → ℕ → ℕ) → ℕ → ℕ → List Piece
pieces last n size =
    each (range 0 (suc (n - size))) λ from.
    map (λ to. record { size = size; from = from; to = to }) (range 0 from ++ range (suc (from + size)) (suc (last n size)))

-- `moved`
abbrev pub put_before_lem : List ℕ → Piece → List ℕ
put_before_lem xs p =
    let behind = p.from + p.size in
    elim (ltb p.to p.from) [
      | true ↦ take p.to xs ++ slice p.from behind xs ++ slice p.to p.from xs ++ drop behind xs
      | false ↦ take p.from xs ++ slice behind p.to xs ++ slice p.from behind xs ++ drop p.to xs
    ]

-- `for seg_len in 1..=3`: each size is a place
abbrev pub or_opt_search : (ℕ → ℕ → ℕ) → Checks → Search (List ℕ) ℕ Piece
or_opt_search last checks = search_within checks (λ xs. 1 ∷ 2 ∷ 3 ∷ []) (λ xs size. pieces last (length xs) size) put_before_lem goes_on

-- ---- 3-opt

-- the list is cut behind its visits i, j and k
pub record Cut : Type 0 where
  pub i : ℕ
  pub j : ℕ
  pub k : ℕ

-- `B` and `C`, the pieces between the cuts, take an arrangement
pub record Reconnection : Type 0 where
  pub cut : Cut
  pub way : Arrangement

-- 'lists of 4 or more'; `for i in 0..n - 2`, `for j in i + 1..n - 1`, `for k in j + 1..n`
abbrev pub cuts : ℕ → List Cut
cuts n = elim (leb 4 n) [
  | true ↦ each (range 0 (n - 2)) λ i. each (range (suc i) (n - 1)) λ j. map (λ k. record { i = i; j = j; k = k }) (range (suc j) n)
  | false ↦ []
]

-- `reconnect`
abbrev pub reconnect : List ℕ → Reconnection → List ℕ
reconnect xs r =
    let b = suc r.cut.i in let c = suc r.cut.j in let d = suc r.cut.k in
    take b xs ++ arranged r.way (slice b c xs) (slice c d xs) ++ drop d xs

-- each cut is a place with seven candidates; after a move `break 'outer`
abbrev pub three_opt_search : Checks → Search (List ℕ) Cut Reconnection
three_opt_search checks = search_within checks (λ xs. cuts (length xs)) (λ xs cut. map (λ way. record { cut = cut; way = way }) seven) reconnect begins_again
