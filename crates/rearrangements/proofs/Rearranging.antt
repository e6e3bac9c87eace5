-- An entry across lists: a refused call changes nothing; otherwise the tables hold the lists that the run left, and the dropping packs the lengths, which
-- leaves the visits where they are, since an empty list has none. Assumes nothing.
use Prim.Native.Nat.{ℕ, suc, ◌-◌}
use mathlib.Core.Path.{◌≡◌, refl, sym, ap, subst, ◌∙◌}
use mathlib.Core.Bool.{true, false}
use mathlib.Core.Option.{Option, none, some}
use Rattle.std.specs.Prelude.{Result, Ok, Err}
use Rattle.std.specs.Result.{IsErrAnd}
use mathlib.Core.List.{List, [], ◌∷◌, ◌++◌}
use native.Mathlib.Omega.{arith}
use borrow.Author.Tests.{le-ltb}
use lib.IntN.{pos}
use lib.Signed.{le_z}
use lib.ListN.{length, take, drop, replicate}
use lib.Seq.{take-append_seam}
use Rattle.tests.specs.All.{and_first}
use Rattle.day.specs.Day.{Day}
use Rattle.day.specs.Number.{number, number_some}
use Rattle.day.specs.Refusal.{capacity_ok, van_ok}
use Rattle.day.specs.declared.refusal.Refusal.{Refusal}
use Rattle.day.specs.declared.vehicle.Van.{Van}
use Rattle.lists.specs.Table.{sum, lists, flat, lengths_of}
use Rattle.list_changes.specs.Edits.{Edited, nonzero, packed}
use Rattle.lists.proofs.Tables.{flat-lists, lengths_lists, lists-flat, length_lengths}
use Rattle.list_changes.proofs.Packing.{lists_append}
use Rattle.descent.specs.Permitted.{Engine, State, tail_exchange, relocate}
use Rattle.descent.specs.Search.{Word, settled, stopped}
use Rattle.descent.specs.Claim.{Claim, filled, dropped}
use Rattle.deltas.specs.Judged.{Lent, roads_of}
use Rattle.deltas.proofs.Exact.{float_demand_3}
use Rattle.engine.specs.Engine.{ended_as}
use Rattle.engine.specs.declared.Ended.{Ended}
use Rattle.loads.specs.Loads.{Loaded, Held}
use Rattle.loads.proofs.Boxes.{loaded_of}
use Rattle.loads.proofs.Tables.{held_of}
use Rattle.exchange_sweeps.proofs.Tables.{lent_of}
use Rattle.across.specs.Across.{Ran, hard_exchange, exchange_ran, hard_relocate, relocate_ran}
use Rattle.across.proofs.Hard.{exchange_hard, relocate_hard}
use Rattle.refusals.specs.Refusal.{refusal_of_lists, FineLists, fine_lists}
use Rattle.refusals.specs.Answered.{refused_as, refused_by, handed_on, answered}
use Rattle.rearrangements.specs.Rearrange.{Over, setting_of, run_over, rearranged_as, rearranged_of, over_answer, padded}
use Rattle.rearrangements.specs.Rearrange.{rearrange_answer, rearrange_visits, rearrange_lengths, lengths_left, number_left, reported_over, remaining_in}
use Rattle.claims.specs.Demand3.{WholeDay, map_for, checks_for, Report, Claimed}
use Rattle.claims.proofs.Whole.{whole_map}
use Rattle.rearrangements.specs.declared.Rearranged.{Rearranged}

-- ---- the dropping

nonzero_lengths : (ls : List (List ℕ)) → nonzero (lengths_of ls) ≡ lengths_of (filled ls)
unfolding nonzero lengths_of
nonzero_lengths [] = refl
nonzero_lengths ([] ∷ ls) = nonzero_lengths ls
nonzero_lengths ((x ∷ xs) ∷ ls) = ap (λ ns. suc (length xs) ∷ ns) (nonzero_lengths ls)

flat-filled : (ls : List (List ℕ)) → flat (filled ls) ≡ flat ls
unfolding flat
flat-filled [] = refl
flat-filled ([] ∷ ls) = flat-filled ls
flat-filled ((x ∷ xs) ∷ ls) = ap (λ ys. (x ∷ xs) ++ ys) (flat-filled ls)

flat-dropped : (ls : List (List ℕ)) → flat (dropped ls) ≡ flat ls
flat-dropped [] = refl
flat-dropped (xs ∷ []) = refl
flat-dropped (xs ∷ ys ∷ ls) = flat-filled (xs ∷ ys ∷ ls)

number_left_lem : (ls : List (List ℕ)) → number_left (lengths_of ls) ≡ length (dropped ls)
unfolding number_left lengths_of
number_left_lem [] = refl
number_left_lem (xs ∷ []) = refl
number_left_lem (xs ∷ ys ∷ ls) =
    rw (le-ltb (suc (suc (length (lengths_of ls)))) 2 (omega arith)) (ap length (nonzero_lengths (xs ∷ ys ∷ ls)) ∙ length_lengths (filled (xs ∷ ys ∷ ls)))

lengths_left_lem : (ls : List (List ℕ)) → lengths_left (lengths_of ls) ≡ padded (length ls) (dropped ls)
unfolding lengths_left lengths_of padded packed
lengths_left_lem [] = refl
lengths_left_lem (xs ∷ []) = refl
lengths_left_lem (xs ∷ ys ∷ ls) =
    rw (le-ltb (suc (suc (length (lengths_of ls)))) 2 (omega arith))
    (rw (nonzero_lengths (xs ∷ ys ∷ ls), length_lengths ls, length_lengths (filled (xs ∷ ys ∷ ls))))

-- the lists handed back can be read off the tables
pub lists_back : (n : ℕ) (ls : List (List ℕ)) → take (length ls) (lists (flat ls) (padded n ls)) ≡ ls
unfolding padded
lists_back n ls =
    let rest = lists (drop (sum (lengths_of ls)) (flat ls)) (replicate (n - length ls) 0) in
    let parts = lists_append (flat ls) (lengths_of ls) (replicate (n - length ls) 0) ∙ ap (λ front. front ++ rest) (lists-flat ls) in
    ap (take (length ls)) parts ∙ take-append_seam ls rest

-- ---- a call

pub rearranged_as_lem : (w : Word) (moves remaining : ℕ) → rearranged_of (ended_as w moves) remaining ≡ rearranged_as w moves remaining
unfolding rearranged_of ended_as rearranged_as
rearranged_as_lem settled moves remaining = refl
rearranged_as_lem stopped moves remaining = refl

-- tables that were edited are those of the lists that they hold
pub edited_tables : (visits lengths visits' lengths' : List ℕ) (ls : List (List ℕ)) → Edited visits lengths visits' lengths' ls
    → (visits' ≡ flat ls) × (lengths' ≡ lengths_of ls) × (length ls ≡ length lengths)
edited_tables visits lengths visits' lengths' ls e =
    let flat-is = sym (flat-lists visits' lengths' e.laid.add_up) ∙ ap flat e.holds in
    let lengths-are = sym (lengths_lists visits' lengths' e.laid.add_up) ∙ ap lengths_of e.holds in
    (flat-is, lengths-are, sym (length_lengths ls) ∙ ap length (sym lengths-are) ∙ e.number)

module _ (engine : Over) (d : Day) (van : Van) (visits lengths : List ℕ) (limit : ℕ) where
  -- what a refused call answers and leaves
  pub refused_over : (x : Result Rearranged Refusal) (r : Refusal) → IsErrAnd x (λ y. y ≡ r) → number r ≡ refusal_of_lists d van visits lengths
      → (x ≡ rearrange_answer engine d van visits lengths limit) × (visits ≡ rearrange_visits engine d van visits lengths limit)
      × (lengths ≡ rearrange_lengths engine d van visits lengths limit)
  unfolding rearrange_answer rearrange_visits rearrange_lengths
  refused_over x r handed e = (
    handed_on _ x r _ handed e,
    refused_by (λ m. visits) _ (number r) _ (number_some r) e,
    refused_by (λ m. lengths) _ (number r) _ (number_some r) e,
  )

  -- what a call that isn't refused answers and leaves
  pub rearranged_over : 0 ≡ refusal_of_lists d van visits lengths → (visits' lengths' last : List ℕ) (end : Ended) (remaining : ℕ) (r : Rearranged)
      → (let ran = run_over engine d van visits lengths limit in
      Edited visits lengths visits' lengths' ran.lists → end ≡ ended_as ran.word ran.moves → remaining ≡ number_left lengths'
      → last ≡ lengths_left lengths' → r ≡ rearranged_of end remaining
      → (Ok r ≡ rearrange_answer engine d van visits lengths limit) × (visits' ≡ rearrange_visits engine d van visits lengths limit)
      × (last ≡ rearrange_lengths engine d van visits lengths limit))
  unfolding rearrange_answer rearrange_visits rearrange_lengths over_answer
  rearranged_over e visits' lengths' last end remaining r edited ends number left answer =
      let ran = run_over engine d van visits lengths limit in
      let is = edited_tables visits lengths visits' lengths' ran.lists edited in
      let left_over : remaining ≡ length (dropped ran.lists) = number ∙ ap number_left is.1 ∙ number_left_lem ran.lists in (
        answered refused_as _ 0 _ _ refl e (ap Ok (answer ∙ ap (λ x. rearranged_of x remaining) ends
            ∙ rearranged_as_lem ran.word ran.moves remaining ∙ ap (rearranged_as ran.word ran.moves) left_over)),
        answered (λ m. visits) _ 0 _ _ refl e (is.0 ∙ sym (flat-dropped ran.lists)),
        answered (λ m. lengths) _ 0 _ _ refl e (left ∙ ap lengths_left is.1 ∙ lengths_left_lem ran.lists
            ∙ ap (λ count. padded count (dropped ran.lists)) is.2),
      )

-- a refused call reports nothing
pub no_report : (x : Result Rearranged Refusal) (r : Refusal) → IsErrAnd x (λ y. y ≡ r) → (remaining_in x ≡ 0) × (reported_over x ≡ none)
no_report (Ok y) r handed = absurd handed
no_report (Err y) r handed = (refl, refl)

-- what an answer reports, and the lists that it hands back
pub reports_over : (w : Word) (moves remaining : ℕ)
    → (reported_over (Ok (rearranged_as w moves remaining)) ≡ some (record { word = w; moves = moves }))
    × (remaining_in (Ok (rearranged_as w moves remaining)) ≡ remaining)
unfolding rearranged_as
reports_over settled moves remaining = (refl, refl)
reports_over stopped moves remaining = (refl, refl)

-- ---- what the engines ask

-- a van that isn't refused has a capacity in range
capacity_of : (van : Van) → van_ok van ≡ true → capacity_ok van.capacity ≡ true
unfolding van_ok
capacity_of van fine = and_first (capacity_ok van.capacity) _ fine

-- not below 0
pub capacity_above : (van : Van) → van_ok van ≡ true → le_z (pos 0) van.capacity ≡ true
unfolding capacity_ok
capacity_above van fine = and_first (le_z (pos 0) van.capacity) _ (capacity_of van fine)

module _ (d : Day) (van : Van) (visits lengths : List ℕ) (f : FineLists d van visits lengths) where
  pub loaded : Loaded d.l d.demand
  loaded = loaded_of d.l d.flags d.demand d.service d.penalty f.day.shaped.demand f.day.locations

  pub held : Held d.l visits lengths
  held = held_of _ d.l visits lengths (omega (arith, f.van_fine.depot, f.day.shaped.few)) f.table

  pub capacity-fine : capacity_ok van.capacity ≡ true
  capacity-fine = capacity_of van f.van_fine.van

  pub capacity-there : le_z (pos 0) van.capacity ≡ true
  capacity-there = capacity_above van f.van_fine.van

-- ---- demand 3

module _ (d : Day) (van : Van) (visits lengths : List ℕ) (limit : ℕ) (f : FineLists d van visits lengths) where
  abbrev ClaimOf : (e : Engine) → State e → State e → State e → ℕ → Word → Type 0
  ClaimOf e = Claim e (roads_of (map_for d van)) (checks_for d van) limit

  there : Lent d.l (lists visits lengths)
  there = lent_of d.l visits lengths (held d van visits lengths f)

  exchange_claim : WholeDay d van → let ran = run_over exchange_ran d van visits lengths limit in
      ClaimOf tail_exchange (lists visits lengths) ran.lists (dropped ran.lists) ran.moves ran.word
  unfolding run_over hard_exchange
  exchange_claim whole =
      subst (λ (ran : Ran). ClaimOf tail_exchange (lists visits lengths) ran.lists (dropped ran.lists) ran.moves ran.word)
      (sym (exchange_hard (setting_of d van) limit (lists visits lengths) whole.hard))
      (float_demand_3 (map_for d van) (whole_map d van f.day.shaped.tables.of_distances f.depot whole) tail_exchange (checks_for d van) limit
      (lists visits lengths) tt there)

  relocate_claim : WholeDay d van → let ran = run_over relocate_ran d van visits lengths limit in
      ClaimOf (relocate false) (lists visits lengths) ran.lists (dropped ran.lists) ran.moves ran.word
  unfolding run_over hard_relocate
  relocate_claim whole =
      subst (λ (ran : Ran). ClaimOf (relocate false) (lists visits lengths) ran.lists (dropped ran.lists) ran.moves ran.word)
      (sym (relocate_hard (setting_of d van) limit (lists visits lengths) whole.hard))
      (float_demand_3 (map_for d van) (whole_map d van f.day.shaped.tables.of_distances f.depot whole) (relocate false) (checks_for d van) limit
      (lists visits lengths) tt there)

module _ (engine : Over) (d : Day) (van : Van) (visits lengths : List ℕ) (limit : ℕ) (none : 0 ≡ refusal_of_lists d van visits lengths) where
  -- where nothing is refused, the definitions are the run's
  is_answered : let ran = run_over engine d van visits lengths limit in
      (rearrange_answer engine d van visits lengths limit ≡ Ok (over_answer ran))
      × (rearrange_visits engine d van visits lengths limit ≡ flat (dropped ran.lists))
      × (rearrange_lengths engine d van visits lengths limit ≡ padded (length lengths) (dropped ran.lists))
  unfolding rearrange_answer rearrange_visits rearrange_lengths
  is_answered = (
    sym (answered refused_as _ 0 _ _ refl none refl),
    sym (answered (λ m. visits) _ 0 _ _ refl none refl),
    sym (answered (λ m. lengths) _ 0 _ _ refl none refl),
  )

  -- whatever holds of the lists that the run handed back and its report holds of those read off the tables and the answer
  read_off : (C : List (List ℕ) → Option Report → Type 0)
      → (let ran = run_over engine d van visits lengths limit in C (dropped ran.lists) (some (record { word = ran.word; moves = ran.moves })))
      → (visits' lengths' : List ℕ) (r : Result Rearranged Refusal) → r ≡ rearrange_answer engine d van visits lengths limit
      → visits' ≡ rearrange_visits engine d van visits lengths limit → lengths' ≡ rearrange_lengths engine d van visits lengths limit
      → C (take (remaining_in r) (lists visits' lengths')) (reported_over r)
  unfolding over_answer
  read_off C holds visits' lengths' r answer table sizes =
      let ran = run_over engine d van visits lengths limit in
      let is = is_answered in
      let told = reports_over ran.word ran.moves (length (dropped ran.lists)) in
      rw (answer ∙ is.0, table ∙ is.1, sizes ∙ is.2, told.0, told.1, lists_back (length lengths) (dropped ran.lists)) holds

module _ (d : Day) (van : Van) (visits lengths : List ℕ) (limit : ℕ) (none : 0 ≡ refusal_of_lists d van visits lengths) where
  f : FineLists d van visits lengths
  f = fine_lists d van visits lengths (sym none)

  -- DEMAND 3 of `exchange_improve`
  pub exchange_claimed : (visits' lengths' : List ℕ) (r : Result Rearranged Refusal) → r ≡ rearrange_answer exchange_ran d van visits lengths limit
      → visits' ≡ rearrange_visits exchange_ran d van visits lengths limit → lengths' ≡ rearrange_lengths exchange_ran d van visits lengths limit
      → Claimed tail_exchange d van limit (lists visits lengths) (take (remaining_in r) (lists visits' lengths')) (reported_over r)
  exchange_claimed =
      read_off exchange_ran d van visits lengths limit none (λ back r. Claimed tail_exchange d van limit (lists visits lengths) back r)
      (λ whole. ((run_over exchange_ran d van visits lengths limit).lists, exchange_claim d van visits lengths limit f whole))

  -- DEMAND 3 of `relocate_improve`
  pub relocate_claimed : (visits' lengths' : List ℕ) (r : Result Rearranged Refusal) → r ≡ rearrange_answer relocate_ran d van visits lengths limit
      → visits' ≡ rearrange_visits relocate_ran d van visits lengths limit → lengths' ≡ rearrange_lengths relocate_ran d van visits lengths limit
      → Claimed (relocate false) d van limit (lists visits lengths) (take (remaining_in r) (lists visits' lengths')) (reported_over r)
  relocate_claimed =
      read_off relocate_ran d van visits lengths limit none (λ back r. Claimed (relocate false) d van limit (lists visits lengths) back r)
      (λ whole. ((run_over relocate_ran d van visits lengths limit).lists, relocate_claim d van visits lengths limit f whole))
