-- A soft run keeps the visits of its list, whatever its numbers: each neighbour is a candidate of 2-opt, of Or-opt with its reach to the end, or of 3-opt,
-- where everything passes, so it is a permitted move of that engine, and these keep the visits.
use mathlib.Core.Path.{◌≡◌, refl}
use mathlib.Core.Bool.{true}
use mathlib.Core.Option.{some}
use mathlib.Core.List.{List, []}
use Prim.Native.Nat.{ℕ, ◌+◌}
use native.Mathlib.Omega.{arith}
use lib.ListN.{length}
use lib.Ieee.{Float}
use Rattle.day.specs.declared.vehicle.RouteLimits.{RouteLimits}
use Rattle.edits.specs.Total.{SameVisits}
use Rattle.edits.proofs.Kept.{same_on}
use Rattle.labels.specs.Columns.{Columns}
use Rattle.evaluation.specs.Route.{effective_cost}
use Rattle.descent.specs.Order.{◌∈◌, here, range}
use Rattle.descent.specs.Permitted.{Checks, two_opt, or_opt, three_opt}
use Rattle.descent.specs.Search.{Sweep, next}
use Rattle.descent.specs.Within.{Reversal, reversals, turned, Piece, pieces, put_before_lem, Cut, Reconnection, cuts, reconnect}
use Rattle.descent.proofs.Members.{map_in, each_in}
use Rattle.descent.proofs.Kept.{permitted_keeps}
use Rattle.descent.proofs.Demand3.{faithful}
use Rattle.descent.proofs.Runs.{ran, chain_map, chain_keeps}
use Rattle.descent.proofs.Sweeps.{next-some}
use Rattle.neighbours.specs.Neighbours.{Neighbourhood, Reverse, Relocate, Reconnect, Neighbour, reversal, relocation, reconnection, ways, to_the_end, neighbours, made}
use Rattle.soft_neighbours.specs.SoftSearch.{soft_search, soft_judge}
use Rattle.soft.specs.Soft.{soft_run}

-- everything passes
abbrev free : Checks
free = record { measures = []; passes = λ list. true }

one_less : (a b : ℕ) → a + 0 ≡ b + 0 → a ≡ b
one_less a b h = omega arith

-- ---- a neighbour keeps the visits

turned_same : (list : List ℕ) (r : Reversal) → r ∈ reversals (length list) → SameVisits list (turned list r)
turned_same list r h f =
    one_less _ _ ((permitted_keeps two_opt free list (turned list r)
    ((faithful two_opt free tt).permits list r (record { place = r; place_in = h; move_in = here }) refl)).sums f)

moved_same : (list : List ℕ) (size : ℕ) (p : Piece) → size ∈ range 1 4 → p ∈ pieces to_the_end (length list) size → SameVisits list (put_before_lem list p)
moved_same list size p s h f =
    one_less _ _ ((permitted_keeps (or_opt to_the_end) free list (put_before_lem list p)
    ((faithful (or_opt to_the_end) free (λ n q. omega arith)).permits list p (record { place = size; place_in = s; move_in = h }) refl)).sums f)

reconnected_same : (list : List ℕ) (cut : Cut) (r : Reconnection) → cut ∈ cuts (length list) → r ∈ ways cut → SameVisits list (reconnect list r)
reconnected_same list cut r s h f =
    one_less _ _ ((permitted_keeps three_opt free list (reconnect list r)
    ((faithful three_opt free tt).permits list r (record { place = cut; place_in = s; move_in = h }) refl)).sums f)

made_same : (which : Neighbourhood) (list : List ℕ) (m : Neighbour) → m ∈ neighbours which (length list) → SameVisits list (made list m)
unfolding neighbours made
made_same Reverse list m h = let r = map_in reversal (reversals (length list)) m h in rw (← r.2) (turned_same list r.0 r.1)
made_same Relocate list m h =
    let p = map_in relocation _ m h in
    let s = each_in (pieces to_the_end (length list)) (range 1 4) p.0 p.1 in
    rw (← p.2) (moved_same list s.0 p.0 s.1 s.2)
made_same Reconnect list m h =
    let r = map_in reconnection _ m h in
    let s = each_in ways (cuts (length list)) r.0 r.1 in
    rw (← r.2) (reconnected_same list s.0 r.0 s.1 s.2)

-- ---- and so does a run

module _ (which : Neighbourhood) (c : Columns) (limits : RouteLimits) (depot : ℕ) (floor : Float) where
  step : (a b : Sweep (List ℕ) Unit) → Unit {0} → next (soft_search which) (soft_judge (effective_cost c limits depot) floor) a ≡ some b
      → Unit {0} × SameVisits a.now b.now
  step a b good q =
      let f = next-some (soft_search which) (soft_judge (effective_cost c limits depot) floor) a b (λ p h. here) q in
      (tt, rw f.is (made_same which a.now f.move f.move_in))

  pub soft_same : (limit : ℕ) (list : List ℕ) → SameVisits list (soft_run which c limits depot floor limit list).last.now
  unfolding soft_run
  soft_same limit list =
      let told = ran (next (soft_search which) (soft_judge (effective_cost c limits depot) floor)) limit (record { now = list; ahead = [] }) in
      let seen = chain_map SameVisits (λ s. s.now) (λ s. Unit {0}) step tt told.chain in
      chain_keeps SameVisits (λ x f. refl) (λ x y z r k. same_on x y z r k) seen.1
