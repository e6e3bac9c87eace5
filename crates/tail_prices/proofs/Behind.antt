-- A new list behind the first list's head: where the head ends at the cut, it is the other list's tail, and the new list shares the head. And what an
-- exchange changes, as the code adds it up. Assumes nothing.
use mathlib.Core.Path.{◌≡◌, ap, ◌∙◌}
use mathlib.Core.List.{List}
use Prim.Native.Nat.{ℕ, ◌+◌, ◌-◌, ◌≤◌}
use native.Mathlib.Omega.{arith}
use lib.ListN.{length, take, drop, length-drop}
use lib.Ieee.{Float}
use lib.Seq.{take_at, drop_at, get_or-drop, length-take-le}
use Rattle.numbers.specs.Operations.{◌⊕◌, ◌⊖◌}
use Rattle.edits.proofs.Cuts.{to_end, lent}
use Rattle.day.specs.declared.vehicle.RouteLimits.{RouteLimits}
use Rattle.labels.specs.Columns.{Columns, Visits}
use Rattle.evaluation.specs.Route.{effective_cost}
use Rattle.heads.specs.Head.{Driven}
use Rattle.heads.specs.declared.Head.{Head}
use Rattle.head_prices.specs.Prices.{price_from}
use Rattle.head_prices.proofs.Prices.{from_head}
use Rattle.list_changes.specs.Edits.{joined}
use Rattle.loads.specs.Loads.{Two}
use Rattle.tail_prices.specs.Tails.{change}
use Rattle.tail_prices.specs.Changes.{cost_by, Priced}
use Rattle.tail_candidates.specs.declared.two_lists.TwoLists.{TwoLists}
use Rattle.tail_prices.specs.declared.Figures.{Figures}

module _ (l : ℕ) (X Y : List ℕ) (two : Two l X Y) where
  -- each of two lists
  pub first_visits : Visits l X
  first_visits = record { few = omega (arith, two.few); below = two.one_below }

  pub second_visits : Visits l Y
  second_visits = record { few = omega (arith, two.few); below = two.other_below }

  -- a tail of the second, lent
  pub tail_visits : (cut2 : ℕ) → cut2 ≤ length Y → Visits l (take (length Y - cut2) (drop cut2 Y))
  tail_visits cut2 h =
      let long : length (drop cut2 Y) ≡ length Y - cut2 = length-drop cut2 Y in
      rw (lent cut2 (length Y) Y h, to_end cut2 Y) (record {
        few = omega (arith, long, two.few);
        below = λ k there. rw (get_or-drop cut2 Y k 0) (two.other_below (cut2 + k) (omega (arith, long)));
      })

module _ (X Y : List ℕ) (cut1 cut2 visits : ℕ) (within1 : cut1 ≤ length X) (at_cut : visits ≡ cut1) where
  tail_behind : cut2 ≤ length Y → take (length Y - cut2) (drop cut2 Y) ≡ drop visits (joined X cut1 Y cut2)
  tail_behind h =
      lent cut2 (length Y) Y h ∙ to_end cut2 Y
      ∙ rw (at_cut, drop_at (take cut1 X) (drop cut2 Y) cut1 (length-take-le cut1 X within1))

  shares : take visits (joined X cut1 Y cut2) ≡ take visits X
  shares = rw (at_cut, take_at (take cut1 X) (drop cut2 Y) cut1 (length-take-le cut1 X within1))

-- what is driven behind the head is what the new list costs
pub price_behind : (c : Columns) (limits : RouteLimits) (depot : ℕ) (X Y : List ℕ) (cut1 cut2 : ℕ) (head : Head) → Driven c limits.rest depot X head
    → head.visits ≡ cut1 → (cut1 ≤ length X) × (cut2 ≤ length Y)
    → price_from c limits depot head (take (length Y - cut2) (drop cut2 Y)) ≡ effective_cost c limits depot (joined X cut1 Y cut2)
price_behind c limits depot X Y cut1 cut2 head driven at_cut within =
    ap (price_from c limits depot head) (tail_behind X Y cut1 cut2 head.visits within.0 at_cut within.1)
    ∙ from_head c limits depot X (joined X cut1 Y cut2) head driven (shares X Y cut1 cut2 head.visits within.0 at_cut)

-- what the code computes is the definition's change
pub same-change : (two : TwoLists) (f : Figures) (newX newY : List ℕ) → Priced two f → (x new1 new2 : Float) → new1 ≡ cost_by two newX
    → new2 ≡ cost_by two newY → x ≡ new1 ⊕ new2 ⊖ f.one.cost ⊖ f.other.cost → x ≡ change (cost_by two) two.one.now two.other.now newX newY
same-change two f newX newY costs x new1 new2 e1 e2 e = rw (e, e1, e2, costs.first_cost, costs.second_cost)
