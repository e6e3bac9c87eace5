-- Two lists of the tables have together no more visits than the table, which keeps its length through a run; and the lists are as demand 3 has them lent.
-- Assumes nothing.
use mathlib.Core.Path.{◌≡◌}
use mathlib.Core.List.{List}
use Prim.Native.Nat.{ℕ, ◌<◌}
use native.Mathlib.Omega.{arith}
use lib.ListN.{length}
use Rattle.edits.specs.Total.{total, total_cong, total_one}
use Rattle.edits.proofs.Kept.{same_length}
use Rattle.lists.specs.Table.{lists, list_of}
use Rattle.list_changes.specs.Edits.{Edited}
use Rattle.lists.proofs.Tables.{at_lists, total-lists}
use Rattle.deltas.specs.Judged.{Lent}
use Rattle.loads.specs.Loads.{Held, Two}
use Rattle.loads.proofs.Tables.{list_visits, two_of}

module _ (l : ℕ) (visits lengths : List ℕ) (held : Held l visits lengths) where
  pub two_lists : (one other : ℕ) → one < other → Two l (list_of visits lengths one) (list_of visits lengths other)
  two_lists one other h = two_of l visits lengths held one other (λ e. omega arith)

  -- demand 3's premise on the lists lent
  pub lent_of : Lent l (lists visits lengths)
  lent_of =
      let each-list = total_cong (total (λ v. 1)) length (lists visits lengths) total_one in
      let all = total-lists visits lengths held.laid.add_up (λ v. 1) in
      let table = total_one visits in
      record {
        visit_there = λ r k h. rw (at_lists visits lengths r) ((list_visits l visits lengths held r).below k (rw (at_lists visits lengths r) at h));
        few = omega (arith, held.few);
      }

-- the table of visits stays as long
pub edited_length : {visits lengths visits' lengths' : List ℕ} {ls : List (List ℕ)} → Edited visits lengths visits' lengths' ls → length visits' ≡ length visits
edited_length {visits = visits} {visits' = visits'} e = same_length visits visits' e.same
