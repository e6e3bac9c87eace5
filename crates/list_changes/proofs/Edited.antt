-- What every edit of the tables keeps, from one record: every total over the visits of all lists, so that they hold the same offices; and so of one edit
-- after another. Assumes nothing.
use mathlib.Core.Path.{◌≡◌, refl, sym, ◌∙◌}
use mathlib.Core.List.{List}
use Prim.Native.Nat.{ℕ}
use lib.ListN.{length}
use Rattle.edits.specs.Total.{SameVisits}
use Rattle.edits.proofs.Kept.{same_length}
use Rattle.lists.specs.Table.{Laid, lists, flat, lengths_of}
use Rattle.lists.proofs.Tables.{length-flat, length_lengths, lists_are}
use Rattle.list_changes.specs.Edits.{Edited}

-- tables that are those of lists, with the same visits as before
pub edited_by : (visits lengths visits' lengths' : List ℕ) (ls : List (List ℕ)) → Laid visits lengths → visits' ≡ flat ls → lengths' ≡ lengths_of ls
    → length ls ≡ length lengths → SameVisits visits visits' → Edited visits lengths visits' lengths' ls
edited_by visits lengths visits' lengths' ls laid v n number same =
    let many : length lengths' ≡ length lengths = rw n (length_lengths ls ∙ number) in
    record {
      holds = lists_are visits' lengths' ls v n;
      number = many;
      laid = record {
        few = rw many laid.few;
        add_up = rw (n, v) (sym (length-flat ls));
        size = rw (same_length visits visits' same) laid.size;
      };
      same = same;
    }

-- nothing is changed yet
pub edited_none : (visits lengths : List ℕ) → Laid visits lengths → Edited visits lengths visits lengths (lists visits lengths)
edited_none visits lengths laid = record { holds = refl; number = refl; laid = laid; same = λ f. refl }

-- one edit after another
pub edited_on : (visits lengths visits' lengths' visits'' lengths'' : List ℕ) (ls ms : List (List ℕ))
    → Edited visits lengths visits' lengths' ls → Edited visits' lengths' visits'' lengths'' ms → Edited visits lengths visits'' lengths'' ms
edited_on visits lengths visits' lengths' visits'' lengths'' ls ms d e = record {
  holds = e.holds;
  number = e.number ∙ d.number;
  laid = e.laid;
  same = λ f. e.same f ∙ d.same f;
}
