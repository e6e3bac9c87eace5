-- A visit put into a list, and an offer at every place of it as the code goes about it. Assumes nothing.
use mathlib.Core.Path.{◌≡◌}
use mathlib.Core.Bool.{Bool, true}
use mathlib.Core.List.{List, [], ◌∷◌, ◌++◌, append_assoc}
use Prim.Native.Nat.{ℕ, suc, ◌+◌, ◌≤◌, ◌<◌}
use native.Mathlib.Omega.{arith}
use lib.ListN.{length, take, drop}
use lib.Seq.{slice}
use lib.Ieee.{Float, lt}
use Rattle.numbers.specs.Operations.{◌⊕◌}
use Rattle.day.specs.Matrix.{leg}
use Rattle.edits.proofs.Cuts.{to_end}
use Rattle.labels.specs.Columns.{Columns}
use Rattle.descent.specs.Order.{range}
use Rattle.deltas.specs.Deltas.{insertion_delta}
use Rattle.engine.specs.Engine.{passing}
use Rattle.edits.specs.Edits.{inserted}
use Rattle.places.specs.Places.{best_among}
use Rattle.places.specs.declared.Setup.{Setup}
use Rattle.relocations.specs.Offers.{better}
use Rattle.relocations.specs.declared.offer.Offer.{Offer}
use Rattle.relocations.proofs.Scanning.{better_same, after_turn, after_end}
use Rattle.pairs.specs.declared.Choice.{Choice}

-- ---- a list with a visit put in

-- the parts one after another are that list
pub built : (xs : List ℕ) (visit place : ℕ) {head middle all : List ℕ} → head ≡ slice 0 place xs → middle ≡ head ++ (visit ∷ [])
    → all ≡ middle ++ slice place (length xs) xs → all ≡ inserted xs visit place
built xs visit place e f g = rw (g, f, e, to_end place xs) (append_assoc (take place xs) (visit ∷ []) (drop place xs))

-- ---- the places from here on: one is tried, and none is left

module _ (c : Columns) (s : Setup) (list : List ℕ) (offer : Offer) (best : Choice) (place : ℕ) where
  pub among_turn : (insertion : Float) (passed : Bool) (after : Choice) → place ≤ length list
      → insertion ≡ insertion_delta (leg c.l c.distances) s.depot s.fixed list offer.visit place
      → (lt (offer.removal ⊕ insertion) best.delta ≡ true → passed ≡ passing s.needed c s.limits s.depot (inserted list offer.visit place))
      → after ≡ better offer insertion passed best place
      → best_among c s list offer (range (place + 1) (suc (length list))) after ≡ best_among c s list offer (range place (suc (length list))) best
  unfolding best_among
  among_turn insertion passed after h is-cost asked is =
      rw (is, better_same offer insertion passed _ best place asked, is-cost) (after_turn _ place (suc (length list)) best (omega arith))

  pub among_end : length list < place → best_among c s list offer (range place (suc (length list))) best ≡ best
  unfolding best_among
  among_end h = after_end _ place (suc (length list)) best h
