-- The loops over pairs of lists, kinds of moves and places come to one scan over all moves in the definition's order, and that scan to the definition's
-- choice. Assumes nothing.
use mathlib.Core.Path.{◌≡◌, refl, sym, ap, ◌∙◌}
use mathlib.Core.Bool.{Bool, true, false, cond, ◌&&◌, false≢true}
use mathlib.Core.List.{List, [], ◌∷◌, ◌++◌, map}
use Prim.Native.Nat.{ℕ, ◌+◌}
use lib.Dec.{ltb}
use lib.IntN.{ℤ}
use lib.ListN.{length}
use lib.Ieee.{Float, lt, neg}
use Rattle.std.specs.Prelude.{Option, Some, None}
use Rattle.tests.specs.All.{and_right}
use Rattle.numbers.specs.Operations.{◌⊕◌, ◌⊖◌}
use Rattle.numbers.specs.Floor.{gain_floor}
use Rattle.day.specs.Matrix.{scale_of}
use Rattle.list_changes.specs.Edits.{at}
use Rattle.labels.specs.Columns.{Columns}
use Rattle.descent.specs.Order.{range, each, scan}
use Rattle.descent.specs.Search.{ok, taken}
use Rattle.fleet.specs.Fleet.{Fleet}
use Rattle.cross_moves.specs.CrossDepot.{Plan, relocation, exchange, cuts, relocations, swaps, tail_exchanges, pair_of, same_depot}
use Rattle.cross_moves.specs.CrossDepot.{between_lists, of_pair, moves}
use Rattle.cross_moves.specs.CrossDepot.{has_price, amount, first_price, second_price, search_of, judge_of}
use Rattle.cross_choices.specs.Scan.{decided, better, try_relocation, try_exchange, relocate_row, exchange_row, best_relocation, best_swap, best_tails}
use Rattle.cross_choices.specs.Scan.{best_exchange, best_between, best_of_pair, best_from, best_of, better_in, nothing, is_found, move_of}
use Rattle.cross_moves.specs.declared.pair.Pair.{Pair}
use Rattle.cross_moves.specs.declared.pair.Move.{Move}
use Rattle.cross_choices.specs.declared.Choice.{Choice}
use Rattle.descent.specs.Scan.{chosen as chosen_on, onward, figure, Counted}
use Rattle.descent.proofs.Scanning.{onward_better, counted_better, onward_stays, onward_end}

-- ---- scans of scans

scan-map : {A B C : Type 0} (f : B → C → C) (g : A → B) (xs : List A) (b : C) → scan f (map g xs) b ≡ scan (λ x. f (g x)) xs b
unfolding scan
scan-map f g [] b = refl
scan-map f g (x ∷ xs) b = scan-map f g xs (f (g x) b)

scan_append : {A C : Type 0} (f : A → C → C) (xs ys : List A) (b : C) → scan f (xs ++ ys) b ≡ scan f ys (scan f xs b)
unfolding scan
scan_append f [] ys b = refl
scan_append f (x ∷ xs) ys b = scan_append f xs ys (f x b)

scan-each : {A B C : Type 0} (f : B → C → C) (g : A → List B) (xs : List A) (b : C) → scan f (each xs g) b ≡ scan (λ x. scan f (g x)) xs b
unfolding scan
scan-each f g [] b = refl
scan-each f g (x ∷ xs) b = scan_append f (g x) (each xs g) b ∙ scan-each f g xs (scan f (g x) b)

scan_alike : {A C : Type 0} (f g : A → C → C) → ((x : A) (b : C) → f x b ≡ g x b) → (xs : List A) (b : C) → scan f xs b ≡ scan g xs b
scan_alike f g h xs b = λ k. scan (λ x c. h x c k) xs b

module _ (c : Columns) (demand : List ℤ) (fleet : Fleet) (p : Plan) where
  abbrev all : List Move → Choice → Choice
  all = scan (better_in c demand fleet p)

  -- ---- two lists

  module _ (a b : ℕ) where
    abbrev pair : Pair
    pair = pair_of fleet p.ids p.costs a b

    abbrev X : List ℕ
    X = at p.lists a

    abbrev Y : List ℕ
    Y = at p.lists b

    relocation_row : (position : ℕ) (best : Choice)
        → relocate_row c demand pair X Y position best ≡ all (map (relocation a b position) (range 0 (length Y + 1))) best
    unfolding relocate_row try_relocation better_in pair_of
    relocation_row position best = sym (scan-map (better_in c demand fleet p) (relocation a b position) (range 0 (length Y + 1)) best)

    exchange_row_lem : (tails : Bool) (k1 count : ℕ) (best : Choice)
        → exchange_row c demand pair X Y tails k1 count best ≡ all (map (exchange tails a b (length X) (length Y) k1) (range 0 count)) best
    unfolding exchange_row try_exchange better_in pair_of
    exchange_row_lem tails k1 count best = sym (scan-map (better_in c demand fleet p) (exchange tails a b (length X) (length Y) k1) (range 0 count) best)

    all-relocations : (best : Choice) → best_relocation c demand pair X Y best ≡ all (relocations a b (length X) (length Y)) best
    unfolding best_relocation relocations
    all-relocations best =
        scan_alike _ _ relocation_row (range 0 (length X)) best
        ∙ sym (scan-each (better_in c demand fleet p) (λ position. map (relocation a b position) (range 0 (length Y + 1))) (range 0 (length X)) best)

    all-swaps : (best : Choice) → best_swap c demand pair X Y best ≡ all (swaps a b (length X) (length Y)) best
    unfolding best_swap swaps
    all-swaps best =
        scan_alike _ _ (λ k1. exchange_row_lem false k1 (length Y)) (range 0 (length X)) best
        ∙ sym (scan-each (better_in c demand fleet p) (λ k1. map (exchange false a b (length X) (length Y) k1) (range 0 (length Y))) (range 0 (length X)) best)

    all_tails : (best : Choice) → best_tails c demand pair X Y best ≡ all (tail_exchanges a b (length X) (length Y)) best
    unfolding best_tails tail_exchanges
    all_tails best =
        scan_alike _ _ (λ k1. exchange_row_lem true k1 (cuts (length X) (length Y) k1)) (range 0 (length X + 1)) best
        ∙ sym (scan-each (better_in c demand fleet p) (λ k1. map (exchange true a b (length X) (length Y) k1) (range 0 (cuts (length X) (length Y) k1)))
        (range 0 (length X + 1)) best)

    nothing_left : (found : Choice) → found ≡ all [] found
    unfolding scan
    nothing_left found = refl

    all_between : (best : Choice) → best_between c demand pair X Y best ≡ all (between_lists a b (length X) (length Y)) best
    unfolding best_between best_exchange between_lists pair_of
    all_between best =
        by_order (ltb a b) (best_relocation c demand pair X Y best) ∙ ap (all _) (all-relocations best)
        ∙ sym (scan_append (better_in c demand fleet p) (relocations a b (length X) (length Y)) _ best)
      where
        by_order : (t : Bool) (found : Choice) → cond t (best_tails c demand pair X Y (best_swap c demand pair X Y found)) found
            ≡ all (cond t (swaps a b (length X) (length Y) ++ tail_exchanges a b (length X) (length Y)) []) found
        by_order true found =
            all_tails (best_swap c demand pair X Y found) ∙ ap (all (tail_exchanges a b (length X) (length Y))) (all-swaps found)
            ∙ sym (scan_append (better_in c demand fleet p) (swaps a b (length X) (length Y)) (tail_exchanges a b (length X) (length Y)) found)
        by_order false found = nothing_left found

    pub all-of_pair : (best : Choice) → best_of_pair c demand fleet p a b best ≡ all (of_pair fleet p a b) best
    unfolding best_of_pair of_pair
    all-of_pair best = by_depot (same_depot pair)
      where
        by_depot : (t : Bool) → cond t best (best_between c demand pair X Y best) ≡ all (cond t [] (between_lists a b (length X) (length Y))) best
        by_depot true = nothing_left best
        by_depot false = all_between best

  all_from : (a : ℕ) (best : Choice) → best_from c demand fleet p a best ≡ all (each (range 0 (length p.lists)) (of_pair fleet p a)) best
  unfolding best_from
  all_from a best =
      scan_alike _ _ (all-of_pair a) (range 0 (length p.lists)) best
      ∙ sym (scan-each (better_in c demand fleet p) (of_pair fleet p a) (range 0 (length p.lists)) best)

  pub all-moves : (best : Choice) → best_of c demand fleet p best ≡ all (moves fleet p) best
  unfolding best_of moves
  all-moves best =
      scan_alike _ _ all_from (range 0 (length p.lists)) best
      ∙ sym (scan-each (better_in c demand fleet p) (λ a. each (range 0 (length p.lists)) (of_pair fleet p a)) (range 0 (length p.lists)) best)

  -- ---- the scan is the choice

  abbrev delta : Move → Float
  delta = (judge_of c demand fleet).delta p

  abbrev pass : Move → Bool
  pass = (search_of c demand fleet).passes p

  abbrev bound : Float
  bound = neg (gain_floor (scale_of c.distances))

  -- a choice is one: its delta is its move's, which counts, and its costs are its lists'
  pub record Best (b : Choice) : Type 0 where
    pub figured : b.delta ≡ figure delta pass bound (move_of b)
    pub counted : Counted delta pass bound (move_of b)
    pub costs : is_found b ≡ true → (b.cost1 ≡ amount (first_price c demand fleet p b.chosen)) ×
        (b.cost2 ≡ amount (second_price c demand fleet p b.chosen))

  -- one move more
  pub record Turned (m : Move) (ms : List Move) (best after : Choice) : Type 0 where
    pub same : onward delta pass bound (move_of after) ms ≡ onward delta pass bound (move_of best) (m ∷ ms)
    pub still : Best after

  module _ (m : Move) (ms : List Move) (best : Choice) (good : Best best) where
    -- a move that isn't better leaves the best as it is
    stays : (lt (delta m) (figure delta pass bound (move_of best)) && pass m) ≡ false → Turned m ms best best
    stays e = record { same = sym (onward_stays delta pass bound (move_of best) m ms e); still = good }

    not_passed : pass m ≡ false → Turned m ms best best
    not_passed e = stays (and_right (lt (delta m) (figure delta pass bound (move_of best))) (pass m) e)

    not_less : (d : Float) → d ≡ delta m → lt d best.delta ≡ false → Turned m ms best best
    not_less d is e =
        let far : lt (delta m) (figure delta pass bound (move_of best)) ≡ false = rw (← is, ← good.figured) e in
        stays (rw far refl)

    -- one that is better is the best now
    is_better : (d x y : Float) → d ≡ delta m → lt d best.delta ≡ true → pass m ≡ true → x ≡ amount (first_price c demand fleet p m)
        → y ≡ amount (second_price c demand fleet p m) → Turned m ms best (record { found = 1; chosen = m; delta = d; cost1 = x; cost2 = y })
    unfolding move_of figure
    is_better d x y is e passed is_x is_y =
        let near : lt (delta m) (figure delta pass bound (move_of best)) ≡ true = rw (← is, ← good.figured) e in
        let tested : (lt (delta m) (figure delta pass bound (move_of best)) && pass m) ≡ true = rw near passed in
        record {
          same = sym (onward_better delta pass bound (move_of best) m ms good.counted tested);
          still = record { figured = is; counted = counted_better delta pass bound (move_of best) m good.counted tested; costs = λ found. (is_x, is_y) };
        }

    pass_is : (q1 q2 : Option Float) → first_price c demand fleet p m ≡ q1 → second_price c demand fleet p m ≡ q2 → pass m ≡ (has_price q1 && has_price q2)
    unfolding search_of
    pass_is q1 q2 e f = rw (e, f)

    delta_is : (q1 q2 : Option Float) → first_price c demand fleet p m ≡ q1 → second_price c demand fleet p m ≡ q2
        → amount q1 ⊕ amount q2 ⊖ (pair_of fleet p.ids p.costs m.one m.other).before ≡ delta m
    unfolding judge_of pair_of
    delta_is q1 q2 e f = rw (e, f)

    by_prices : (q1 : Option Float) → first_price c demand fleet p m ≡ q1 → (q2 : Option Float) → second_price c demand fleet p m ≡ q2
        → Turned m ms best (decided (pair_of fleet p.ids p.costs m.one m.other) m q1 q2 best)
    unfolding decided has_price amount
    by_prices None e q2 f = not_passed (pass_is None q2 e f)
    by_prices (Some x) e None f = not_passed (pass_is (Some x) None e f)
    by_prices (Some x) e (Some y) f = by_test (lt d best.delta) refl
      where
        d : Float
        d = x ⊕ y ⊖ (pair_of fleet p.ids p.costs m.one m.other).before

        by_test : (t : Bool) → lt d best.delta ≡ t
            → Turned m ms best (cond t (record { found = 1; chosen = m; delta = d; cost1 = x; cost2 = y }) best)
        by_test true t =
            is_better d x y (delta_is (Some x) (Some y) e f) t (pass_is (Some x) (Some y) e f) (sym (ap amount e)) (sym (ap amount f))
        by_test false t = not_less d (delta_is (Some x) (Some y) e f) t

    turn : Turned m ms best (better_in c demand fleet p m best)
    unfolding better_in better first_price second_price pair_of
    turn = by_prices (first_price c demand fleet p m) refl (second_price c demand fleet p m) refl

  scanned : (ms : List Move) (best : Choice) → Best best → (move_of (all ms best) ≡ onward delta pass bound (move_of best) ms) × Best (all ms best)
  unfolding scan
  scanned [] best good = (sym (onward_end delta pass bound (move_of best)), good)
  scanned (m ∷ ms) best good =
      let t = turn m ms best good in
      let rest = scanned ms (better_in c demand fleet p m best) t.still in
      (rest.0 ∙ t.same, rest.1)

  none_yet : (floor : Float) → floor ≡ gain_floor (scale_of c.distances) → Best (nothing floor)
  unfolding move_of figure Counted
  none_yet floor e = record { figured = ap neg e; counted = tt; costs = λ h. absurd (false≢true h) }

  from_nothing : (floor : Float) → onward delta pass bound (move_of (nothing floor)) (moves fleet p)
      ≡ taken (search_of c demand fleet) (judge_of c demand fleet) p tt
  unfolding move_of onward chosen_on taken ok search_of judge_of
  from_nothing floor = refl

  -- the choice, from nothing on
  pub chosen : (floor : Float) → floor ≡ gain_floor (scale_of c.distances) → (r : Choice) → r ≡ best_of c demand fleet p (nothing floor)
      → (move_of r ≡ taken (search_of c demand fleet) (judge_of c demand fleet) p tt) × Best r
  chosen floor e r is =
      let found = scanned (moves fleet p) (nothing floor) (none_yet floor e) in
      let whole : r ≡ all (moves fleet p) (nothing floor) = is ∙ all-moves (nothing floor) in
      rw whole (found.0 ∙ from_nothing floor, found.1)
