-- A run under way, for the run loop of any engine: the moves made and the run that is left are the whole run, so that a loop which makes move after move ends
-- with the run's own answer. Assumes nothing.
use mathlib.Core.Path.{◌≡◌, sym, ap, ◌∙◌}
use mathlib.Core.Option.{Option, none, some}
use Prim.Native.Nat.{ℕ, suc, ◌+◌, ◌-◌, ◌≤◌, ◌<◌}
use native.Mathlib.Omega.{arith}
use Rattle.descent.specs.Search.{Outcome, settled, stopped, run}
use Rattle.descent.proofs.Loops.{run_settles, run_stops, run-moves}

-- a run's outcome behind some moves
abbrev behind : {S : Type 0} → ℕ → Outcome S → Outcome S
behind moves r = record { word = r.word; moves = moves + r.moves; last = r.last }

module _ {S : Type 0} (step : S → Option S) (limit : ℕ) (start : S) where
  -- after some moves the run is at a state, with the rest of the limit left
  pub record Going (moves : ℕ) (s : S) : Type 0 where
    pub left : ℕ
    pub whole : moves + left ≡ limit
    pub same : behind moves (run step left s) ≡ run step limit start

  pub going_starts : Going 0 start
  going_starts =
      let r = run step limit start in
      let none_yet : 0 + r.moves ≡ r.moves = omega arith in
      record { left = limit; whole = omega arith; same = ap (λ (n : ℕ). record { word = r.word; moves = n; last = r.last }) none_yet }

  pub going_settled : (moves : ℕ) (s : S) → Going moves s → step s ≡ none → run step limit start ≡ record { word = settled; moves = moves; last = s }
  going_settled moves s g e =
      let none_more : moves + 0 ≡ moves = omega arith in
      sym g.same ∙ ap (behind moves) (run_settles step g.left s e) ∙ ap (λ (n : ℕ). record { word = settled; moves = n; last = s }) none_more

  pub going_stopped : (moves : ℕ) (s t : S) → Going moves s → limit ≤ moves → step s ≡ some t
      → run step limit start ≡ record { word = stopped; moves = moves; last = s }
  going_stopped moves s t g h e =
      let none_more : moves + 0 ≡ moves = omega arith in
      let used : g.left ≡ 0 = omega (arith, g.whole) in
      sym g.same ∙ ap (λ (n : ℕ). behind moves (run step n s)) used ∙ ap (behind moves) (run_stops step s t e)
      ∙ ap (λ (n : ℕ). record { word = stopped; moves = n; last = s }) none_more

  pub going_moves : (moves : ℕ) (s t : S) → Going moves s → moves < limit → step s ≡ some t → Going (moves + 1) t
  going_moves moves s t g h e =
      let fewer : ℕ = g.left - 1 in
      let one : g.left ≡ suc fewer = omega (arith, g.whole) in
      record {
        left = fewer;
        whole = omega (arith, g.whole);
        same = shift (run step fewer t)
            ∙ sym (ap (λ (n : ℕ). behind moves (run step n s)) one ∙ ap (behind moves) (run-moves step fewer s t e)) ∙ g.same;
      }
    where
      shift : (r : Outcome S) → behind (moves + 1) r ≡ behind moves (record { word = r.word; moves = suc r.moves; last = r.last })
      shift r =
          let more : moves + 1 + r.moves ≡ moves + suc r.moves = omega arith in
          ap (λ (n : ℕ). record { word = r.word; moves = n; last = r.last }) more
