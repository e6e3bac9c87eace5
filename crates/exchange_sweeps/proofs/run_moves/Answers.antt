-- `run_moves`: the moves made and the run from here on, with what is left of the limit, are the whole run; the measure is what is left.
use mathlib.Core.Path.{refl, sym, ap, subst, ◌∙◌}
use mathlib.Core.List.{List}
use Prim.Native.Nat.{ℕ}
use Rattle.list_changes.specs.Edits.{Edited}
use Rattle.list_changes.proofs.Edited.{edited_none, edited_on}
use Rattle.loads.proofs.Tables.{still_held}
use Rattle.descent.specs.Search.{Sweep}
use Rattle.descent.specs.Across.{Pair}
use Rattle.descent.proofs.Going.{going_starts}
use Rattle.engine.proofs.Running.{going_settles, going_stops}
use Rattle.exchange_sweeps.proofs.Places.{still_in, none_ahead, nothing_ahead}
use Rattle.exchange_sweeps.proofs.Moves.{one_left, no_more, moved_on}
use Rattle.exchange_sweeps.proofs.run_moves.Goals as goal

pub loop-exchange-init : goal.loop-exchange-init
loop-exchange-init g c =
    (rw (nothing_ahead _) (going_starts _ _ _), edited_none _ _ c.requires.held.laid, c.requires.held, none_ahead _, refl, refl, c.requires.kept)

pub returns-then-limit-moves : goal.returns-then-limit-moves
returns-then-limit-moves g c =
    let next = rw c.loop-exchange.invariant.5 at c.next_move.ensures.leads in
    let answer = going_stops _ _ _ _ _ _ c.loop-exchange.invariant.0 c.if-limit-moves.true (one_left _ _ _ _ c.in-Some.is next) in
    (subst (Edited _ _ _ _) (ap (λ (s : Sweep (List (List ℕ)) Pair). s.now) answer.0) c.loop-exchange.invariant.1, answer.1)

pub loop-exchange-preserved : goal.loop-exchange-preserved
loop-exchange-preserved g c =
    let next = rw c.loop-exchange.invariant.5 at c.next_move.ensures.leads in
    let cuts = c.in-Some.ensures.makeable in
    let edited = c.make.ensures.edited in
    let number = c.loop-exchange.invariant.4 in (
      rw (c.place_after-ahead.ensures, number)
          (moved_on (g.S.TailSearch.rules c.args.search.now) _ _ _ _ _ _ _ _ _ _ c.loop-exchange.invariant.0 c.if-limit-moves.false c.in-Some.is next edited),
      subst (Edited _ _ _ _) (sym edited.holds) (edited_on _ _ _ _ _ _ _ _ c.loop-exchange.invariant.1 edited),
      still_held _ _ _ _ _ _ edited c.loop-exchange.invariant.2,
      rw (c.place_after-ahead.ensures, number, edited.number) (still_in _ _ cuts.before cuts.there),
      number ∙ sym edited.number,
      c.make.ensures.rules ∙ c.loop-exchange.invariant.5,
      c.make.ensures.kept,
    )

pub returns : goal.returns
returns g c =
    let next = rw c.loop-exchange.invariant.5 at c.next_move.ensures.leads in
    let answer = going_settles _ _ _ _ _ c.loop-exchange.invariant.0 (no_more _ _ _ c.in_default.not-Some next) in
    (subst (Edited _ _ _ _) (ap (λ (s : Sweep (List (List ℕ)) Pair). s.now) answer.0) c.loop-exchange.invariant.1, answer.1)
