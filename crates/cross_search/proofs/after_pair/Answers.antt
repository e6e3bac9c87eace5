-- `after_pair`: a pair that is left out has its entry, which isn't below the best; another is searched from nothing on.
use mathlib.Core.Path.{sym, ap, ◌∙◌}
use Rattle.cross_choices.specs.Scan.{best_of_pair}
use Rattle.cross_search.proofs.Joining.{pair_searched, least_is}
use Rattle.cross_search.proofs.Keeping.{known_left}
use Rattle.cross_search.proofs.after_pair.Goals as goal

pub returns-clause-value : goal.returns-clause-value
returns-clause-value c =
    (known_left _ _ _ _ _ _ _ _ _ _ _ _ c.requires.sunk c.requires.a_in_bounds.0 c.requires.a_in_bounds.1 c.requires.kept _
    (sym c.known.ensures ∙ c.in-Some.is) c.if-not-least-best.true).0

pub returns-clause-deltas_after : goal.returns-clause-deltas_after
returns-clause-deltas_after c =
    (known_left _ _ _ _ _ _ _ _ _ _ _ _ c.requires.sunk c.requires.a_in_bounds.0 c.requires.a_in_bounds.1 c.requires.kept _
    (sym c.known.ensures ∙ c.in-Some.is) c.if-not-least-best.true).1

pub returns-2-clause-value : goal.returns-2-clause-value
returns-2-clause-value c =
    let fresh = c.best_of_pair-fresh.ensures ∙ ap (best_of_pair _ _ _ _ _ _) c.no_choice.ensures in
    pair_searched _ _ _ _ _ _ _ _ c.requires.sunk _ _ fresh c.better_of.ensures

pub returns-2-clause-deltas_after : goal.returns-2-clause-deltas_after
returns-2-clause-deltas_after c =
    let fresh = c.best_of_pair-fresh.ensures ∙ ap (best_of_pair _ _ _ _ _ _) c.no_choice.ensures in
    rw (← least_is _ _ _ _ _ _ _ _ c.requires.sunk _ fresh) c.note.ensures
