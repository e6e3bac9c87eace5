-- `row_costs`: one arm for each case of the break.
use Rattle.cross_rows.proofs.row_costs.Goals as goal

pub unbroken_row-requires-clause-unbroken : goal.unbroken_row-requires-clause-unbroken
unbroken_row-requires-clause-unbroken c =
    (record { limits_are = c.of-limits.ensures; no_break = c.in-None.is }, c.requires.kept.0)

pub broken_row-requires-clause-broken : goal.broken_row-requires-clause-broken
broken_row-requires-clause-broken c =
    record { limits_are = c.of-limits.ensures; has_break = c.in-Some.is }
