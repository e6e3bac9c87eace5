-- The columns that a call is lent: for contracts. Assumes nothing.
use Rattle.labels.specs.Columns.{Columns, columns_at}
use Rattle.labels.specs.declared.columns.Columns.{Columns as Lent}

-- the columns and tables as they stand
abbrev pub lent : Lent → Columns
lent c = columns_at c.locations c.flags c.service c.ready c.due c.penalty c.distances c.times
