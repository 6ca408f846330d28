use Rattle.std.proofs.Common.{◌≡◌, take}
use Rattle.sqlite.specs.Values.{bound}
use Rattle.desk_sqlite.specs.Statements.{values_in}
use Rattle.desk_sqlite.proofs.tables.values_of.Given as goal

abbrev pub invariant-loop-row : goal.invariant-loop-row
invariant-loop-row l = bound l.values.items ≡ values_in (take l.row-index l.rows)
