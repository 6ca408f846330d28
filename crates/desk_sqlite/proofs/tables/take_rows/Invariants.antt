use Rattle.std.proofs.Common.{◌≡◌, take}
use Rattle.desk_sqlite.specs.Found.{with_shown_rows}
use Rattle.desk_sqlite.proofs.tables.take_rows.Given as goal

abbrev pub invariant-loop-row : goal.invariant-loop-row
invariant-loop-row l = l.contents ≡ with_shown_rows (take l.row-index l.found) l.fn.contents
