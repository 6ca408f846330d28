use Rattle.std.proofs.Common.{◌≡◌}
use Rattle.std.specs.FinMap as fin
use Rattle.desk_ledger.specs.Ledger.{with_old_rows}
use Rattle.desk_ledger.proofs.contents.Contents.from_format_1.Given as goal

abbrev pub invariant-loop-row : goal.invariant-loop-row
invariant-loop-row l = l.contents ≡ with_old_rows l.yielded (record { header = l.fn.header; rows = fin.empty })
