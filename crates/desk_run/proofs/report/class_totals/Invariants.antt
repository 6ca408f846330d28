use Rattle.std.proofs.Common.{◌≡◌, ◌≤◌, ◌*◌, take}
use Rattle.std.specs.List.{sum_by}
use Rattle.desk_run.specs.Reports.{number_in, renamed_uses, added_texts}
use Rattle.desk_run.proofs.report.class_totals.Given as goal

abbrev pub invariant-loop-outcome : goal.invariant-loop-outcome
invariant-loop-outcome l = record {
  renamed_is : l.renamed ≡ sum_by (number_in renamed_uses) (take l.outcome-index l.outcomes);
  added_is : l.added ≡ sum_by (number_in added_texts) (take l.outcome-index l.outcomes);
  renamed_fits : l.renamed ≤ l.outcome-index * 4294967295;
  added_fits : l.added ≤ l.outcome-index * 4294967295;
}
