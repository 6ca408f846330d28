use Rattle.std.proofs.Common.{◌≡◌, ◌≤◌, take, count_by}
use Rattle.desk_rewrite.specs.Wanting.{has_other}
use Rattle.desk_rewrite.proofs.counts.renamed_uses.Given as goal

abbrev pub invariant-loop-place : goal.invariant-loop-place
invariant-loop-place l = record {
  counted : l.renamed ≡ count_by has_other (take l.place l.wants);
  few : l.renamed ≤ l.place;
}
