use Rattle.std.proofs.Common.{◌≡◌, ◌≤◌, suc, length}
use Rattle.desk_follow.specs.RuleImages.{images_of}
use Rattle.desk_rewrite.specs.Tables.{IsNumberedTable}
use Rattle.desk_rewrite.proofs.Tables.{FindsSeen, HasBefore}
use Rattle.desk_rewrite.proofs.table.all_images.Given as goal

abbrev pub invariant-loop-used : goal.invariant-loop-used
invariant-loop-used g l = record {
  few : length l.table.images.items ≤ l.used-index;
  rows : length l.table.rows.items ≡ suc (length l.pool.entries);
  numbers : IsNumberedTable l.table;
  seen : FindsSeen (images_of l.rules) l.pool.entries l.table;
  has : HasBefore (images_of l.rules) l.pool.entries l.table l.uses l.used-index;
}
