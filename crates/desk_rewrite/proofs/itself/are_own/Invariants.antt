use Rattle.std.proofs.Common.{◌≡◌, count_by, take}
use Rattle.desk_follow.specs.RuleImages.{images_of}
use Rattle.desk_rewrite.specs.Counts.{is_renamed}
use Rattle.desk_rewrite.specs.Unchanged.{AreOwn}
use Rattle.desk_rewrite.proofs.itself.are_own.Given as goal

abbrev pub invariant-loop-used : goal.invariant-loop-used
invariant-loop-used l = record {
  none : count_by (is_renamed (images_of l.rules) l.pool.entries) (take l.used-index l.uses) ≡ 0;
  noted : AreOwn (images_of l.rules) l.pool.entries l.noted;
}
