use Rattle.std.proofs.Common.{◌≡◌, drop}
use Rattle.desk_class.specs.Held.{put_all, ascending}
use Rattle.desk_class.proofs.names.in_order.Given as goal

abbrev pub invariant-loop-place : goal.invariant-loop-place
invariant-loop-place l = put_all l.set.keys (drop l.place l.names) ≡ ascending l.names
