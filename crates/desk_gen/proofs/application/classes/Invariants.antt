use Rattle.std.proofs.Common.{◌≡◌, map}
use Rattle.std.specs.List.{range_with_len}
use Rattle.desk_gen.specs.Application.{class_at}
use Rattle.desk_gen.proofs.application.classes.Given as goal

abbrev pub invariant-loop-number : goal.invariant-loop-number
invariant-loop-number l = l.files.items ≡ map (class_at l.count) (range_with_len 0 l.number)
