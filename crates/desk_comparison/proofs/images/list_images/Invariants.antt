use Rattle.std.proofs.Common.{◌≡◌, map}
use Rattle.desk_comparison.specs.Images.{as_file}
use Rattle.desk_comparison.proofs.images.list_images.Given as goal

abbrev pub invariant-loop-path : goal.invariant-loop-path
invariant-loop-path l = l.files.items ≡ map as_file l.yielded
