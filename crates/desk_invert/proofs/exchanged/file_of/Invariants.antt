use Rattle.std.proofs.Common.{◌≡◌, take}
use Rattle.desk_invert.specs.Files.{file_of}
use Rattle.desk_invert.proofs.exchanged.file_of.Given as goal

abbrev pub invariant-loop-rename : goal.invariant-loop-rename
invariant-loop-rename l = l.text ≡ file_of (take l.rename-index l.renames)
