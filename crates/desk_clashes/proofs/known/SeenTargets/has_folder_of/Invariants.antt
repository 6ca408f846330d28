use Rattle.std.proofs.Common.{◌≡◌, take}
use Rattle.std.specs.List.{list_any}
use Rattle.desk_clashes.specs.Known.{holds, folders_of}
use Rattle.desk_clashes.proofs.known.SeenTargets.has_folder_of.Given as goal

abbrev pub invariant-loop-place : goal.invariant-loop-place
invariant-loop-place l = list_any (holds l.self.names) (folders_of (take l.place l.target)) ≡ list_any (holds l.self.names) (folders_of l.target)
