use Rattle.std.proofs.Common.{◌+◌, ◌-◌, length}
use Rattle.desk_disk.specs.Disk.{entries}
use Rattle.desk_disk.proofs.walk.FolderWalk.enter_all.Given as goal

abbrev pub decreases-loop-folder : goal.decreases-loop-folder
decreases-loop-folder l = (entries - l.self.count) + length l.self.folders
