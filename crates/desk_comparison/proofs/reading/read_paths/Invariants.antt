use Rattle.std.proofs.Common.{All, ◌≡◌, ◌≤◌, Some, map}
use Rattle.desk_compare.specs.Verdicts.{IsShort, paths_of}
use Rattle.desk_folders.specs.Contents.{Contents}
use Rattle.desk_comparison.specs.Files.{HasRead, file_in}
use Rattle.desk_comparison.proofs.reading.read_paths.Given as goal

abbrev pub invariant-loop-path : goal.invariant-loop-path
invariant-loop-path g l = record {
  told : g.F.Folders.told l.folders ≡ g.F.Folders.told l.fn.folders;
  counts : g.F.Folders.faults l.fn.folders ≤ g.F.Folders.faults l.folders;
  paths : paths_of l.files.items ≡ l.yielded;
  short : All IsShort l.files.items;
  read : (m : Contents) → g.F.Folders.told l.fn.folders ≡ Some m → HasRead l.other m l.fn.room l.yielded (map file_in l.files.items) l.room;
}
