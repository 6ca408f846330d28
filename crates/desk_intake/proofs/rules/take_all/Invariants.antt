use Rattle.std.proofs.Common.{◌≡◌, ◌≤◌, Some, drop, map}
use Rattle.desk_folders.specs.Contents.{Contents, file_at, files_below}
use Rattle.desk_intake.specs.Limits.{rule_size_answer}
use Rattle.desk_intake.specs.Rulings.{adding_files, named_files}
use Rattle.desk_intake.specs.RuleFolders.{Free}
use Rattle.desk_intake.proofs.rules.take_all.Given as goal

abbrev pub invariant-loop-path : goal.invariant-loop-path
invariant-loop-path g l = record {
  told : g.F.Folders.told l.folders ≡ g.F.Folders.told l.fn.folders;
  counts : g.F.Folders.faults l.fn.folders ≤ g.F.Folders.faults l.folders;
  free : Free l.files (drop l.path-index l.paths);
  files : (m : Contents) → g.F.Folders.told l.fn.folders ≡ Some m → adding_files l.files (map (file_at l.root m) (drop l.path-index l.paths)) ≡ named_files (files_below l.root m);
  small : (m : Contents) → g.F.Folders.told l.fn.folders ≡ Some m → rule_size_answer (map (file_at l.root m) (drop l.path-index l.paths)) ≡ rule_size_answer (files_below l.root m);
}
