use Rattle.std.proofs.Common.{◌≡◌, ◌≤◌, Some, length}
use Rattle.desk_folders.specs.Contents.{Contents}
use Rattle.desk_intake.specs.Limits.{most_files}
use Rattle.desk_calls.specs.Found.{all_found}
use Rattle.desk_calls.proofs.ClassFiles.{HasFound}
use Rattle.desk_calls.proofs.finding.find_calls.Given as goal

abbrev pub invariant-loop-path : goal.invariant-loop-path
invariant-loop-path g l = record {
  told : g.F.Folders.told l.folders ≡ g.F.Folders.told l.fn.folders;
  counts : g.F.Folders.faults l.fn.folders ≤ g.F.Folders.faults l.folders;
  few : length l.yielded ≤ most_files;
  batch : length l.finding.batch.items ≤ length l.yielded;
  count : length (all_found l.«package» l.finding) ≤ length l.yielded;
  found : (m : Contents) → g.F.Folders.told l.fn.folders ≡ Some m → HasFound l.«package» l.from m l.yielded (all_found l.«package» l.finding);
}
