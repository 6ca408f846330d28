use Rattle.std.proofs.Common.{All, ◌≡◌, ◌≤◌, map, Some}
use Rattle.desk_batches.specs.Notes.{IsSound}
use Rattle.desk_folders.specs.Contents.{Contents}
use Rattle.desk_ledger.specs.Ledger.{Ledger}
use Rattle.desk_run.specs.Meaning.{finds_in}
use Rattle.desk_run.specs.Notes.{measured_in, planned_by}
use Rattle.desk_run.proofs.planning.plan_files.Given as goal

abbrev pub invariant-loop-file : goal.invariant-loop-file
invariant-loop-file g l = record {
  told_f : g.F.Folders.told l.folders ≡ g.F.Folders.told l.fn.folders;
  told : g.K.Keeper.told l.keeper ≡ g.K.Keeper.told l.fn.keeper;
  attached : g.K.Keeper.attached l.keeper ≡ g.K.Keeper.attached l.fn.keeper;
  counts_f : g.F.Folders.faults l.fn.folders ≤ g.F.Folders.faults l.folders;
  counts : g.K.Keeper.faults l.fn.keeper ≤ g.K.Keeper.faults l.keeper;
  sound : All IsSound l.planned.items;
  measured : map measured_in l.planned.items ≡ l.yielded;
  rows : (m : Contents) (ledger : Ledger) → g.F.Folders.told l.fn.folders ≡ Some m → g.K.Keeper.told l.fn.keeper ≡ Some ledger → l.planned.items ≡ map (planned_by (finds_in l.roots m) ledger.rows) l.yielded;
}
