use Rattle.std.proofs.Common.{◌≡◌, ◌≤◌, Some, map, take, length}
use Rattle.std.specs.Prelude.{option_map, vec_len, vec_capacity}
use Rattle.desk_folders.specs.Contents.{Contents}
use Rattle.desk_file.specs.Linked.{image_in}
use Rattle.desk_batches.specs.Works.{files_after, ledger_after}
use Rattle.desk_batches.specs.Turns.{SourceStays, migrated, outcome_of, works_in}
use Rattle.desk_batches.proofs.batches.write_batch.Given as goal

abbrev pub invariant-loop-i : goal.invariant-loop-i
invariant-loop-i g l = record {
  attached : g.K.Keeper.attached l.keeper ≡ g.K.Keeper.attached l.fn.keeper;
  counts_f : g.F.Folders.faults l.fn.folders ≤ g.F.Folders.faults l.folders;
  counts_k : g.K.Keeper.faults l.fn.keeper ≤ g.K.Keeper.faults l.keeper;
  stays : SourceStays l.roots.from (g.F.Folders.told l.fn.folders) (g.F.Folders.told l.folders);
  next : l.next ≡ length (migrated (take l.i l.batch));
  bound : l.next ≤ l.i;
  filled : vec_len l.outcomes ≡ l.i;
  room : length l.batch ≤ vec_capacity l.outcomes;
  folders : (m : Contents) → g.F.Folders.told l.fn.folders ≡ Some m
      → g.F.Folders.told l.folders ≡ option_map (files_after l.roots.to (take l.i (works_in (image_in l.job.graph.now.rules l.job.graph.now.defined) l.roots.from m l.batch))) (g.F.Folders.told l.fn.folders);
  ledger : (m : Contents) → g.F.Folders.told l.fn.folders ≡ Some m
      → g.K.Keeper.told l.keeper ≡ option_map (ledger_after (take l.i (works_in (image_in l.job.graph.now.rules l.job.graph.now.defined) l.roots.from m l.batch))) (g.K.Keeper.told l.fn.keeper);
  outcomes : (m : Contents) → g.F.Folders.told l.fn.folders ≡ Some m
      → l.outcomes.items ≡ map outcome_of (take l.i (works_in (image_in l.job.graph.now.rules l.job.graph.now.defined) l.roots.from m l.batch));
}
