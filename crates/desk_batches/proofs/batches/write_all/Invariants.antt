use Rattle.std.proofs.Common.{◌≡◌, ◌≤◌, ◌-◌, Some, map, take, length}
use Rattle.std.specs.Prelude.{option_map, vec_len, vec_capacity}
use Rattle.desk_folders.specs.Contents.{Contents}
use Rattle.desk_file.specs.Linked.{image_in}
use Rattle.desk_batches.specs.Works.{files_after, ledger_after}
use Rattle.desk_batches.specs.Turns.{SourceStays, outcome_of, works_in}
use Rattle.desk_batches.proofs.batches.write_all.Given as goal

abbrev pub invariant-loop-at : goal.invariant-loop-at
invariant-loop-at g l = record {
  attached : g.K.Keeper.attached l.keeper ≡ g.K.Keeper.attached l.fn.keeper;
  counts_f : g.F.Folders.faults l.fn.folders ≤ g.F.Folders.faults l.folders;
  counts_k : g.K.Keeper.faults l.fn.keeper ≤ g.K.Keeper.faults l.keeper;
  stays : SourceStays l.roots.from (g.F.Folders.told l.fn.folders) (g.F.Folders.told l.folders);
  inside : l.at ≤ length l.planned;
  filled : vec_len l.outcomes ≡ l.at;
  room : length l.planned ≤ vec_capacity l.outcomes;
  folders : (m : Contents) → g.F.Folders.told l.fn.folders ≡ Some m
      → g.F.Folders.told l.folders ≡ option_map (files_after l.roots.to (works_in (image_in l.job.graph.now.rules l.job.graph.now.defined) l.roots.from m (take l.at l.planned))) (g.F.Folders.told l.fn.folders);
  ledger : (m : Contents) → g.F.Folders.told l.fn.folders ≡ Some m
      → g.K.Keeper.told l.keeper ≡ option_map (ledger_after (works_in (image_in l.job.graph.now.rules l.job.graph.now.defined) l.roots.from m (take l.at l.planned))) (g.K.Keeper.told l.fn.keeper);
  outcomes : (m : Contents) → g.F.Folders.told l.fn.folders ≡ Some m
      → l.outcomes.items ≡ map outcome_of (works_in (image_in l.job.graph.now.rules l.job.graph.now.defined) l.roots.from m (take l.at l.planned));
}

abbrev pub decreases-loop-at : goal.decreases-loop-at
decreases-loop-at g l = length l.planned - l.at
