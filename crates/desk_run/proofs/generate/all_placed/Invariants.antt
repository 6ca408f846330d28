use Rattle.std.proofs.Common.{◌≡◌, map}
use Rattle.desk_run.specs.Generated.{placed}
use Rattle.desk_run.proofs.generate.all_placed.Given as goal

abbrev pub invariant-loop-file : goal.invariant-loop-file
invariant-loop-file l = record {
  placed_so_far : l.below.items ≡ map (placed l.root) l.yielded;
}
