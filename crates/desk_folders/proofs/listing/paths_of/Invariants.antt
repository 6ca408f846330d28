use Rattle.std.proofs.Common.{◌≡◌, ◌+◌, ◌++◌, take, map}
use Rattle.std.specs.List.{filter_map}
use Rattle.desk_folders.specs.Contents.{below}
use Rattle.desk_folders.proofs.FirstPaths.{key_of, keys_left}
use Rattle.desk_folders.proofs.listing.paths_of.Given as goal

abbrev pub invariant-loop-path : goal.invariant-loop-path
invariant-loop-path l = record {
  got : l.paths ≡ take (l.most + 1) (filter_map (below l.root) (map key_of l.yielded));
  all : map key_of l.yielded ++ keys_left l.path-iterator ≡ keys_left l.initial.path-iterator;
}
