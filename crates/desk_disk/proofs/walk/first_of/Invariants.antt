use Rattle.std.proofs.Common.{◌≡◌, IsTrue}
use Rattle.std.specs.List.{list_all}
use Rattle.std.specs.List.Sorted.{IsStrictlySortedBy}
use Rattle.std.specs.Ordering.{nat_cmp}
use Rattle.std.specs.Cmp.Lexicographic.{slice_cmp}
use Rattle.desk_base.specs.Paths.{is_relative_path}
use Rattle.desk_disk.proofs.walk.first_of.Given as goal

abbrev pub invariant-loop-path : goal.invariant-loop-path
invariant-loop-path l = record {
  taken : l.paths ≡ l.yielded;
  rising : IsStrictlySortedBy (slice_cmp nat_cmp) l.paths;
  relative : IsTrue (list_all is_relative_path l.paths);
}
