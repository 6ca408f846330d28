use Rattle.std.proofs.Common.{◌≡◌, ◌≤◌, Some, map}
use Rattle.desk_folders.specs.Contents.{Contents}
use Rattle.desk_comparison.specs.Files.{HasRead, files_of, path_of, route_in}
use Rattle.desk_comparison.proofs.reading.read_routes.Given as goal

abbrev pub invariant-loop-route : goal.invariant-loop-route
invariant-loop-route g l = record {
  told : g.F.Folders.told l.folders ≡ g.F.Folders.told l.fn.folders;
  counts : g.F.Folders.faults l.fn.folders ≤ g.F.Folders.faults l.folders;
  routes : map route_in l.files.items ≡ l.yielded;
  read : (m : Contents) → g.F.Folders.told l.fn.folders ≡ Some m → HasRead l.from m l.fn.room (map path_of l.yielded) (files_of l.files.items) l.room;
}
