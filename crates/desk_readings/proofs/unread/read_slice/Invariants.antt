use Rattle.std.proofs.Common.{All, ◌≡◌, ◌≤◌, ◌+◌, ◌++◌, [], Some, map, length}
use Rattle.std.specs.FinMap as fin
use Rattle.std.specs.List.{sum_by}
use Rattle.std.specs.Prelude.{IfSome, IsSome}
use Rattle.desk_base.specs.Limits.{file_size}
use Rattle.desk_base.specs.Paths.{full}
use Rattle.desk_file.specs.declared.routes.Route.{Route}
use Rattle.desk_folders.specs.Contents.{Contents}
use Rattle.desk_readings.specs.Slices.{IsAhead, left_in, routes_in}
use Rattle.desk_readings.specs.Noting.{IsWithin, NotedTo}
use Rattle.desk_readings.specs.Readings.{measured_by, scans_of, weight_in}
use Rattle.desk_readings.specs.declared.pending.PendingFile.{PendingFile}
use Rattle.desk_readings.proofs.unread.read_slice.Given as goal

abbrev pub invariant-loop-room : goal.invariant-loop-room
invariant-loop-room g l = record {
  told : g.F.Folders.told l.folders ≡ g.F.Folders.told l.fn.folders;
  counts : g.F.Folders.faults l.fn.folders ≤ g.F.Folders.faults l.folders;
  split : left_in l.fn.unread ≡ routes_in l.slice.items ++ left_in l.unread;
  there : IfSome (g.F.Folders.told l.fn.folders) (λ m. All (λ (r : Route). IsSome (fin.get m (full l.reading.from.now r.path))) l.unread.routes.items);
  ahead : IsAhead l.reading.rules.now l.reading.from.now (g.F.Folders.told l.fn.folders) l.unread;
  within : All IsWithin (map (measured_by l.reading.rules.now) l.slice.items);
  noted : (m : Contents) → g.F.Folders.told l.fn.folders ≡ Some m → NotedTo l.reading.rules.now l.reading.from.now m (routes_in l.slice.items) (map (measured_by l.reading.rules.now) l.slice.items) (scans_of l.slice.items);
  some : l.slice.items ≡ [] → l.room ≡ file_size;
  light : l.room + sum_by (λ (w : PendingFile). weight_in w.read) l.slice.items ≡ file_size;
}

abbrev pub decreases-loop-room : goal.decreases-loop-room
decreases-loop-room g l = length (left_in l.unread)
