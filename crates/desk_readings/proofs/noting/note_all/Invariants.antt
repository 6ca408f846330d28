use Rattle.std.proofs.Common.{All, ◌≡◌, ◌≤◌, ◌+◌, ◌++◌, [], Some, map, length}
use Rattle.desk_folders.specs.Contents.{Contents}
use Rattle.std.specs.FinMap as fin
use Rattle.std.specs.Prelude.{IfSome, IsSome}
use Rattle.desk_base.specs.Paths.{full}
use Rattle.desk_file.specs.declared.routes.Route.{Route}
use Rattle.desk_readings.specs.Slices.{IsAhead, left_in, routes_in}
use Rattle.desk_readings.specs.Noting.{IsWithin, NotedTo}
use Rattle.desk_readings.specs.Readings.{measured_by, scans_of}
use Rattle.desk_readings.specs.declared.measured.MeasuredFile.{MeasuredFile}
use Rattle.desk_readings.proofs.noting.note_all.Given as goal

abbrev pub invariant-loop-reading : goal.invariant-loop-reading
invariant-loop-reading g l = record {
  told : g.F.Folders.told l.folders ≡ g.F.Folders.told l.fn.folders;
  counts : g.F.Folders.faults l.fn.folders ≤ g.F.Folders.faults l.folders;
  split : l.fn.routes.items ≡ (map (λ (file : MeasuredFile). file.route) l.notes.files.items ++ routes_in l.slice.items) ++ left_in l.unread;
  within : All IsWithin (l.notes.files.items ++ map (measured_by l.rules) l.slice.items);
  few : length l.notes.scanned.items ≤ length l.notes.files.items;
  noted : (m : Contents) → g.F.Folders.told l.fn.folders ≡ Some m
      → NotedTo l.rules l.from m (map (λ (file : MeasuredFile). file.route) l.notes.files.items ++ routes_in l.slice.items) (l.notes.files.items ++ map (measured_by l.rules) l.slice.items) (l.notes.scanned.items ++ scans_of l.slice.items);
  some : l.slice.items ≡ [] → left_in l.unread ≡ [];
  there : IfSome (g.F.Folders.told l.fn.folders) (λ m. All (λ (r : Route). IsSome (fin.get m (full l.from r.path))) l.unread.routes.items);
  ahead : IsAhead l.rules l.from (g.F.Folders.told l.fn.folders) l.unread;
}

abbrev pub decreases-loop-reading : goal.decreases-loop-reading
decreases-loop-reading g l = length l.slice.items + length (left_in l.unread)
