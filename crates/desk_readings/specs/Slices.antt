-- What is known of the files of a slice, and of those that are still to be read.
use Rattle.std.specs.Prelude.{◌≡◌, ◌++◌, ◌∷◌, All, List, [], Option, Some, None, IfSome, map}
use Rattle.desk_base.specs.Names.{Text}
use Rattle.desk_file.specs.declared.routes.Route.{Route}
use Rattle.desk_folders.specs.Contents.{Contents}
use Rattle.desk_readings.specs.Noting.{IsWithin, NotedTo, NotesOne}
use Rattle.desk_readings.specs.Readings.{measured_by, scans_of}
use Rattle.desk_rules.specs.Rules.{Rules}
use Rattle.desk_readings.specs.declared.unread.Unread.{Unread}
use Rattle.desk_readings.specs.declared.pending.PendingFile.{PendingFile}

abbrev pub routes_in : List PendingFile → List Route
routes_in = map (λ (pending : PendingFile). pending.route)

abbrev pub ahead_in : Option PendingFile → List Route
ahead_in None = []
ahead_in (Some pending) = pending.route ∷ []

-- the files that are still to be read, with the one that was read and didn't fit into its slice
abbrev pub left_in : Unread → List Route
left_in unread = ahead_in unread.ahead ++ unread.routes.items

-- a file was read
pub record IsRead (rules : Rules) (from : Text) (told : Option Contents) (pending : PendingFile) : Type 0 where
  pub within : IsWithin (measured_by rules pending)
  pub one : IfSome told (λ m. NotesOne rules from m pending.route pending)

-- the one that didn't fit was read
abbrev pub IsAhead : Rules → Text → Option Contents → Unread → Type 0
IsAhead rules from told unread = IfSome unread.ahead (IsRead rules from told)

-- these files are the first of those that were to be read, and were read; there are none only where none was to be read
pub record SliceRead (rules : Rules) (from : Text) (told : Option Contents) (routes rest : List Route) (slice : List PendingFile) : Type 0 where
  pub split : routes ≡ routes_in slice ++ rest
  pub within : All IsWithin (map (measured_by rules) slice)
  pub noted : IfSome told (λ m. NotedTo rules from m (routes_in slice) (map (measured_by rules) slice) (scans_of slice))
  pub some : slice ≡ [] → rest ≡ []
