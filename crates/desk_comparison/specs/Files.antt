-- Files that were read whole.
use Rattle.std.specs.Prelude.{◌≡◌, ℕ, true, List, [], ◌∷◌, ◌++◌, None, map, IsOkAnd}
use Rattle.desk_base.specs.Names.{Text}
use Rattle.desk_file.specs.Routes.{IsRouteBy, image_along}
use Rattle.desk_file.specs.declared.routes.Route.{Route}
use Rattle.desk_folders.specs.Contents.{Contents, File, file_at}
use Rattle.desk_folders.specs.declared.folders.GenFile.{GenFile}
use Rattle.desk_graph.specs.declared.scanned.Scanned.{Scanned}
use Rattle.desk_readings.specs.Readings.{scanned_route}
use Rattle.desk_rules.specs.Rules.{Rules}
use Rattle.desk_comparison.specs.Sizes.{room_answer, room_behind}
use Rattle.desk_comparison.specs.declared.noting.NotedFile.{NotedFile}
use Rattle.desk_comparison.specs.declared.reading.SourceFile.{SourceFile}

-- a file of the application that is migrated
abbrev pub file_of : SourceFile → File
file_of source = record { path = source.route.path; bytes = source.content }

abbrev pub files_of : List SourceFile → List File
files_of = map file_of

-- what is kept of the classes among them for the graph
abbrev pub scans_of : List SourceFile → List Scanned
scans_of [] = []
scans_of (source ∷ sources) = scanned_route source.route source.content ++ scans_of sources

abbrev pub path_of : Route → Text
path_of route = route.path

abbrev pub route_in : SourceFile → Route
route_in source = source.route

-- the route of a file is that of its path
abbrev pub IsRouted : Rules → SourceFile → Type 0
IsRouted rules source = IsRouteBy rules source.route

-- a file of which something was noted
abbrev pub source_of : NotedFile → SourceFile
source_of noted = noted.file

-- In each application a file keeps its bytes.
abbrev pub KeepsBytes : Rules → SourceFile → Type 0
KeepsBytes rules source = (defined : List Text) → IsOkAnd (image_along rules defined source.route source.content) (λ image. image.bytes ≡ source.content)

-- A file that is noted as unchanged keeps its bytes.
abbrev pub IsNoted : Rules → NotedFile → Type 0
IsNoted rules noted = noted.unchanged ≡ true → KeepsBytes rules noted.file

-- a file of the application that it is compared with
abbrev pub as_compared : File → GenFile
as_compared file = record { path = file.path; content = file.bytes }

abbrev pub file_in : GenFile → File
file_in file = record { path = file.path; bytes = file.content }

-- these paths below a root were read into files, for which there was room, and which leave this room
pub record HasRead (root : Text) (m : Contents) (room : ℕ) (paths : List Text) (files : List File) (left : ℕ) : Type 0 where
  pub are : files ≡ map (file_at root m) paths
  pub fit : room_answer room files ≡ None
  pub room_is : left ≡ room_behind room files
