-- Applications by their files: the classes among them, and where they go.
use Rattle.std.specs.Prelude.{List, [], ◌∷◌, ◌++◌, map, Contains}
use Rattle.desk_base.specs.Names.{Text}
use Rattle.desk_file.specs.ClassScans.{scanned_at}
use Rattle.desk_file.specs.Images.{target}
use Rattle.desk_folders.specs.Contents.{File}
use Rattle.desk_format.specs.Laws.{IsBytes}
use Rattle.desk_graph.specs.declared.scanned.Scanned.{Scanned}
use Rattle.desk_rules.specs.Rules.{Rules}

-- ---- the classes of an application

abbrev pub scanned_file : Rules → File → List Scanned
scanned_file rules file = scanned_at rules file.path file.bytes

-- the well-formed classes among files, selected or not
abbrev pub classes_of : Rules → List File → List Scanned
classes_of rules [] = []
classes_of rules (file ∷ files) = scanned_file rules file ++ classes_of rules files

abbrev pub targets_of : Rules → List File → List Text
targets_of rules = map (λ (file : File). target rules file.path)

abbrev pub AreBytes : List File → Type 0
AreBytes files = (file : File) → Contains files file → IsBytes file.bytes
