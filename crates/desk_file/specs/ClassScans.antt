-- What is kept of the classes of an application, and what is noted of each.
use Rattle.std.specs.Prelude.{ℕ, Bool, true, false, List, [], ◌∷◌, Option, Some, None, Result, Ok, Err, if◌then◌else◌}
use Rattle.desk_base.specs.Names.{Text}
use Rattle.desk_base.specs.declared.faults.Malformed.{Malformed}
use Rattle.desk_follow.specs.RuleImages.{images_of}
use Rattle.desk_format.specs.Classes.{Class, read_class}
use Rattle.desk_graph.specs.Scans.{scan_of}
use Rattle.desk_graph.specs.declared.scanned.Scanned.{Scanned}
use Rattle.desk_paths.specs.declared.Kind.{Kind}
use Rattle.desk_paths.specs.declared.Kind.TheVariants as kinds
use Rattle.desk_paths.specs.Kinds.{kind_of}
use Rattle.desk_patterns.specs.Selections.{selects}
use Rattle.desk_report.specs.declared.lines.Detail.TheVariants as detail
use Rattle.desk_rewrite.specs.Unchanged.{odd_if_unchanged}
use Rattle.desk_rules.specs.Rules.{Rules}
use Rattle.desk_file.specs.declared.images.Image.{Image}
use Rattle.desk_file.specs.declared.scans.NotedClass.{NotedClass}

abbrev pub is_class_kind : Kind → Bool
is_class_kind kinds.Class = true
is_class_kind kinds.Service = false
is_class_kind kinds.Manifest = false
is_class_kind kinds.Other = false

-- what is kept of bytes at a path that were read as a class, selected or not; bytes that are no well-formed class are passed over
abbrev pub scanned_as : Text → Bool → Result Class Malformed → List Scanned
scanned_as path selected (Ok c) = scan_of path selected c ∷ []
scanned_as path selected (Err fault) = []

-- what is kept of a class at a path
abbrev pub scanned_class : Rules → Text → Class → Scanned
scanned_class rules path c = scan_of path (selects rules.selection path) c

abbrev pub scanned_read : Rules → Text → Result Class Malformed → List Scanned
scanned_read rules path read = scanned_as path (selects rules.selection path) read

-- what is kept of bytes at a path
abbrev pub scanned_at : Rules → Text → Text → List Scanned
scanned_at rules path bytes = if is_class_kind (kind_of path) then scanned_read rules path (read_class bytes) else []

-- ---- what is noted

-- how many uses of a class have an odd text, where it is selected and nothing in it changes
abbrev pub odd_of : Rules → Bool → Class → Option ℕ
odd_of rules true c = odd_if_unchanged (images_of rules) c
odd_of rules false c = None

-- of bytes that were read as a class, or were not
abbrev pub odd_as : Rules → Bool → Result Class Malformed → Option ℕ
odd_as rules selected (Ok c) = odd_of rules selected c
odd_as rules selected (Err fault) = None

-- what is noted of a class at a path, selected or not
abbrev pub noted_of : Rules → Text → Bool → Class → NotedClass
noted_of rules path selected c = record { scanned = scan_of path selected c; odd = odd_of rules selected c }

-- what is noted of bytes that were read as a class; nothing of bytes that are no well-formed class
abbrev pub noted_as : Rules → Text → Bool → Result Class Malformed → Option NotedClass
noted_as rules path selected (Ok c) = Some (noted_of rules path selected c)
noted_as rules path selected (Err fault) = None

-- of what is noted, what is kept for the graph
abbrev pub scanned_in : Option NotedClass → List Scanned
scanned_in None = []
scanned_in (Some noted) = noted.scanned ∷ []

-- and how many odd texts a selected class has in which nothing changes
abbrev pub odd_in : Option NotedClass → Option ℕ
odd_in None = None
odd_in (Some noted) = noted.odd

-- the image of a class in which nothing changes, with so many odd texts
abbrev pub unchanged_image : ℕ → Text → Image
unchanged_image odd bytes = record { bytes = bytes; detail = detail.Class 0 0 odd 0 }

-- and in an application of which it holds so many defined names
abbrev pub unchanged_linked : ℕ → ℕ → Text → Image
unchanged_linked links odd bytes = record { bytes = bytes; detail = detail.Class 0 0 odd links }
