-- What is kept of a class.
use Rattle.std.specs.Prelude.{Bool}
use Rattle.desk_base.specs.Names.{Text}
use Rattle.desk_format.specs.Classes.{Class}
use Rattle.desk_class.specs.Held.{held_names}
use Rattle.desk_class.specs.Parts.{class_name}
use Rattle.desk_class.specs.Held.{each_once}
use Rattle.desk_graph.specs.declared.scanned.Scanned.{Scanned}

-- a class at a path: its name, and the class names that it holds, each once, in the order in which they first stand
abbrev pub scan_of : Text → Bool → Class → Scanned
scan_of path selected c = record { path = path; selected = selected; name = class_name c; held = each_once (held_names c) }
