-- What stands against the files and the classes of an application.
use Rattle.std.specs.Prelude.{List, [], Option, Some, None, map, slice_index_or}
use Rattle.desk_base.specs.Names.{Text}
use Rattle.desk_clashes.specs.Clashes.{first_clash}
use Rattle.desk_clashes.specs.declared.Clash.{Clash}
use Rattle.desk_graph.specs.Application.{Pair, name_clash, stranded}
use Rattle.desk_graph.specs.declared.scanned.Scanned.{Scanned}
use Rattle.desk_report.specs.declared.status.Status.{Status}
use Rattle.desk_report.specs.declared.status.Status.TheVariants.{PathClash, NameClash, Stranded}

-- the first of two that stands
abbrev pub first_of : Option Status → Option Status → Option Status
first_of None later = later
first_of (Some status) later = Some status

abbrev pub clash_status : List Text → Option Clash → Option Status
clash_status paths None = None
clash_status paths (Some clash) = Some (PathClash (slice_index_or paths clash.first []) (slice_index_or paths clash.second []))

-- two of these paths, of which one's target equals the other's or is a folder of it
abbrev pub clash_answer : (Text → Text) → List Text → Option Status
clash_answer target paths = clash_status paths (first_clash (map target paths))

abbrev pub name_clash_status : (Text → Text) → Option Pair → Option Status
name_clash_status name None = None
name_clash_status name (Some clash) = Some (NameClash clash.0 clash.1 (name clash.0))

abbrev pub stranded_status : Option Pair → Option Status
stranded_status None = None
stranded_status (Some one) = Some (Stranded one.0 one.1)

-- what stands against the classes of an application, by the image of each name: that a defined name and another would become one,
-- or that a class that isn't selected holds a defined name that changes
abbrev pub names_answer : (Text → Text) → List Scanned → Option Status
names_answer name classes = first_of (name_clash_status name (name_clash name classes)) (stranded_status (stranded name classes))
