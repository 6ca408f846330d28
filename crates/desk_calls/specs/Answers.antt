-- What is answered to the question where the classes below a root use members of a package.
use Rattle.std.specs.Prelude.{List, Option, Some, None, Result, Ok, Err, filter, map}
use Rattle.desk_base.specs.Names.{Text, Package}
use Rattle.desk_folders.specs.Contents.{Contents, File, files_below, paths_below}
use Rattle.desk_intake.specs.Limits.{itself, paths_answer}
use Rattle.desk_intake.specs.Standing.{first_of}
use Rattle.desk_report.specs.declared.status.Status.{Status}
use Rattle.desk_sites.specs.Answers.{class_sites}
use Rattle.desk_sites.specs.declared.class.ClassSites.{ClassSites}
use Rattle.desk_calls.specs.declared.telling.Calls.{Calls}
use Rattle.desk_calls.specs.Listings.{class_size_answer, is_class_file}
use Rattle.desk_calls.specs.Told.{calls_of}

-- what is found of a class file
abbrev pub found_in : Package → File → ClassSites
found_in scope file = class_sites scope file.path file.bytes

-- what is found of the class files among files
abbrev pub found_among : Package → List File → List ClassSites
found_among scope files = map (found_in scope) (filter is_class_file files)

-- what stands against the files below a root: that they are too many, that a path is too long, or that a class file has too many bytes
abbrev pub limit_answer : Text → Contents → Option Status
limit_answer from m = first_of (paths_answer from itself (paths_below from m)) (class_size_answer (files_below from m))

abbrev pub unless_limit : Option Status → Calls → Result Calls Status
unless_limit None calls = Ok calls
unless_limit (Some status) calls = Err status

-- the calls of the classes below a root, or what stands against it
abbrev pub calls_answer : Package → Text → Contents → Result Calls Status
calls_answer scope from m = unless_limit (limit_answer from m) (calls_of (found_among scope (files_below from m)))
