-- The class files of an application.
use Rattle.std.specs.Prelude.{List, [], ◌∷◌, ◌&&◌, nat_lt, length, Option, Some, None, Bool, true, false, if◌then◌else◌}
use Rattle.desk_base.specs.Limits.{file_size}
use Rattle.desk_base.specs.Names.{Text}
use Rattle.desk_folders.specs.Contents.{File}
use Rattle.desk_paths.specs.Kinds.{kind_of}
use Rattle.desk_paths.specs.declared.Kind.{Kind}
use Rattle.desk_paths.specs.declared.Kind.TheVariants.{Service, Manifest, Class, Other}
use Rattle.desk_report.specs.declared.status.LimitKind.TheVariants.{FileSize}
use Rattle.desk_report.specs.declared.status.Status.{Status}
use Rattle.desk_report.specs.declared.status.Status.TheVariants.{Limit}

abbrev pub is_class_kind : Kind → Bool
is_class_kind Service = false
is_class_kind Manifest = false
is_class_kind Class = true
is_class_kind Other = false

-- a class file, by its path
abbrev pub is_class : Text → Bool
is_class path = is_class_kind (kind_of path)

abbrev pub is_class_file : File → Bool
is_class_file file = is_class file.path

-- the first class file that has too many bytes
abbrev pub class_size_answer : List File → Option Status
class_size_answer [] = None
class_size_answer (file ∷ files) = if is_class_file file && nat_lt file_size (length file.bytes) then Some (Limit FileSize file.path) else class_size_answer files
