-- Paths of files: their class root, what follows it, and where a file goes.
use Rattle.std.specs.Prelude.{ℕ, zero, suc, Bool, false, not, ◌&&◌, ◌||◌, ◌==◌, List, [], ◌∷◌, ◌++◌, take, drop, codes, if◌then◌else◌}
use Rattle.std.specs.List.{slice_split, list_all, ends_with}
use Rattle.std.specs.Str.{bytes_eq}
use Rattle.desk_base.specs.Names.{Text, written, same, slash, front, simple, is_digit, is_empty}
use Rattle.desk_patterns.specs.Selections.{selects}
use Rattle.desk_packages.specs.Renames.{Renaming, pkg}
use Rattle.desk_rules.specs.Rules.{Rules}
use Rattle.desk_rules.specs.Images.{dotted}

-- the segments of a path; all but the last are its folders, the last is its file name
abbrev pub parts : Text → List Text
parts path = slice_split (λ b. b == slash) path

abbrev pub folders : Text → List Text
folders path = front (parts path)

abbrev pub file_name : Text → Text
file_name path = simple (parts path)

-- a folder that stands for an archive
abbrev pub is_archive : Text → Bool
is_archive folder =
    ends_with ◌==◌ folder (codes ".jar") || ends_with ◌==◌ folder (codes ".war") || ends_with ◌==◌ folder (codes ".ear") || ends_with ◌==◌ folder (codes ".rar")

-- a folder whose `classes` is a class root
abbrev pub has_classes : Text → Bool
has_classes folder = bytes_eq folder (codes "WEB-INF") || bytes_eq folder (codes "BOOT-INF") || bytes_eq folder (codes "APP-INF")

-- one or more digits
abbrev pub is_number : Text → Bool
is_number [] = false
is_number (first ∷ rest) = list_all is_digit (first ∷ rest)

-- whether a class root ends at a folder, which stands behind these two: at an archive, at `classes` of a web, boot or
-- application folder, and at a version of a multi-release archive
abbrev pub ends_root : Text → Text → Text → Bool
ends_root earlier before folder =
    is_archive folder
    || (bytes_eq folder (codes "classes") && has_classes before)
    || (is_number folder && bytes_eq before (codes "versions") && bytes_eq earlier (codes "META-INF"))

-- how many of the folders are the class root, which ends at the last such folder
abbrev pub root_count : Text → Text → List Text → ℕ
root_count earlier before [] = 0
root_count earlier before (folder ∷ rest) = elim (root_count before folder rest) [ zero ↦ if ends_root earlier before folder then 1 else 0 | suc n ↦ suc (suc n) ]

abbrev pub root_length : List Text → ℕ
root_length = root_count [] []

-- a path, cut: the folders of its class root, the folders behind it, and the file name
pub record Cut : Type 0 where
  pub root : List Text
  pub rest : List Text
  pub file : Text

unfoldable pub cut : Text → Cut
cut path = record {
  root = take (root_length (folders path)) (folders path);
  rest = drop (root_length (folders path)) (folders path);
  file = file_name path;
}

-- folders, each with `/` behind it
abbrev pub folder_text : List Text → Text
folder_text [] = []
folder_text (folder ∷ more) = folder ++ slash ∷ folder_text more

-- the path of a cut
abbrev pub path_of : Cut → Text
path_of c = written slash (c.root ++ (c.rest ++ c.file ∷ []))

-- the class root of a path, and what follows it
abbrev pub root_of : Text → Text
root_of path = written slash (cut path).root

abbrev pub rest_of : Text → Text
rest_of path = written slash ((cut path).rest ++ (cut path).file ∷ [])

-- a path by its class root and its rest
abbrev pub below : Text → Text → Text
below [] rest = rest
below (b ∷ root) rest = (b ∷ root) ++ slash ∷ rest

-- a service file (ServiceLoader): a file with a name in `META-INF/services` of a class root
abbrev pub is_service : Cut → Bool
is_service c = same c.rest (codes "META-INF" ∷ codes "services" ∷ []) && not (is_empty c.file)

-- the manifest of a class root
abbrev pub is_manifest : Cut → Bool
is_manifest c = same c.rest (codes "META-INF" ∷ []) && bytes_eq c.file (codes "MANIFEST.MF")

abbrev pub is_class : Cut → Bool
is_class c = ends_with ◌==◌ c.file (codes ".class")

-- a service file's name is exchanged as a dotted name, else the folder behind the class root as a package
abbrev pub moved : List Renaming → Cut → Cut
moved renames c =
    if is_service c
    then record { root = c.root; rest = c.rest; file = dotted renames c.file }
    else record { root = c.root; rest = pkg renames c.rest; file = c.file }

-- where a selected file goes
unfoldable pub renamed_path : List Renaming → Text → Text
renamed_path renames path = path_of (moved renames (cut path))

-- where a file goes: an unselected one keeps its path
unfoldable pub target : Rules → Text → Text
target rules path = if selects rules.selection path then renamed_path rules.renames path else path
