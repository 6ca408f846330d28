-- Paths cut into folder and name, and the short name in place of a long one.
use Rattle.std.specs.Prelude.{[], ◌∷◌, ◌++◌, Option, Some, None, codes, take}
use Rattle.std.specs.Path.{rsplit_once}
use Rattle.hex.specs.Hex.{encode_lower}
use Rattle.desk_base.specs.Names.{Text, slash}
use Rattle.desk_base.specs.Paths.{here}
use Rattle.desk_ledger.specs.Digests.{digest}

-- the folder of a path that is cut: `.` where no slash is in it
abbrev pub folder_before : Option (Text × Text) → Text
folder_before None = here
folder_before (Some cut) = cut.0

-- the name in it: the whole path where no slash is in it
abbrev pub name_behind : Text → Option (Text × Text) → Text
name_behind path None = path
name_behind path (Some cut) = cut.1

-- what stands before the last slash of a path
abbrev pub folder_of : Text → Text
folder_of path = folder_before (rsplit_once slash path)

-- what stands behind it
abbrev pub name_of : Text → Text
name_of path = name_behind path (rsplit_once slash path)

-- the short name of a name: 32 digits for the first 16 bytes of its digest
abbrev pub short_of : Text → Text
short_of name = codes ".migrate-" ++ encode_lower (take 16 (digest name).0)

-- the path of the short name, in the same folder
abbrev pub short_path_of : Text → Text
short_path_of path = folder_of path ++ slash ∷ [] ++ short_of (name_of path)
