-- The file of renames.
use Rattle.std.specs.Prelude.{◌≡◌, true, List, [], ◌∷◌, ◌++◌, codes, refl}
use Rattle.std.specs.FinMap as finite
use Rattle.desk_base.specs.Names.{Text, written, dot}
use Rattle.desk_packages.specs.Renames.{Renaming, key_of}
use Rattle.desk_packages.specs.Keys.{renaming}
use Rattle.desk_rules.specs.Files.{Files, renames_name}

-- one line `KEY=PACKAGE` and a line feed
abbrev pub line_of : Renaming → Text
line_of r = key_of r ++ 61 ∷ (written dot r.target ++ 10 ∷ [])

one_line : line_of (renaming (codes "jakarta" ∷ codes "servlet" ∷ []) (codes "javax" ∷ codes "servlet" ∷ []) true) ≡ codes "jakarta.servlet.*=javax.servlet" ++ 10 ∷ []
one_line = refl

-- a line for each of the renames, in their order
abbrev pub file_of : List Renaming → Text
file_of [] = []
file_of (r ∷ rs) = line_of r ++ file_of rs

-- a rule folder with this file of renames alone
abbrev pub only_renames : Text → Files
only_renames file = finite.from_entries ((renames_name, file) ∷ [])
