-- Images of texts.
use Rattle.std.specs.Prelude.{◌≡◌, ◌≢◌, MatchOption, ℕ, Bool, List, [], ◌∷◌, ◌++◌, Option, if◌then◌else◌, unwrap_or}
use Rattle.std.specs.FinMap as finite
use Rattle.desk_base.specs.Names.{Text, Package, segments, written, front, simple, is_name, is_identifier, is_part, dot, slash}
use Rattle.desk_packages.specs.Renames.{Renaming, has_source, pkg}
use Rattle.desk_rules.specs.Rules.{Rules}

-- the segments with all but the last exchanged as a package
abbrev pub refronted : List Renaming → Package → Package
refronted renames parts = pkg renames (front parts) ++ simple parts ∷ []

-- a name with its package exchanged; any other text is itself
abbrev pub name_image : (Text → Bool) → ℕ → List Renaming → Text → Text
name_image part separator renames text =
    if is_name part separator text then written separator (refronted renames (segments separator text)) else text

-- the image of a class name
abbrev pub cls : List Renaming → Text → Text
cls = name_image is_part slash

-- the image of a dotted name
abbrev pub dotted : List Renaming → Text → Text
dotted = name_image is_identifier dot

-- the image of a package that is written with a separator
abbrev pub package_written : ℕ → List Renaming → Text → Text
package_written separator renames text = written separator (pkg renames (segments separator text))

-- a string as renames change it: as a package where, read with dots, it is the source of one of them, and else as a dotted name
abbrev pub renamed_string : List Renaming → Text → Text
renamed_string renames text =
    if has_source renames (segments dot text) then package_written dot renames text else dotted renames text

-- the image of a string: by a direct rule, else by the renames
abbrev pub str : Rules → Text → Text
str rules text = unwrap_or (finite.get rules.direct text) (renamed_string rules.renames text)

-- the answer for an image: none exactly where it is the text itself
abbrev pub IsImage : Text → Text → Option Text → Type 0
IsImage text image answer = MatchOption answer (image ≡ text) (λ t. (t ≡ image) × (image ≢ text))
