-- The kinds of headers whose values have an image, and these images.
use Rattle.std.specs.Prelude.{ℕ, Bool, true, false, cond, ◌||◌, ◌&&◌, ◌==◌, List, [], ◌∷◌, map, Option, Some, None, codes}
use Rattle.std.specs.List.{list_any}
use Rattle.std.specs.Str.{bytes_eq}
use Rattle.std.specs.Char.{to_ascii_lowercase}
use Rattle.desk_base.specs.Names.{Text}
use Rattle.desk_lines.specs.Blanks.{trimmed}
use Rattle.desk_rules.specs.Rules.{Rules}
use Rattle.desk_rules.specs.Images.{dotted}
use Rattle.desk_paths.specs.Paths.{renamed_path}
use Rattle.desk_clauses.specs.Grammar.{between_blanks}
use Rattle.desk_listings.specs.Images.{listing_image}
use Rattle.desk_listings.specs.declared.listings.Listing.TheVariants.{Imports, Exports, Identity, Bundles}
use Rattle.desk_manifest.specs.declared.kinds.HeaderKind.{HeaderKind}
use Rattle.desk_manifest.specs.declared.kinds.HeaderKind.TheVariants as kinds

-- whether two names of headers are equal, without regard to ASCII case
abbrev pub is_named : Text → Text → Bool
is_named name header = bytes_eq (map to_ascii_lowercase name) (map to_ascii_lowercase header)

-- the headers that name a class
abbrev pub names_class : Text → Bool
names_class name =
    is_named name (codes "Main-Class") || (is_named name (codes "Premain-Class") || (is_named name (codes "Agent-Class")
    || (is_named name (codes "Launcher-Agent-Class") || is_named name (codes "Bundle-Activator"))))

abbrev pub names_imports : Text → Bool
names_imports name = is_named name (codes "Import-Package") || is_named name (codes "DynamicImport-Package")

abbrev pub names_bundles : Text → Bool
names_bundles name = is_named name (codes "Require-Bundle") || is_named name (codes "Fragment-Host")

-- the kind of a header of the main section
abbrev pub main_kind : Text → HeaderKind
main_kind name =
    cond (names_class name) kinds.ClassName
    (cond (names_imports name) (kinds.Listed Imports)
    (cond (is_named name (codes "Export-Package")) (kinds.Listed Exports)
    (cond (is_named name (codes "Bundle-SymbolicName")) (kinds.Listed Identity)
    (cond (names_bundles name) (kinds.Listed Bundles)
    (cond (is_named name (codes "Bundle-Version")) kinds.BundleVersion kinds.Other)))))

-- the kind of a header of another section
abbrev pub further_kind : Text → HeaderKind
further_kind name = cond (is_named name (codes "Name")) kinds.Path kinds.Other

abbrev pub kind_of_header : Bool → Text → HeaderKind
kind_of_header main name = cond main (main_kind name) (further_kind name)

-- whether a text holds a tab
abbrev pub has_tab : Text → Bool
has_tab = list_any (λ b. b == 9)

-- the value of a header that names a class: the spaces around it stay, and the rest goes as a dotted name. Where a tab stands in
-- the value, it is in the rest, which then is no dotted name
abbrev pub class_value : Rules → Text → Text
class_value rules value = cond (has_tab value) value (between_blanks (dotted rules.renames (trimmed value)) value)

abbrev pub version_or : Option Text → Text → Text
version_or None value = value
version_or (Some version) value = version

-- the image of a value, where the bundle gets this new version
abbrev pub value_image : Rules → Option Text → HeaderKind → Text → Text
value_image rules version kinds.ClassName value = class_value rules value
value_image rules version (kinds.Listed listing) value = listing_image rules listing value
value_image rules version kinds.BundleVersion value = version_or version value
value_image rules version kinds.Path value = renamed_path rules.renames value
value_image rules version kinds.Other value = value
