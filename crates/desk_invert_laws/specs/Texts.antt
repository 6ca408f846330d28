-- The packages that texts name, and the texts that the inverse takes back.
use Rattle.std.specs.Prelude.{◌≡◌, List, [], ◌∷◌, map, Contains, if◌then◌else◌}
use Rattle.desk_base.specs.Names.{Text, Package, segments, front, is_dotted, dot, slash}
use Rattle.desk_base.specs.declared.kinds.Role.{Role}
use Rattle.desk_base.specs.declared.kinds.Role.TheVariants as roles
use Rattle.desk_class.specs.Held.{names_of}
use Rattle.desk_format.specs.Resolved.{image}
use Rattle.desk_packages.specs.Renames.{Renaming}
use Rattle.desk_rules.specs.Rules.{Rules}
use Rattle.desk_follow.specs.RuleImages.{images_of}
use Rattle.desk_invert.specs.Laws.{IsUnreached, IsInvertible, inverse_rules}

-- The packages that a text names in its role: those of the class names of a Class, a descriptor or a signature; a Package is
-- one; a dotted string names itself and its front.
abbrev pub packages_of : Role → Text → List Package
packages_of roles.Package text = segments slash text ∷ []
packages_of roles.Str text = if is_dotted text then segments dot text ∷ front (segments dot text) ∷ [] else []
packages_of role text = map (λ (name : Text). front (segments slash name)) (names_of role text)

-- none of them lies in a reach
abbrev pub IsFree : List Renaming → Role → Text → Type 0
IsFree renames role text = (p : Package) → Contains (packages_of role text) p → IsUnreached renames p

-- The inverse takes back the image of each text that names no package in a reach.
abbrev pub TextsBack : Type 0
TextsBack = (rules : Rules) (role : Role) (text : Text) → IsInvertible rules → IsFree rules.renames role text
    → image (images_of (inverse_rules rules)) role (image (images_of rules) role text) ≡ text
