-- Which classes lie in a package.
use Rattle.std.specs.Prelude.{ℕ, ◌-◌, ◌==◌, Bool, false, [], ◌∷◌, length, take, Option, Some, None, if◌then◌else◌}
use Rattle.desk_base.specs.Names.{Text, Package, segments, begins_with, front, slash}

abbrev pub is_slash : ℕ → Bool
is_slash b = b == slash

-- the package of a class name in internal form (JVMS 4.2.1): all segments but the last
abbrev pub package_of_class : Text → Package
package_of_class name = front (segments slash name)

-- whether a class lies in a package or below it
abbrev pub lies_in : Package → Text → Bool
lies_in scope name = begins_with (package_of_class name) scope

-- what stands behind the `[`s at the start of a text
abbrev pub behind_dimensions : Text → Text
behind_dimensions [] = []
behind_dimensions (b ∷ t) = if b == 91 then behind_dimensions t else b ∷ t

-- the class of a type without dimensions: what stands between `L` and `;` (JVMS 4.3.2); a base type names none
abbrev pub class_of_type : Text → Option Text
class_of_type [] = None
class_of_type (b ∷ t) = if b == 76 then Some (take (length t - 1) t) else None

-- the class that the text of a class entry names: itself, or the element class of an array (JVMS 4.4.1)
abbrev pub named_class : Text → Option Text
named_class [] = Some []
named_class (b ∷ t) = if b == 91 then class_of_type (behind_dimensions (b ∷ t)) else Some (b ∷ t)

abbrev pub is_in_package : Package → Option Text → Bool
is_in_package scope None = false
is_in_package scope (Some name) = lies_in scope name
