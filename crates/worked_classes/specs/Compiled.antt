-- How many texts a class uses, by role.
use Rattle.std.specs.Prelude.{ℕ, Bool, ◌==◌, List, [], ◌∷◌, map, count_by}
use Rattle.desk_base.specs.declared.kinds.Role.{Role}
use Rattle.desk_base.specs.declared.kinds.Role.TheVariants as roles
use Rattle.desk_base.specs.declared.kinds.Used.{Used}
use Rattle.desk_format.specs.Classes.{uses_in}

abbrev pub number_of : Role → ℕ
number_of roles.Class = 0
number_of roles.Package = 1
number_of roles.Module = 2
number_of roles.Descriptor = 3
number_of roles.ClassSig = 4
number_of roles.MethodSig = 5
number_of roles.FieldSig = 6
number_of roles.Str = 7
number_of roles.Plain = 8
number_of roles.AttrName = 9

abbrev pub is_role : Role → Used → Bool
is_role role u = number_of u.role == number_of role

abbrev pub all_roles : List Role
all_roles = roles.Class ∷ roles.Package ∷ roles.Module ∷ roles.Descriptor ∷ roles.ClassSig ∷ roles.MethodSig ∷ roles.FieldSig ∷ roles.Str ∷ roles.Plain ∷ roles.AttrName ∷ []

abbrev pub uses_by_role : List ℕ → List ℕ
uses_by_role bytes = map (λ role. count_by (is_role role) (uses_in bytes)) all_roles
