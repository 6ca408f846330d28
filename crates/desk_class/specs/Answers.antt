-- Answers to a question about texts, by index and role.
use Rattle.std.specs.Prelude.{◌≡◌, ◌+◌, ◌*◌, ◌⊎◌, ℕ, Bool, List, Option, Some, None, slice_get}
use Rattle.desk_base.specs.declared.kinds.Role.{Role}
use Rattle.desk_base.specs.declared.kinds.Role.TheVariants as roles

-- the place of a role among all roles
abbrev pub role_place : Role → ℕ
role_place roles.Class = 0
role_place roles.Package = 1
role_place roles.Module = 2
role_place roles.Descriptor = 3
role_place roles.ClassSig = 4
role_place roles.MethodSig = 5
role_place roles.FieldSig = 6
role_place roles.Str = 7
role_place roles.Plain = 8
role_place roles.AttrName = 9

-- where the answer for an index in a role stands, ten roles to an index
abbrev pub place_of : ℕ → Role → ℕ
place_of index role = index * 10 + role_place role

abbrev pub answer_in : Option (Option Bool) → Option Bool
answer_in None = None
answer_in (Some answer) = answer

-- the answer for the text at an index in a role, where it is known
abbrev pub answer_at : List (Option Bool) → ℕ → Role → Option Bool
answer_at answers index role = answer_in (slice_get answers (place_of index role))

-- what is known was known before, or is this answer
abbrev pub Keeps : List (Option Bool) → ℕ → Role → Bool → List (Option Bool) → Type 0
Keeps before index role answer after = (i : ℕ) (r : Role) (b : Bool) → answer_at after i r ≡ Some b → (answer_at before i r ≡ Some b) ⊎ ((i ≡ index) × ((r ≡ role) × (b ≡ answer)))
