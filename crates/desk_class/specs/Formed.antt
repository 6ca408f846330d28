-- What a class that was read says of the texts that it uses: those of class names and descriptors have their forms.
use Rattle.std.specs.Prelude.{◌≡◌, true, ◌||◌, List}
use Rattle.std.specs.List.{AllByRecursion}
use Rattle.desk_base.specs.Names.{Text}
use Rattle.desk_base.specs.Descriptors.{DescriptorKind, is_descriptor}
use Rattle.desk_base.specs.Referents.{has_form}
use Rattle.desk_base.specs.declared.referents.Form.TheVariants as forms
use Rattle.desk_base.specs.declared.kinds.Role.{Role}
use Rattle.desk_base.specs.declared.kinds.Role.TheVariants as roles
use Rattle.desk_base.specs.declared.kinds.Used.{Used}
use Rattle.desk_base.specs.Entries.{Pool, text_at}

-- A text that is used as a class name is one, or an array descriptor; one that is used as a descriptor is a descriptor.
unfoldable pub IsFormed : Role → Text → Type 0
IsFormed roles.Class text = has_form forms.ClassOrArray text ≡ true
IsFormed roles.Descriptor text = (is_descriptor DescriptorKind.return text || is_descriptor DescriptorKind.method text) ≡ true
IsFormed _ text = Unit {0}

-- each of these uses names a text of its form
abbrev pub AreFormed : Pool → List Used → Type 0
AreFormed pool = AllByRecursion (λ u. IsFormed u.role (text_at pool u.index))
