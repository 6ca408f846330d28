-- The attributes in a Code or in a component are those of that place in the table.
use Rattle.std.proofs.Common.{◌≡◌, ℕ, Option, Some, None, refl, ap}
use Rattle.desk_format.specs.declared.attributes.Attribute.{Attribute}
use Rattle.desk_format.specs.declared.attributes.Attribute.TheVariants as attributes
use Rattle.desk_format.specs.declared.attributes.Location.TheVariants.{OfCode, OfComponent}
use Rattle.desk_format.specs.Layouts.{Layout}
use Rattle.desk_format.specs.Attributes.{row_of, no_attributes, attribute_named, body_by, inner_attributes, body_at, attributes_of}

in_code : (size : ℕ) (a : Option Attribute) → body_by (row_of no_attributes) OfCode size a ≡ body_at OfCode size a
in_code size None = refl
in_code size (Some attributes.Code) = refl
in_code size (Some _) = refl

in_component : (size : ℕ) (a : Option Attribute) → body_by (row_of no_attributes) OfComponent size a ≡ body_at OfComponent size a
in_component size None = refl
in_component size (Some attributes.Code) = refl
in_component size (Some _) = refl

pub nested_in_code : inner_attributes OfCode ≡ attributes_of OfCode
nested_in_code = ap Layout.attributes (λ i. λ size. λ name. in_code size (attribute_named name) i)

pub nested_in_component : inner_attributes OfComponent ≡ attributes_of OfComponent
nested_in_component = ap Layout.attributes (λ i. λ size. λ name. in_component size (attribute_named name) i)
