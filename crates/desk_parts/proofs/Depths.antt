-- Element values of a depth.
use Rattle.std.proofs.Common.{◌≡◌, ℕ, suc, ◌+◌, ◌-◌, ◌<◌, ◌≤◌, refl, ap, arith, true, [], ◌∷◌}
use Rattle.desk_base.specs.declared.faults.FaultKind.TheVariants as faults
use Rattle.desk_format.specs.Layouts.{Layout}
use Rattle.desk_format.specs.declared.attributes.Location.TheVariants.{OfClass, OfMethod, OfCode, OfComponent}
use Rattle.desk_format.specs.declared.attributes.Location.{Location}
use Rattle.desk_parts.specs.Parts.{level}
use Rattle.desk_format.specs.Attributes.{code_head, component_head, inner_attributes, attributes_of, is_among}
use Rattle.desk_format.proofs.Nested.{nested_in_code, nested_in_component}
use Rattle.desk_format.specs.Rows.{tag_check, tag_branch}
use Rattle.desk_format.specs.Annotations.{element, element_cases}

pub element_is : (d : ℕ) → d < 65 → element (65 - d) ≡ Layout.tagged (tag_check faults.ElementTag (element_cases (element (65 - (d + 1))))) (tag_branch (element_cases (element (65 - (d + 1)))))
unfolding element
element_is d h = let e : 65 - d ≡ suc (65 - (d + 1)) = omega arith in rw e refl

pub element_ends : (d : ℕ) → 65 ≤ d → element (65 - d) ≡ Layout.fault faults.Depth
unfolding element
element_ends d h = let e : 65 - d ≡ 0 = omega arith in rw e refl

pub code_is : Layout.row code_head (inner_attributes OfCode) ≡ Layout.row code_head (attributes_of OfCode)
code_is = ap (Layout.row code_head) nested_in_code

pub component_is : Layout.row component_head (inner_attributes OfComponent) ≡ Layout.row component_head (attributes_of OfComponent)
component_is = ap (Layout.row component_head) nested_in_component

-- ---- levels of places

pub in_method : (place : Location) → is_among (OfMethod ∷ []) place ≡ true → 1003 < level place
in_method OfMethod h = omega arith
in_method _ h = absurd cc

pub in_class : (place : Location) → is_among (OfClass ∷ []) place ≡ true → 1003 < level place
in_class OfClass h = omega arith
in_class _ h = absurd cc

pub high : (place : Location) → 999 < level place
high OfCode = omega arith
high OfComponent = omega arith
high _ = omega arith
