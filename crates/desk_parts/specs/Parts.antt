-- The layouts of the parts of a body, what parts are made of, and how deep parts lie in one another.
use Rattle.std.specs.Prelude.{◌≤◌, ◌<◌, ℕ, ◌-◌, ◌+◌, ◌*◌, List, [], ◌∷◌, map}
use Rattle.std.specs.Int.{w8, w32}
use Rattle.desk_base.specs.declared.kinds.UseKind.TheVariants as kinds
use Rattle.desk_base.specs.declared.faults.FaultKind.TheVariants as faults
use Rattle.desk_format.specs.declared.attributes.Location.{Location}
use Rattle.desk_format.specs.declared.attributes.Location.TheVariants as locations
use Rattle.desk_format.specs.Layouts.{Layout}
use Rattle.desk_format.specs.Rows.{u1, u2, rows, many, row_layout, table_layout}
use Rattle.desk_format.specs.Frames.{frame, verification_type}
use Rattle.desk_format.specs.Annotations.{pair_of, annotation_of, annotation, element, element_cases, type_annotation, target, type_path, path_step, path_kind}
use Rattle.desk_format.specs.Attributes.{code_head, code_length, component_head, module_body, inner_attributes, attributes_of}
use Rattle.desk_format.specs.ClassBody.{field_info, method_info, class_body}
use Rattle.desk_format.specs.declared.attributes.Slot.TheVariants as slot_of
use Rattle.desk_format.specs.Rows.{tag_check, tag_branch}
use Rattle.desk_parts.specs.declared.parts.Part.{Part}
use Rattle.desk_parts.specs.declared.parts.Part.TheVariants as parts
use Rattle.desk_parts.specs.declared.parts.ClassPart.{ClassPart}
use Rattle.desk_parts.specs.declared.parts.ClassPart.TheVariants as classes
use Rattle.desk_parts.specs.declared.parts.StackPart.{StackPart}
use Rattle.desk_parts.specs.declared.parts.StackPart.TheVariants as stacks
use Rattle.desk_parts.specs.declared.parts.AnnotationPart.{AnnotationPart}
use Rattle.desk_parts.specs.declared.parts.AnnotationPart.TheVariants as annotations
use Rattle.desk_parts.specs.declared.parts.TypeAnnotationPart.{TypeAnnotationPart}
use Rattle.desk_parts.specs.declared.parts.TypeAnnotationPart.TheVariants as type_annotations
use Rattle.desk_parts.specs.declared.parts.Structure.{Structure}
use Rattle.desk_parts.specs.declared.parts.Structure.TheVariants as structures
use Rattle.desk_parts.specs.declared.parts.Union.{Union}
use Rattle.desk_parts.specs.declared.parts.Union.TheVariants as unions

-- the layouts of parts, as the definitions of the class file format have them

abbrev pub class_layout : ClassPart → Layout
class_layout classes.Body = class_body
class_layout classes.Fields = many field_info
class_layout classes.Field = field_info
class_layout classes.Methods = many method_info
class_layout classes.Method = method_info
class_layout classes.MethodParameters = Layout.table w8 (row_layout (slot_of.Index kinds.PlainOrNone ∷ slot_of.Number ∷ []))
class_layout classes.Code = Layout.row code_head (inner_attributes locations.OfCode)
class_layout classes.CodeHead = code_head
class_layout classes.Components = many (Layout.row component_head (inner_attributes locations.OfComponent))
class_layout classes.Component = Layout.row component_head (inner_attributes locations.OfComponent)
class_layout classes.Module = module_body

abbrev pub stack_layout : StackPart → Layout
stack_layout stacks.Frames = many frame
stack_layout stacks.Frame = frame
stack_layout stacks.Type = verification_type
stack_layout stacks.Types = many verification_type
stack_layout stacks.OffsetAndType = rows (u2 ∷ verification_type ∷ [])
stack_layout stacks.OffsetAndTwoTypes = rows (u2 ∷ verification_type ∷ verification_type ∷ [])
stack_layout stacks.OffsetAndThreeTypes = rows (u2 ∷ verification_type ∷ verification_type ∷ verification_type ∷ [])
stack_layout stacks.FullFrame = rows (u2 ∷ many verification_type ∷ many verification_type ∷ [])

abbrev pub annotation_layout : AnnotationPart → Layout
annotation_layout (annotations.One depth) = annotation_of (element (65 - depth))
annotation_layout (annotations.Many depth) = many (annotation_of (element (65 - depth)))
annotation_layout annotations.OfParameters = Layout.table w8 (many annotation)
annotation_layout (annotations.Pair depth) = pair_of (element (65 - depth))
annotation_layout (annotations.Pairs depth) = many (pair_of (element (65 - depth)))
annotation_layout (annotations.Element depth) = element (65 - depth)
annotation_layout (annotations.Elements depth) = many (element (65 - depth))

abbrev pub type_annotation_layout : TypeAnnotationPart → Layout
type_annotation_layout type_annotations.One = type_annotation
type_annotation_layout type_annotations.Many = many type_annotation
type_annotation_layout type_annotations.Target = target
type_annotation_layout type_annotations.TypeParameterBound = rows (u1 ∷ u1 ∷ [])
type_annotation_layout type_annotations.TypeArgument = rows (u2 ∷ u1 ∷ [])
type_annotation_layout type_annotations.TypePath = type_path
type_annotation_layout type_annotations.PathStep = path_step
type_annotation_layout type_annotations.PathKind = Layout.number w8 path_kind

abbrev pub part_layout : Part → Layout
part_layout parts.Nothing = Layout.nothing
part_layout parts.U1 = u1
part_layout parts.U2 = u2
part_layout (parts.Raw size) = Layout.raw size
part_layout parts.CodeBytes = Layout.sized w32 code_length
part_layout (parts.Index kind) = Layout.index kind
part_layout (parts.Slots slots) = row_layout slots.now
part_layout (parts.Table slots) = table_layout slots.now
part_layout (parts.SlotsAndTable slots table) = rows (row_layout slots.now ∷ table_layout table.now ∷ [])
part_layout (parts.SlotsAndTables slots table) = many (rows (row_layout slots.now ∷ table_layout table.now ∷ []))
part_layout (parts.LastTable table) = rows (table_layout table.now ∷ [])
part_layout (parts.Attributes location) = attributes_of location
part_layout (parts.Class piece) = class_layout piece
part_layout (parts.Stack piece) = stack_layout piece
part_layout (parts.Annotation piece) = annotation_layout piece
part_layout (parts.TypeAnnotation piece) = type_annotation_layout piece

-- ---- how deep parts lie in a part

-- greater than the rank of each attribute that stands there
abbrev pub level : Location → ℕ
level locations.OfCode = 1000
level locations.OfComponent = 1000
level _ = 2000

-- the rank of a part: greater than that of each part inside it

abbrev pub class_rank : ClassPart → ℕ
class_rank classes.MethodParameters = 1
class_rank classes.CodeHead = 4
class_rank classes.Module = 50
class_rank classes.Code = 1002
class_rank classes.Component = 1002
class_rank classes.Components = 1003
class_rank classes.Field = 2002
class_rank classes.Fields = 2003
class_rank classes.Method = 2002
class_rank classes.Methods = 2003
class_rank classes.Body = 9000

abbrev pub stack_rank : StackPart → ℕ
stack_rank stacks.Type = 1
stack_rank stacks.Types = 2
stack_rank stacks.Frame = 11
stack_rank stacks.Frames = 12
stack_rank _ = 10

abbrev pub annotation_rank : AnnotationPart → ℕ
annotation_rank (annotations.Element depth) = 10 * (65 - depth) + 2
annotation_rank (annotations.Pair depth) = 10 * (65 - depth) + 3
annotation_rank (annotations.Elements depth) = 10 * (65 - depth) + 3
annotation_rank (annotations.Pairs depth) = 10 * (65 - depth) + 4
annotation_rank (annotations.One depth) = 10 * (65 - depth) + 5
annotation_rank (annotations.Many depth) = 10 * (65 - depth) + 6
annotation_rank annotations.OfParameters = 700

abbrev pub type_annotation_rank : TypeAnnotationPart → ℕ
type_annotation_rank type_annotations.PathKind = 0
type_annotation_rank type_annotations.TypeParameterBound = 3
type_annotation_rank type_annotations.TypeArgument = 3
type_annotation_rank type_annotations.Target = 4
type_annotation_rank type_annotations.PathStep = 3
type_annotation_rank type_annotations.TypePath = 4
type_annotation_rank type_annotations.One = 700
type_annotation_rank type_annotations.Many = 701

abbrev pub rank : Part → ℕ
rank (parts.Table slots) = 1
rank (parts.LastTable table) = 2
rank (parts.SlotsAndTable slots table) = 3
rank (parts.SlotsAndTables slots table) = 4
rank (parts.Attributes location) = level location + 1
rank (parts.Class piece) = class_rank piece
rank (parts.Stack piece) = stack_rank piece
rank (parts.Annotation piece) = annotation_rank piece
rank (parts.TypeAnnotation piece) = type_annotation_rank piece
rank _ = 0

-- the ranks of parts one behind the other
abbrev pub depth_of : List Part → ℕ
depth_of [] = 0
depth_of (p ∷ ps) = rank p + depth_of ps

-- ---- what parts are made of

-- the layout of a tag with what is behind it
abbrev pub union_layout : Union → Layout
union_layout unions.Frame = frame
union_layout unions.VerificationType = verification_type
union_layout unions.Target = target
union_layout (unions.Element depth) = Layout.tagged (tag_check faults.ElementTag (element_cases (element (65 - depth)))) (tag_branch (element_cases (element (65 - depth))))

-- what a tag selects
abbrev pub branch_of : Union → ℕ → Layout
branch_of t n = elim (union_layout t) [ Layout.tagged check branch ↦ branch n | _ ↦ Layout.nothing ]

-- greater than the rank of each part that a tag selects
abbrev pub union_rank : Union → ℕ
union_rank unions.Frame = 11
union_rank unions.VerificationType = 1
union_rank unions.Target = 4
union_rank (unions.Element depth) = 10 * (65 - depth) + 7

-- the layout of what a part is made of
abbrev pub structure_layout : Structure → Layout
structure_layout structures.Nothing = Layout.nothing
structure_layout structures.U1 = u1
structure_layout structures.U2 = u2
structure_layout structures.PathKind = Layout.number w8 path_kind
structure_layout (structures.Raw size) = Layout.raw size
structure_layout structures.CodeBytes = Layout.sized w32 code_length
structure_layout (structures.Index kind) = Layout.index kind
structure_layout (structures.Slots slots) = row_layout slots.now
structure_layout (structures.Both a b) = Layout.row (part_layout a) (part_layout b)
structure_layout (structures.Member a b) = Layout.member (Layout.row (part_layout a) (part_layout b))
structure_layout (structures.Row ps) = rows (map part_layout ps.now)
structure_layout (structures.Table each) = many (part_layout each)
structure_layout (structures.ShortTable each) = Layout.table w8 (part_layout each)
structure_layout (structures.Attributes location) = attributes_of location
structure_layout (structures.Union t) = union_layout t
structure_layout structures.Fault = Layout.fault faults.Depth

-- the parts of a structure lie less deep
abbrev pub Below : ℕ → Structure → Type 0
Below n (structures.Both a b) = (rank a < n) × (rank b < n)
Below n (structures.Member a b) = (rank a < n) × (rank b < n)
Below n (structures.Row ps) = depth_of ps.now < n
Below n (structures.Table each) = rank each < n
Below n (structures.ShortTable each) = rank each < n
Below n (structures.Attributes location) = level location < n
Below n (structures.Union t) = union_rank t ≤ n
Below n _ = Unit {0}
