-- The attributes of a class file (JVMS 4.7), one row each: name, places, and layout of the body.
use Rattle.std.specs.Prelude.{ℕ, Bool, true, false, ◌||◌, List, [], ◌∷◌, Option, Some, None, nat_lt, codes, if◌then◌else◌}
use Rattle.std.specs.Str.{bytes_eq}
use Rattle.std.specs.Int.{w8, w32}
use Rattle.desk_base.specs.Names.{Text}
use Rattle.desk_base.specs.declared.kinds.UseKind.{UseKind}
use Rattle.desk_base.specs.declared.kinds.UseKind.TheVariants.{Plain, PlainOrNone, FieldDescriptor, ClassSig, MethodSig, FieldSig, Class, ClassOrNone, NameAndTypeOrNone, Module, Package, Constant, Loadable, MethodHandle}
use Rattle.desk_base.specs.declared.faults.FaultKind.TheVariants as faults
use Rattle.desk_format.specs.declared.attributes.Attribute.{Attribute}
use Rattle.desk_format.specs.declared.attributes.Attribute.TheVariants as attributes
use Rattle.desk_format.specs.declared.attributes.Location.{Location}
use Rattle.desk_format.specs.declared.attributes.Location.TheVariants.{OfClass, OfField, OfMethod, OfCode, OfComponent}
use Rattle.desk_format.specs.declared.attributes.Slot.TheVariants.{Number, Index}
use Rattle.desk_format.specs.Layouts.{Layout, Check}
use Rattle.desk_format.specs.Rows.{rows, many, row_layout, table_layout}
use Rattle.desk_format.specs.Frames.{frame}
use Rattle.desk_format.specs.Annotations.{annotation, type_annotation, element_value}

-- ---- the bodies that are more than a row or a table of slots

-- the length of code is 1 to 65,535 (JVMS 4.7.3)
abbrev pub code_length : Check
code_length n = if nat_lt n 1 || nat_lt 65535 n then Some faults.CodeLength else None

-- Code without its attributes (JVMS 4.7.3): stack, locals, the code behind its length, and the exception table
abbrev pub code_head : Layout
code_head = rows (row_layout (Number ∷ Number ∷ []) ∷ Layout.sized w32 code_length ∷ table_layout (Number ∷ Number ∷ Number ∷ Index ClassOrNone ∷ []) ∷ [])

-- a record component without its attributes (JVMS 4.7.30): name and descriptor
abbrev pub component_head : Layout
component_head = row_layout (Index Plain ∷ Index FieldDescriptor ∷ [])

-- Module (JVMS 4.7.25): the module, what it requires, exports, opens, uses and provides
abbrev pub module_body : Layout
module_body = rows (
    row_layout (Index Module ∷ Number ∷ Index PlainOrNone ∷ [])
    ∷ table_layout (Index Module ∷ Number ∷ Index PlainOrNone ∷ [])
    ∷ many (rows (row_layout (Index Package ∷ Number ∷ []) ∷ table_layout (Index Module ∷ []) ∷ []))
    ∷ many (rows (row_layout (Index Package ∷ Number ∷ []) ∷ table_layout (Index Module ∷ []) ∷ []))
    ∷ table_layout (Index Class ∷ [])
    ∷ many (rows (row_layout (Index Class ∷ []) ∷ table_layout (Index Class ∷ []) ∷ []))
    ∷ [])

-- which signature a Signature attribute holds, by its place (JVMS 4.7.9)
abbrev pub signature_kind : Location → UseKind
signature_kind OfClass = ClassSig
signature_kind OfMethod = MethodSig
signature_kind _ = FieldSig

-- ---- the table

-- An attribute by its name, with the places where it means what the body's layout says; that goes by the place and the
-- length of the body in bytes.
pub record Row : Type 0 where
  pub name : Text
  pub places : List Location
  pub body : Location → ℕ → Layout

abbrev pub entry : Text → List Location → Layout → Row
entry name places body = record { name = name; places = places; body = λ place size. body }

abbrev pub declarations : List Location
declarations = OfClass ∷ OfField ∷ OfMethod ∷ OfComponent ∷ []

-- The thirty attributes, in the order of JVMS 4.7, where the attributes in a Code and in a component have a layout.
abbrev pub row_of : (Location → Layout) → Attribute → Row
-- 4.7.2
row_of inner attributes.ConstantValue =
    entry (codes "ConstantValue") (OfField ∷ []) (row_layout (Index Constant ∷ []))
-- 4.7.3
row_of inner attributes.Code = entry (codes "Code") (OfMethod ∷ []) (Layout.row code_head (inner OfCode))
-- 4.7.4
row_of inner attributes.StackMapTable = entry (codes "StackMapTable") (OfCode ∷ []) (many frame)
-- 4.7.5
row_of inner attributes.Exceptions = entry (codes "Exceptions") (OfMethod ∷ []) (table_layout (Index Class ∷ []))
-- 4.7.6
row_of inner attributes.InnerClasses =
    entry (codes "InnerClasses") (OfClass ∷ []) (table_layout (Index Class ∷ Index ClassOrNone ∷ Index PlainOrNone ∷ Number ∷ []))
-- 4.7.7
row_of inner attributes.EnclosingMethod =
    entry (codes "EnclosingMethod") (OfClass ∷ []) (row_layout (Index Class ∷ Index NameAndTypeOrNone ∷ []))
-- 4.7.8
row_of inner attributes.Synthetic = entry (codes "Synthetic") (OfClass ∷ OfField ∷ OfMethod ∷ []) Layout.nothing
-- 4.7.9
row_of inner attributes.Signature =
    record { name = codes "Signature"; places = declarations; body = λ place size. row_layout (Index (signature_kind place) ∷ []) }
-- 4.7.10
row_of inner attributes.SourceFile = entry (codes "SourceFile") (OfClass ∷ []) (row_layout (Index Plain ∷ []))
-- 4.7.11
row_of inner attributes.SourceDebugExtension =
    record { name = codes "SourceDebugExtension"; places = OfClass ∷ []; body = λ place size. Layout.raw size }
-- 4.7.12
row_of inner attributes.LineNumberTable =
    entry (codes "LineNumberTable") (OfCode ∷ []) (table_layout (Number ∷ Number ∷ []))
-- 4.7.13
row_of inner attributes.LocalVariableTable =
    entry (codes "LocalVariableTable") (OfCode ∷ []) (table_layout (Number ∷ Number ∷ Index Plain ∷ Index FieldDescriptor ∷ Number ∷ []))
-- 4.7.14
row_of inner attributes.LocalVariableTypeTable =
    entry (codes "LocalVariableTypeTable") (OfCode ∷ []) (table_layout (Number ∷ Number ∷ Index Plain ∷ Index FieldSig ∷ Number ∷ []))
-- 4.7.15
row_of inner attributes.Deprecated = entry (codes "Deprecated") (OfClass ∷ OfField ∷ OfMethod ∷ []) Layout.nothing
-- 4.7.16
row_of inner attributes.RuntimeVisibleAnnotations =
    entry (codes "RuntimeVisibleAnnotations") declarations (many annotation)
-- 4.7.17
row_of inner attributes.RuntimeInvisibleAnnotations =
    entry (codes "RuntimeInvisibleAnnotations") declarations (many annotation)
-- 4.7.18
row_of inner attributes.RuntimeVisibleParameterAnnotations =
    entry (codes "RuntimeVisibleParameterAnnotations") (OfMethod ∷ []) (Layout.table w8 (many annotation))
-- 4.7.19
row_of inner attributes.RuntimeInvisibleParameterAnnotations =
    entry (codes "RuntimeInvisibleParameterAnnotations") (OfMethod ∷ []) (Layout.table w8 (many annotation))
-- 4.7.20
row_of inner attributes.RuntimeVisibleTypeAnnotations =
    entry (codes "RuntimeVisibleTypeAnnotations") (OfCode ∷ declarations) (many type_annotation)
-- 4.7.21
row_of inner attributes.RuntimeInvisibleTypeAnnotations =
    entry (codes "RuntimeInvisibleTypeAnnotations") (OfCode ∷ declarations) (many type_annotation)
-- 4.7.22
row_of inner attributes.AnnotationDefault = entry (codes "AnnotationDefault") (OfMethod ∷ []) element_value
-- 4.7.23
row_of inner attributes.BootstrapMethods =
    entry (codes "BootstrapMethods") (OfClass ∷ []) (many (rows (row_layout (Index MethodHandle ∷ []) ∷ table_layout (Index Loadable ∷ []) ∷ [])))
-- 4.7.24
row_of inner attributes.MethodParameters =
    entry (codes "MethodParameters") (OfMethod ∷ []) (Layout.table w8 (row_layout (Index PlainOrNone ∷ Number ∷ [])))
-- 4.7.25
row_of inner attributes.Module = entry (codes "Module") (OfClass ∷ []) module_body
-- 4.7.26
row_of inner attributes.ModulePackages =
    entry (codes "ModulePackages") (OfClass ∷ []) (table_layout (Index Package ∷ []))
-- 4.7.27
row_of inner attributes.ModuleMainClass =
    entry (codes "ModuleMainClass") (OfClass ∷ []) (row_layout (Index Class ∷ []))
-- 4.7.28
row_of inner attributes.NestHost = entry (codes "NestHost") (OfClass ∷ []) (row_layout (Index Class ∷ []))
-- 4.7.29
row_of inner attributes.NestMembers = entry (codes "NestMembers") (OfClass ∷ []) (table_layout (Index Class ∷ []))
-- 4.7.30
row_of inner attributes.Record =
    entry (codes "Record") (OfClass ∷ []) (many (Layout.row component_head (inner OfComponent)))
-- 4.7.31
row_of inner attributes.PermittedSubclasses =
    entry (codes "PermittedSubclasses") (OfClass ∷ []) (table_layout (Index Class ∷ []))

abbrev pub all_attributes : List Attribute
all_attributes =
    attributes.ConstantValue ∷ attributes.Code ∷ attributes.StackMapTable ∷ attributes.Exceptions ∷ attributes.InnerClasses
    ∷ attributes.EnclosingMethod ∷ attributes.Synthetic ∷ attributes.Signature ∷ attributes.SourceFile
    ∷ attributes.SourceDebugExtension ∷ attributes.LineNumberTable ∷ attributes.LocalVariableTable
    ∷ attributes.LocalVariableTypeTable ∷ attributes.Deprecated ∷ attributes.RuntimeVisibleAnnotations
    ∷ attributes.RuntimeInvisibleAnnotations ∷ attributes.RuntimeVisibleParameterAnnotations
    ∷ attributes.RuntimeInvisibleParameterAnnotations ∷ attributes.RuntimeVisibleTypeAnnotations
    ∷ attributes.RuntimeInvisibleTypeAnnotations ∷ attributes.AnnotationDefault ∷ attributes.BootstrapMethods
    ∷ attributes.MethodParameters ∷ attributes.Module ∷ attributes.ModulePackages ∷ attributes.ModuleMainClass
    ∷ attributes.NestHost ∷ attributes.NestMembers ∷ attributes.Record ∷ attributes.PermittedSubclasses ∷ []

-- ---- reading the table

abbrev pub no_attributes : Location → Layout
no_attributes place = Layout.nothing

abbrev pub attribute_name : Attribute → Text
attribute_name a = (row_of no_attributes a).name

abbrev pub first_named : Text → List Attribute → Option Attribute
first_named name [] = None
first_named name (a ∷ more) = if bytes_eq name (attribute_name a) then Some a else first_named name more

-- the attribute of a name
unfoldable pub attribute_named : Text → Option Attribute
attribute_named name = first_named name all_attributes

abbrev pub is_place : Location → Location → Bool
is_place OfClass OfClass = true
is_place OfField OfField = true
is_place OfMethod OfMethod = true
is_place OfCode OfCode = true
is_place OfComponent OfComponent = true
is_place _ _ = false

abbrev pub is_among : List Location → Location → Bool
is_among [] place = false
is_among (p ∷ ps) place = is_place p place || is_among ps place

-- An attribute of no known name, and a known one outside its places, is raw to its length.
abbrev pub body_by : (Attribute → Row) → Location → ℕ → Option Attribute → Layout
body_by table place size None = Layout.raw size
body_by table place size (Some a) = if is_among (table a).places place then (table a).body place size else Layout.raw size

-- The attributes in a Code or in a component. None of these holds attributes.
abbrev pub inner_attributes : Location → Layout
inner_attributes place = Layout.attributes (λ size name. body_by (row_of no_attributes) place size (attribute_named name))

-- the layout of the body of an attribute at a place, by its length
abbrev pub body_at : Location → ℕ → Option Attribute → Layout
body_at = body_by (row_of inner_attributes)

-- the attributes of a place
abbrev pub attributes_of : Location → Layout
attributes_of place = Layout.attributes (λ size name. body_at place size (attribute_named name))
