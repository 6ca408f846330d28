-- What stands behind the constant pool of a class (JVMS 4.1, 4.5, 4.6).
use Rattle.std.specs.Prelude.{[], ◌∷◌}
use Rattle.desk_base.specs.declared.kinds.UseKind.TheVariants as kinds
use Rattle.desk_format.specs.declared.attributes.Location.TheVariants.{OfClass, OfField, OfMethod}
use Rattle.desk_format.specs.declared.attributes.Slot.TheVariants.{Number, Index}
use Rattle.desk_format.specs.Layouts.{Layout}
use Rattle.desk_format.specs.Rows.{rows, many, row_layout, table_layout}
use Rattle.desk_format.specs.Attributes.{attributes_of}

-- field_info (JVMS 4.5): access flags, name, descriptor, attributes
abbrev pub field_info : Layout
field_info = Layout.member (Layout.row (row_layout (Number ∷ Index kinds.Plain ∷ Index kinds.FieldDescriptor ∷ [])) (attributes_of OfField))

-- method_info (JVMS 4.6)
abbrev pub method_info : Layout
method_info = Layout.member (Layout.row (row_layout (Number ∷ Index kinds.Plain ∷ Index kinds.MethodDescriptor ∷ [])) (attributes_of OfMethod))

-- Access flags, this class, the super class, and of each a table: interfaces, fields, methods, attributes (JVMS 4.1).
unfoldable pub class_body : Layout
class_body = rows (
    row_layout (Number ∷ Index kinds.ClassName ∷ Index kinds.ClassNameOrNone ∷ [])
    ∷ table_layout (Index kinds.ClassName ∷ [])
    ∷ many field_info
    ∷ many method_info
    ∷ attributes_of OfClass
    ∷ [])
