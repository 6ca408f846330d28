-- Annotations and element values (JVMS 4.7.16), and type annotations (JVMS 4.7.20).
use Rattle.std.specs.Prelude.{ℕ, zero, suc, Some, None, nat_lt, List, [], ◌∷◌, if◌then◌else◌}
use Rattle.std.specs.Int.{w8}
use Rattle.desk_base.specs.declared.kinds.UseKind.TheVariants as kinds
use Rattle.desk_base.specs.declared.faults.FaultKind.TheVariants as faults
use Rattle.desk_format.specs.declared.attributes.Slot.TheVariants.{Number}
use Rattle.desk_format.specs.Layouts.{Layout, Check}
use Rattle.desk_format.specs.Rows.{u1, u2, rows, many, table_layout, Case, at, from, one_of}

-- the name of an element, and its value
abbrev pub pair_of : Layout → Layout
pair_of value = Layout.row (Layout.index kinds.Plain) value

-- annotation: its type, and its pairs, where an element value has a layout
abbrev pub annotation_of : Layout → Layout
annotation_of value = Layout.row (Layout.index kinds.FieldDescriptor) (many (pair_of value))

-- element_value (JVMS 4.7.16.1), where one inside it has a layout
abbrev pub element_cases : Layout → List Case
element_cases inner =
    at 66 (Layout.index kinds.Integer)  -- B
    ∷ at 67 (Layout.index kinds.Integer)  -- C
    ∷ at 68 (Layout.index kinds.Double)  -- D
    ∷ at 70 (Layout.index kinds.Float)  -- F
    ∷ at 73 (Layout.index kinds.Integer)  -- I
    ∷ at 74 (Layout.index kinds.Long)  -- J
    ∷ at 83 (Layout.index kinds.Integer)  -- S
    ∷ at 90 (Layout.index kinds.Integer)  -- Z
    ∷ at 115 (Layout.index kinds.Str)  -- s
    ∷ at 101 (rows (Layout.index kinds.FieldDescriptor ∷ Layout.index kinds.Plain ∷ []))  -- e: an enum's type and constant
    ∷ at 99 (Layout.index kinds.ReturnDescriptor)  -- c: a class
    ∷ at 64 (annotation_of inner)  -- @
    ∷ at 91 (many inner)  -- [
    ∷ []

-- An element value that may nest so many deep. Where none may, it is a fault, whatever its bytes.
unfoldable pub element : ℕ → Layout
element zero = Layout.fault faults.Depth
element (suc levels) = one_of faults.ElementTag (element_cases (element levels))

-- An element value that stands in no other may hold 63 others one within another.
abbrev pub element_value : Layout
element_value = element 64

abbrev pub annotation : Layout
annotation = annotation_of element_value

-- ---- type annotations

-- target_type, and the target_info behind it (JVMS 4.7.20.1)
abbrev pub target : Layout
target = one_of faults.TargetType (
    from 0 1 u1  -- 00, 01: type_parameter_target
    ∷ at 16 u2  -- 10: supertype_target
    ∷ from 17 18 (rows (u1 ∷ u1 ∷ []))  -- 11, 12: type_parameter_bound_target
    ∷ from 19 21 Layout.nothing  -- 13 to 15: empty_target
    ∷ at 22 u1  -- 16: formal_parameter_target
    ∷ at 23 u2  -- 17: throws_target
    ∷ from 64 65 (table_layout (Number ∷ Number ∷ Number ∷ []))  -- 40, 41: localvar_target
    ∷ at 66 u2  -- 42: catch_target
    ∷ from 67 70 u2  -- 43 to 46: offset_target
    ∷ from 71 75 (rows (u2 ∷ u1 ∷ []))  -- 47 to 4B: type_argument_target
    ∷ [])

-- type_path_kind (JVMS 4.7.20.2): 0 to 3
abbrev pub path_kind : Check
path_kind n = if nat_lt 3 n then Some faults.PathKind else None

-- type_path: for each step its kind, and the number of a type argument
abbrev pub path_step : Layout
path_step = rows (Layout.number w8 path_kind ∷ u1 ∷ [])

abbrev pub type_path : Layout
type_path = Layout.table w8 path_step

-- type_annotation
abbrev pub type_annotation : Layout
type_annotation = rows (target ∷ type_path ∷ annotation ∷ [])
