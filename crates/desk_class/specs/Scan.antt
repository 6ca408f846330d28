-- What a reader of a class's body hands over: the uses of texts, and the fields and methods.
use Rattle.std.specs.Prelude.{◌≡◌, ℕ, Bool, true, false, List, [], ◌∷◌, ◌++◌, take, Result, Ok, Err}
use Rattle.std.specs.Int.{w16, from_be_bytes}
use Rattle.desk_base.specs.Spot.{Spot, past}
use Rattle.desk_base.specs.declared.faults.Malformed.{Malformed}
use Rattle.desk_base.specs.declared.faults.ReadFault.{ReadFault}
use Rattle.desk_base.specs.declared.kinds.Used.{Used}
use Rattle.desk_base.specs.declared.kinds.UseKind.{UseKind}
use Rattle.desk_base.specs.declared.kinds.UseKind.TheVariants as kinds
use Rattle.desk_format.specs.declared.members.Member.{Member}
use Rattle.desk_format.specs.declared.attributes.Location.{Location}
use Rattle.desk_format.specs.declared.attributes.Location.TheVariants.{OfField, OfMethod}
use Rattle.desk_format.specs.declared.attributes.Slot.TheVariants.{Number, Index}
use Rattle.desk_format.specs.Layouts.{Layout}
use Rattle.desk_format.specs.Rows.{row_layout, table_layout}
use Rattle.desk_format.specs.Attributes.{attributes_of}
use Rattle.desk_format.specs.Trees.{uses}
use Rattle.desk_format.specs.Members.{members}
use Rattle.desk_format.specs.Reading.{Got, Failed, Reader}
use Rattle.desk_pool.specs.Seen.{Stops}

-- what was handed over, and where the cursor stands
pub record Scan : Type 0 where
  pub uses : List Used
  pub members : List Member
  pub at : ℕ
  pub left : List ℕ

abbrev pub scan_at : List Used → List Member → Spot → Scan
scan_at us ms spot = record { uses = us; members = ms; at = spot.at; left = spot.left }

abbrev pub scanned : List Used → List Member → Result Got Failed → Result Scan Malformed
scanned us ms (Ok got) = Ok (record { uses = us ++ uses got.tree; members = ms ++ members got.tree; at = got.at; left = got.left })
scanned us ms (Err e) = Err e.fault

unfoldable pub scan : Reader → Scan → Result Scan Malformed
scan reader s = scanned s.uses s.members (reader s.at s.left)

-- A scan ends as the reading says, unless memory ran out.
abbrev pub Scans : {T : Type 0} → Result T ReadFault → Result Scan Malformed → Spot → List Used → List Member → Type 0
Scans (Ok _) reading spot us ms = reading ≡ Ok (scan_at us ms spot)
Scans (Err e) reading spot us ms = Stops e reading

-- ---- a field or a method

-- the number in the two bytes in front
abbrev pub number_ahead : Spot → ℕ
number_ahead spot = from_be_bytes w16 (take 2 spot.left)

-- what the index of a class must name, where 0 is allowed or not
abbrev pub class_kind : Bool → UseKind
class_kind true = kinds.ClassNameOrNone
class_kind false = kinds.ClassName

-- what the second index of a field or a method must name
abbrev pub descriptor_kind : Bool → UseKind
descriptor_kind true = kinds.MethodDescriptor
descriptor_kind false = kinds.FieldDescriptor

abbrev pub member_place : Bool → Location
member_place true = OfMethod
member_place false = OfField

-- access flags, name, descriptor
abbrev pub head_layout : Bool → Layout
head_layout method = row_layout (Number ∷ Index kinds.Plain ∷ Index (descriptor_kind method) ∷ [])

abbrev pub member_layout : Bool → Layout
member_layout method = Layout.row (head_layout method) (attributes_of (member_place method))

-- the field or method in front
abbrev pub member_ahead : Bool → Spot → Member
member_ahead method spot = record { at = spot.at; name = number_ahead (past 2 spot); descriptor = number_ahead (past 2 (past 2 spot)); method = method }

-- ---- the parts of a body

-- access flags, this class, the super class
abbrev pub class_head : Layout
class_head = row_layout (Number ∷ Index (class_kind false) ∷ Index (class_kind true) ∷ [])

abbrev pub interfaces : Layout
interfaces = table_layout (Index kinds.ClassName ∷ [])
