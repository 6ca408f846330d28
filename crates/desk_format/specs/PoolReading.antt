-- Reading a constant pool (JVMS 4.4): what each index names and the offset behind the pool, or the first fault of three
-- passes. The first reads the entries; the second sees that each index names an entry of a fitting tag; the third sees that
-- each text that an index leads to has its form.
use Rattle.std.specs.Prelude.{ℕ, zero, suc, ◌+◌, Bool, true, false, not, ◌&&◌, ◌||◌, List, [], ◌∷◌, length, take, drop, Option, Some, None, Result, Ok, Err, nat_lt, ◌==◌, if◌then◌else◌}
use Rattle.std.specs.Int.{w8, w16, from_be_bytes}
use Rattle.desk_base.specs.declared.kinds.Tag.{Tag}
use Rattle.desk_base.specs.declared.kinds.Tag.TheVariants as tags
use Rattle.desk_base.specs.declared.faults.FaultKind.{FaultKind}
use Rattle.desk_base.specs.declared.faults.FaultKind.TheVariants as faults
use Rattle.desk_base.specs.declared.faults.Malformed.{Malformed}
use Rattle.desk_base.specs.Names.{Text}
use Rattle.desk_base.specs.Utf8.{bad_form}
use Rattle.desk_base.specs.Entries.{Pool, Entry, utf8, integer, float, long, double, class, string, fieldref, methodref, interface_methodref, name_and_type, method_handle, method_type, dynamic, invoke_dynamic, module_named, package_named, is_wide, tag_of}
use Rattle.desk_format.specs.PoolBytes.{size}
use Rattle.desk_base.specs.Referents.{Link, links}
use Rattle.desk_base.specs.Misfits.{or_else, wrong_entry, wrong_text}

-- what was read, the offset behind it, and the bytes that are left there
pub record Got (A : Type 0) : Type 0 where
  pub value : A
  pub at : ℕ
  pub left : List ℕ

abbrev pub got : {A : Type 0} → A → ℕ → List ℕ → Got A
got value at left = record { value = value; at = at; left = left }

-- A reader starts at an offset, with the bytes from there to the end.
abbrev pub Reader : Type 0 → Type 0
Reader A = ℕ → List ℕ → Result (Got A) Malformed

abbrev pub fault_at : {A : Type 0} → FaultKind → ℕ → Result A Malformed
fault_at kind at = Err (record { kind = kind; at = at })

-- one item of so many bytes, which may reach past the end
abbrev pub item : ℕ → Reader (List ℕ)
item n at s = if nat_lt (length s) n then fault_at faults.Truncated at else Ok (got (take n s) (at + n) (drop n s))

-- a reader that goes on by what the one before it read
abbrev pub then_read : {A B : Type 0} → Result (Got A) Malformed → (A → Reader B) → Result (Got B) Malformed
then_read (Ok a) next = next a.value a.at a.left
then_read (Err f) next = Err f

abbrev pub done : {A : Type 0} → A → Reader A
done a at s = Ok (got a at s)

-- ---- the bodies of entries (JVMS 4.4.1 to 4.4.12)

abbrev pub with_bytes : ℕ → (List ℕ → Entry) → Reader Entry
with_bytes n make at s = then_read (item n at s) (λ bytes. done (make bytes))

-- a two-byte number
abbrev pub number_read : Reader ℕ
number_read at s = then_read (item 2 at s) (λ bytes. done (from_be_bytes w16 bytes))

abbrev pub with_index : (ℕ → Entry) → Reader Entry
with_index make at s = then_read (number_read at s) (λ i. done (make i))

abbrev pub with_two : (ℕ → ℕ → Entry) → Reader Entry
with_two make at s = then_read (number_read at s) (λ i. with_index (make i))

-- A text whose first byte stands at an offset. The first of its bytes that begins no form is a fault.
abbrev pub well_formed_text : Option ℕ → Text → ℕ → Reader Text
well_formed_text None t start = done t
well_formed_text (Some offset) t start = λ at s. fault_at faults.Utf8Form (start + offset)

-- The length of a text and its bytes are two items.
abbrev pub text_read : Reader Text
text_read at s = then_read (number_read at s) (λ n. λ at s. then_read (item n at s) (λ t. well_formed_text (bad_form t) t at))

-- 1 to 9
abbrev pub kind_known : ℕ → ℕ → Reader ℕ
kind_known kind place = if kind == 0 || nat_lt 9 kind then (λ at s. fault_at faults.RefKind place) else done kind

-- the kind of a method handle
abbrev pub kind_read : Reader ℕ
kind_read at s = then_read (item 1 at s) (λ kind. kind_known (from_be_bytes w8 kind) at)

-- what stands behind a tag
unfoldable pub body : Tag → Reader Entry
body tags.Utf8 = λ at s. then_read (text_read at s) (λ t. done (utf8 t))
body tags.Integer = with_bytes 4 integer
body tags.Float = with_bytes 4 float
body tags.Long = with_bytes 8 long
body tags.Double = with_bytes 8 double
body tags.Class = with_index class
body tags.String = with_index string
body tags.Fieldref = with_two fieldref
body tags.Methodref = with_two methodref
body tags.InterfaceMethodref = with_two interface_methodref
body tags.NameAndType = with_two name_and_type
body tags.MethodHandle = λ at s. then_read (kind_read at s) (λ kind. with_index (method_handle kind))
body tags.MethodType = with_index method_type
body tags.Dynamic = with_two dynamic
body tags.InvokeDynamic = with_two invoke_dynamic
body tags.Module = with_index module_named
body tags.Package = with_index package_named

-- the tag that a byte stands for
unfoldable pub tag_numbered : ℕ → Option Tag
tag_numbered n =
    if n == 1 then Some tags.Utf8
    else if n == 3 then Some tags.Integer
    else if n == 4 then Some tags.Float
    else if n == 5 then Some tags.Long
    else if n == 6 then Some tags.Double
    else if n == 7 then Some tags.Class
    else if n == 8 then Some tags.String
    else if n == 9 then Some tags.Fieldref
    else if n == 10 then Some tags.Methodref
    else if n == 11 then Some tags.InterfaceMethodref
    else if n == 12 then Some tags.NameAndType
    else if n == 15 then Some tags.MethodHandle
    else if n == 16 then Some tags.MethodType
    else if n == 17 then Some tags.Dynamic
    else if n == 18 then Some tags.InvokeDynamic
    else if n == 19 then Some tags.Module
    else if n == 20 then Some tags.Package
    else None

-- ---- the first pass

-- A Long or Double takes a second index, and so many are to come behind its own.
abbrev pub has_room : Tag → ℕ → Bool
has_room tag n = not (n == 0 && is_wide tag)

abbrev pub entry_tagged : Option Tag → ℕ → ℕ → Reader Entry
entry_tagged None n place at s = fault_at faults.Tag place
entry_tagged (Some tag) n place at s = if has_room tag n then body tag at s else fault_at faults.PoolCount place

-- an entry, where so many slots are to come behind its own
unfoldable pub entry_read : ℕ → Reader Entry
entry_read n at s = then_read (item 1 at s) (λ tag. entry_tagged (tag_numbered (from_be_bytes w8 tag)) n at)

abbrev pub more : Option Entry → Result (Got Pool) Malformed → Result (Got Pool) Malformed
more slot (Ok rest) = Ok (got (slot ∷ rest.value) rest.at rest.left)
more slot (Err f) = Err f

abbrev pub goes_on : Result (Got Entry) Malformed → (Entry → Reader Pool) → Result (Got Pool) Malformed
goes_on (Ok e) rest = more (Some e.value) (rest e.value e.at e.left)
goes_on (Err f) rest = Err f

-- what so many indices name, and whether the first of them is the second of a Long or Double
unfoldable pub read_slots : ℕ → Bool → Reader Pool
read_slots zero second at s = Ok (got [] at s)
read_slots (suc n) true at s = more None (read_slots n false at s)
read_slots (suc n) false at s = goes_on (entry_read n at s) (λ e. read_slots n (is_wide (tag_of e)))

-- ---- the second and third pass

-- what is wrong with an index
abbrev pub Check : Type 0
Check = Link → Option FaultKind

abbrev pub fault_of_link : Option FaultKind → ℕ → Option Malformed
fault_of_link None at = None
fault_of_link (Some kind) at = Some (record { kind = kind; at = at })

-- the first fault of the indices of an entry, whose tag stands at a place
abbrev pub first_among : Check → ℕ → List Link → Option Malformed
first_among check at [] = None
first_among check at (l ∷ ls) = or_else (fault_of_link (check l) (at + l.behind)) (first_among check at ls)

-- the first fault of the indices of all entries, the first of which stands at a place
abbrev pub first_fault : Check → ℕ → Pool → Option Malformed
first_fault check at [] = None
first_fault check at (None ∷ slots) = first_fault check at slots
first_fault check at (Some e ∷ slots) = or_else (first_among check at (links e)) (first_fault check (at + size e) slots)

abbrev pub names_wrong : Pool → Check
names_wrong pool l = wrong_entry pool l.referent l.index

abbrev pub leads_wrong : Pool → Check
leads_wrong pool l = wrong_text pool l.referent l.index

-- ---- the pool: its count, and the entries of the indices from 1 to the count minus 1

abbrev pub unless : {A : Type 0} → Option Malformed → A → Result A Malformed
unless None a = Ok a
unless (Some f) a = Err f

abbrev pub checked : ℕ → Result (Got Pool) Malformed → Result (Got Pool) Malformed
checked at (Err f) = Err f
checked at (Ok all) = unless (or_else (first_fault (names_wrong all.value) at all.value) (first_fault (leads_wrong all.value) at all.value)) all

abbrev pub counted : ℕ → ℕ → Reader Pool
counted zero place at s = fault_at faults.PoolCount place
counted (suc n) place at s = checked at (read_slots n false at s)

unfoldable pub read_pool : Reader Pool
read_pool at s = then_read (number_read at s) (λ count. counted count at)
