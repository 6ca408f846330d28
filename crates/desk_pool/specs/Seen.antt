-- What the code reads and keeps, as the definitions see it.
use Rattle.std.specs.Prelude.{◌≡◌, List, [], ◌∷◌, ◌++◌, map, Option, Some, None, option_map, Result, Ok, Err}
use Rattle.desk_base.specs.Spot.{Spot}
use Rattle.desk_base.specs.declared.faults.Malformed.{Malformed}
use Rattle.desk_base.specs.declared.faults.ReadFault.{ReadFault}
use Rattle.desk_base.specs.declared.faults.ReadFault.TheVariants as read_faults
use Rattle.desk_base.specs.declared.kinds.Used.{Used}
use Rattle.desk_base.specs.Entries.{Pool, Entry, utf8, integer, float, long, double, class, string, fieldref, methodref, interface_methodref, name_and_type, method_handle, method_type, dynamic, invoke_dynamic, module_named, package_named}
use Rattle.desk_base.specs.Referents.{Link, link}
use Rattle.desk_format.specs.PoolReading.{Got, got, Check, names_wrong, leads_wrong}
use Rattle.desk_pool.specs.declared.constant.Constant.{Constant}
use Rattle.desk_pool.specs.declared.constant.Constant.TheVariants as constants
use Rattle.desk_pool.specs.declared.links.Link.{Link as CodeLink}
use Rattle.desk_pool.specs.declared.links.Links.{Links}
use Rattle.desk_pool.specs.declared.passes.Pass.{Pass}
use Rattle.desk_pool.specs.declared.passes.Pass.TheVariants as passes

-- ---- what is read

-- What a call read, seen so, and where its cursor stands, is what a reader gives; or both fail alike.
abbrev pub Reads : {A B : Type 0} → Result A Malformed → (A → B) → Result (Got B) Malformed → Spot → Type 0
Reads (Ok a) see reading spot = reading ≡ Ok (got (see a) spot.at spot.left)
Reads (Err f) see reading spot = reading ≡ Err f

abbrev pub Stops : {A : Type 0} → ReadFault → Result A Malformed → Type 0
Stops (read_faults.Malformed f) reading = reading ≡ Err f
Stops read_faults.Memory reading = Unit {0}

-- The same, unless memory ran out.
abbrev pub ReadsAll : {A B : Type 0} → Result A ReadFault → (A → B) → Result (Got B) Malformed → Spot → Type 0
ReadsAll (Ok a) see reading spot = reading ≡ Ok (got (see a) spot.at spot.left)
ReadsAll (Err e) see reading spot = Stops e reading

-- a pool that was read, and its uses of texts
pub record ReadPool : Type 0 where
  pub entries : Pool
  pub uses : List Used

-- ---- what is kept

abbrev pub entry_of : Constant → Entry
entry_of (constants.Utf8 t) = utf8 t.bytes.now
entry_of (constants.Integer b) = integer b.now
entry_of (constants.Float b) = float b.now
entry_of (constants.Long b) = long b.now
entry_of (constants.Double b) = double b.now
entry_of (constants.Class i) = class i
entry_of (constants.String i) = string i
entry_of (constants.Fieldref c n) = fieldref c n
entry_of (constants.Methodref c n) = methodref c n
entry_of (constants.InterfaceMethodref c n) = interface_methodref c n
entry_of (constants.NameAndType n d) = name_and_type n d
entry_of (constants.MethodHandle k i) = method_handle k i
entry_of (constants.MethodType d) = method_type d
entry_of (constants.Dynamic n i) = dynamic n i
entry_of (constants.InvokeDynamic n i) = invoke_dynamic n i
entry_of (constants.Module i) = module_named i
entry_of (constants.Package i) = package_named i

abbrev pub slot_of : Option Constant → Option Entry
slot_of = option_map entry_of

-- what each index from 1 on names
abbrev pub seen : List (Option Constant) → Pool
seen slots = map slot_of slots

-- slots that were read before others
abbrev pub before : Pool → Result (Got Pool) Malformed → Result (Got Pool) Malformed
before slots (Ok rest) = Ok (got (slots ++ rest.value) rest.at rest.left)
before slots (Err f) = Err f

-- ---- indices of an entry

abbrev pub link_of : CodeLink → Link
link_of l = link l.behind l.referent l.index

abbrev pub listed : Option CodeLink → List Link
listed None = []
listed (Some l) = link_of l ∷ []

abbrev pub links_in : Links → List Link
links_in ls = listed ls.first ++ listed ls.second

-- what a pass says of an index
abbrev pub check_of : Pass → Pool → Check
check_of passes.Names pool = names_wrong pool
check_of passes.Texts pool = leads_wrong pool
