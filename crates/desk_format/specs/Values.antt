-- What an index of the constant pool leads to, with no index left in it.
use Rattle.std.specs.Prelude.{ℕ, zero, suc, List, Option, Some, None, ◌&&◌, ◌==◌, if◌then◌else◌}
use Rattle.desk_base.specs.Names.{Text}
use Rattle.desk_base.specs.declared.kinds.Tag.{Tag}
use Rattle.desk_base.specs.declared.kinds.Tag.TheVariants as tags
use Rattle.desk_base.specs.declared.kinds.Role.{Role}
use Rattle.desk_base.specs.declared.kinds.UseKind.{UseKind}
use Rattle.desk_base.specs.declared.referents.Referent.{Referent}
use Rattle.desk_base.specs.declared.referents.Referent.TheVariants as referents
use Rattle.desk_base.specs.Entries.{Entry, utf8, integer, float, long, double, class, string, fieldref, methodref, interface_methodref, name_and_type, method_handle, method_type, dynamic, invoke_dynamic, module_named, package_named, Pool, entry_at, text_at}
use Rattle.desk_base.specs.Referents.{referent_of, may_be_none}

-- none: index 0. text: what a Utf8 is by itself. text_as: a text that is used in a role.
pub data Value : Type 0 where
  none : Value
  text : Text → Value
  text_as : Role → Text → Value
  number : Tag → List ℕ → Value
  class_named : Text → Value
  string_of : Text → Value
  named_typed : Text → Text → Value
  member : Tag → Value → Value → Value
  handle : ℕ → Value → Value
  method_typed : Text → Value
  computed : Tag → ℕ → Value → Value
  module_called : Text → Value
  package_called : Text → Value

-- an entry, by what its indices lead to and the texts that they name
abbrev pub value_in : (ℕ → Value) → (ℕ → Text) → Option Entry → Value
value_in v t None = none
value_in v t (Some (utf8 s)) = text s
value_in v t (Some (integer b)) = number tags.Integer b
value_in v t (Some (float b)) = number tags.Float b
value_in v t (Some (long b)) = number tags.Long b
value_in v t (Some (double b)) = number tags.Double b
value_in v t (Some (class i)) = class_named (t i)
value_in v t (Some (string i)) = string_of (t i)
value_in v t (Some (fieldref c n)) = member tags.Fieldref (v c) (v n)
value_in v t (Some (methodref c n)) = member tags.Methodref (v c) (v n)
value_in v t (Some (interface_methodref c n)) = member tags.InterfaceMethodref (v c) (v n)
value_in v t (Some (name_and_type n d)) = named_typed (t n) (t d)
value_in v t (Some (method_handle k i)) = handle k (v i)
value_in v t (Some (method_type d)) = method_typed (t d)
value_in v t (Some (dynamic n i)) = computed tags.Dynamic n (v i)
value_in v t (Some (invoke_dynamic n i)) = computed tags.InvokeDynamic n (v i)
value_in v t (Some (module_named i)) = module_called (t i)
value_in v t (Some (package_named i)) = package_called (t i)

-- indices followed so many levels deep
unfoldable pub value_within : ℕ → Pool → ℕ → Value
value_within zero pool i = none
value_within (suc levels) pool i = value_in (value_within levels pool) (text_at pool) (entry_at pool i)

-- Three levels are all: a method handle, its member, and the class and the name and type of that.
abbrev pub value_of : Pool → ℕ → Value
value_of pool i = value_within 3 pool i

-- what an index of a referent leads to, a text with its role
abbrev pub value_as : Referent → Pool → ℕ → Value
value_as (referents.Text role form) pool i = text_as role (text_at pool i)
value_as _ pool i = value_of pool i

-- what an index of a use kind leads to
abbrev pub value_of_kind : Pool → UseKind → ℕ → Value
value_of_kind pool kind i = if may_be_none kind && i == 0 then none else value_as (referent_of kind) pool i
