-- The entries of a constant pool (JVMS 4.4), and a pool as a map from index to entry.
use Rattle.std.specs.Prelude.{ℕ, zero, suc, Bool, true, false, List, get_or, Option, Some, None, option_map, []}
use Rattle.desk_base.specs.declared.kinds.Tag.{Tag}
use Rattle.desk_base.specs.declared.kinds.Tag.TheVariants as tags
use Rattle.desk_base.specs.Names.{Text}

-- An entry as it stands in the file, without its place: bytes of a text, bytes of a number, indices of other entries, the
-- kind of a method handle, and the number of a bootstrap method.
pub data Entry : Type 0 where
  utf8 : Text → Entry
  integer : List ℕ → Entry
  float : List ℕ → Entry
  long : List ℕ → Entry
  double : List ℕ → Entry
  class : ℕ → Entry
  string : ℕ → Entry
  fieldref : ℕ → ℕ → Entry
  methodref : ℕ → ℕ → Entry
  interface_methodref : ℕ → ℕ → Entry
  name_and_type : ℕ → ℕ → Entry
  method_handle : ℕ → ℕ → Entry
  method_type : ℕ → Entry
  dynamic : ℕ → ℕ → Entry
  invoke_dynamic : ℕ → ℕ → Entry
  module_named : ℕ → Entry
  package_named : ℕ → Entry

abbrev pub tag_of : Entry → Tag
tag_of (utf8 t) = tags.Utf8
tag_of (integer b) = tags.Integer
tag_of (float b) = tags.Float
tag_of (long b) = tags.Long
tag_of (double b) = tags.Double
tag_of (class i) = tags.Class
tag_of (string i) = tags.String
tag_of (fieldref c n) = tags.Fieldref
tag_of (methodref c n) = tags.Methodref
tag_of (interface_methodref c n) = tags.InterfaceMethodref
tag_of (name_and_type n d) = tags.NameAndType
tag_of (method_handle k i) = tags.MethodHandle
tag_of (method_type i) = tags.MethodType
tag_of (dynamic n i) = tags.Dynamic
tag_of (invoke_dynamic n i) = tags.InvokeDynamic
tag_of (module_named i) = tags.Module
tag_of (package_named i) = tags.Package

-- the byte that stands for a tag (JVMS 4.4)
abbrev pub number_of : Tag → ℕ
number_of tags.Utf8 = 1
number_of tags.Integer = 3
number_of tags.Float = 4
number_of tags.Long = 5
number_of tags.Double = 6
number_of tags.Class = 7
number_of tags.String = 8
number_of tags.Fieldref = 9
number_of tags.Methodref = 10
number_of tags.InterfaceMethodref = 11
number_of tags.NameAndType = 12
number_of tags.MethodHandle = 15
number_of tags.MethodType = 16
number_of tags.Dynamic = 17
number_of tags.InvokeDynamic = 18
number_of tags.Module = 19
number_of tags.Package = 20

-- a Long or Double takes two indices, of which the second names nothing
abbrev pub is_wide : Tag → Bool
is_wide tags.Long = true
is_wide tags.Double = true
is_wide _ = false

-- a pool: what each index from 1 on names
abbrev pub Pool : Type 0
Pool = List (Option Entry)

-- the entry that an index names; 0 names nothing
abbrev pub entry_at : Pool → ℕ → Option Entry
entry_at pool zero = None
entry_at pool (suc i) = get_or pool i None

-- its tag
abbrev pub tag_at : Pool → ℕ → Option Tag
tag_at pool i = option_map tag_of (entry_at pool i)

abbrev pub utf8_in : Option Entry → Option Text
utf8_in (Some (utf8 t)) = Some t
utf8_in _ = None

-- the text at the index of a Utf8, and none at another index
abbrev pub utf8_at : Pool → ℕ → Option Text
utf8_at pool i = utf8_in (entry_at pool i)

abbrev pub text_in : Option Entry → Text
text_in (Some (utf8 t)) = t
text_in _ = []

-- the text at the index of a Utf8, and the empty text at another index
abbrev pub text_at : Pool → ℕ → Text
text_at pool i = text_in (entry_at pool i)

abbrev pub class_name_in : Pool → Option Entry → Text
class_name_in pool (Some (class i)) = text_at pool i
class_name_in pool _ = []

-- the text that a Class leads to
abbrev pub class_name_at : Pool → ℕ → Text
class_name_at pool i = class_name_in pool (entry_at pool i)

abbrev pub descriptor_in : Pool → Option Entry → Text
descriptor_in pool (Some (name_and_type n d)) = text_at pool d
descriptor_in pool _ = []

-- the descriptor that a NameAndType leads to
abbrev pub descriptor_at : Pool → ℕ → Text
descriptor_at pool i = descriptor_in pool (entry_at pool i)
