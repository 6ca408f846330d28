-- The bytes of a constant pool, and its uses of texts (JVMS 4.4).
use Rattle.std.specs.Prelude.{ℕ, suc, ◌+◌, List, [], ◌∷◌, ◌++◌, length, Some, None}
use Rattle.std.specs.Int.{w16, to_be_bytes}
use Rattle.desk_base.specs.declared.kinds.Used.{Used}
use Rattle.desk_base.specs.Entries.{Entry, utf8, integer, float, long, double, class, string, fieldref, methodref, interface_methodref, name_and_type, method_handle, method_type, dynamic, invoke_dynamic, module_named, package_named, tag_of, number_of, Pool}
use Rattle.desk_base.specs.Referents.{Link, links}
use Rattle.desk_format.specs.Trees.{text_in_role, uses_of}

-- a two-byte number
abbrev pub two : ℕ → List ℕ
two n = to_be_bytes w16 n

-- what stands behind the tag
abbrev pub print_body : Entry → List ℕ
print_body (utf8 t) = two (length t) ++ t
print_body (integer b) = b
print_body (float b) = b
print_body (long b) = b
print_body (double b) = b
print_body (class i) = two i
print_body (string i) = two i
print_body (fieldref c n) = two c ++ two n
print_body (methodref c n) = two c ++ two n
print_body (interface_methodref c n) = two c ++ two n
print_body (name_and_type n d) = two n ++ two d
print_body (method_handle k i) = k ∷ two i
print_body (method_type i) = two i
print_body (dynamic n i) = two n ++ two i
print_body (invoke_dynamic n i) = two n ++ two i
print_body (module_named i) = two i
print_body (package_named i) = two i

-- the tag, and what stands behind it
abbrev pub print_entry : Entry → List ℕ
print_entry e = number_of (tag_of e) ∷ print_body e

-- how many bytes an entry takes
abbrev pub size : Entry → ℕ
size e = length (print_entry e)

-- the entries; the second index of a Long or Double has no bytes
abbrev pub print_slots : Pool → List ℕ
print_slots [] = []
print_slots (None ∷ slots) = print_slots slots
print_slots (Some e ∷ slots) = print_entry e ++ print_slots slots

-- the count, and the entries
abbrev pub print_pool : Pool → List ℕ
print_pool slots = two (suc (length slots)) ++ print_slots slots

-- ---- uses

-- the texts that the indices of an entry name, with their roles, where its tag stands at an offset
abbrev pub uses_among : ℕ → List Link → List Used
uses_among at [] = []
uses_among at (l ∷ ls) = uses_of (text_in_role l.referent (at + l.behind) l.index) ++ uses_among at ls

-- the uses of texts, in index order and then by place, where the first entry stands at an offset
abbrev pub pool_uses : ℕ → Pool → List Used
pool_uses at [] = []
pool_uses at (None ∷ slots) = pool_uses at slots
pool_uses at (Some e ∷ slots) = uses_among at (links e) ++ pool_uses (at + size e) slots
