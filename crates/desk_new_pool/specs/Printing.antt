-- The bytes of a new pool, as the code makes them from those of the old one.
use Rattle.std.specs.Prelude.{◌≡◌, ℕ, ◌+◌, ◌<◌, ◌≤◌, ◌^◌, List, [], ◌∷◌, ◌++◌, length, get_or, take, drop, Option, Some, None, option_copied, is_some, unwrap_or}
use denote.Ref.{Bor}
use Rattle.desk_base.specs.declared.kinds.Tag.{Tag}
use Rattle.desk_base.specs.declared.kinds.Tag.TheVariants as tags
use Rattle.desk_base.specs.declared.kinds.Used.{Used}
use Rattle.desk_base.specs.Names.{Text}
use Rattle.desk_base.specs.Entries.{Entry, utf8, class, string, name_and_type, method_type, module_named, package_named, tag_of, Pool, utf8_at}
use Rattle.desk_format.specs.PoolBytes.{two, print_entry}

-- how many texts an entry of a tag names
abbrev pub named_texts : Tag → ℕ
named_texts tags.Class = 1
named_texts tags.String = 1
named_texts tags.NameAndType = 2
named_texts tags.MethodType = 1
named_texts tags.Module = 1
named_texts tags.Package = 1
named_texts _ = 0

-- how many bytes an entry of a tag takes, where a Utf8 has a text of so many bytes
abbrev pub entry_size : Tag → ℕ → ℕ
entry_size tags.Utf8 n = 3 + n
entry_size tags.Long n = 9
entry_size tags.Double n = 9
entry_size tags.Class n = 3
entry_size tags.String n = 3
entry_size tags.MethodHandle n = 4
entry_size tags.MethodType n = 3
entry_size tags.Module n = 3
entry_size tags.Package n = 3
entry_size _ n = 5

-- an entry with another text, or with the first of other indices at the texts that it names
abbrev pub put_entry : Option Text → List ℕ → Entry → Entry
put_entry t ns (utf8 own) = utf8 (unwrap_or t own)
put_entry t ns (class i) = class (get_or ns 0 i)
put_entry t ns (string i) = string (get_or ns 0 i)
put_entry t ns (name_and_type n d) = name_and_type (get_or ns 0 n) (get_or ns 1 d)
put_entry t ns (method_type i) = method_type (get_or ns 0 i)
put_entry t ns (module_named i) = module_named (get_or ns 0 i)
put_entry t ns (package_named i) = package_named (get_or ns 0 i)
put_entry t ns e = e

-- slots with other texts and indices
abbrev pub renewed : List (Option (Bor Text)) → List ℕ → Pool → Pool
renewed [] ns slots = []
renewed (t ∷ ts) ns [] = []
renewed (t ∷ ts) ns (None ∷ slots) = None ∷ renewed ts ns slots
renewed (t ∷ ts) ns (Some e ∷ slots) = Some (put_entry (option_copied t) ns e) ∷ renewed ts (drop (named_texts (tag_of e)) ns) slots

-- how many texts the entries of slots name
abbrev pub all_named : Pool → ℕ
all_named [] = 0
all_named (None ∷ slots) = all_named slots
all_named (Some e ∷ slots) = named_texts (tag_of e) + all_named slots

-- the bytes of an entry with another text, or with these indices in place of its own
abbrev pub renewed_bytes : List ℕ → Option Text → List ℕ → List ℕ
renewed_bytes entry (Some t) ns = print_entry (utf8 t)
renewed_bytes entry None [] = entry
renewed_bytes entry None (n ∷ []) = take 1 entry ++ two n
renewed_bytes entry None (n ∷ (m ∷ ns)) = take 1 entry ++ two n ++ two m

-- the bytes of Utf8 entries
abbrev pub print_texts : List (Option (Bor Text)) → List ℕ
print_texts [] = []
print_texts (None ∷ ts) = print_texts ts
print_texts (Some t ∷ ts) = print_entry (utf8 t.now) ++ print_texts ts

-- A text fits a Utf8.
abbrev pub IsShortText : Option (Bor Text) → Type 0
IsShortText None = Unit {0}
IsShortText (Some t) = length t.now < 2 ^ 16

-- A text stands exactly where the pool has one.
abbrev pub SameTexts : Pool → List (Option (Bor Text)) → Type 0
SameTexts pool texts = (i : ℕ) → i ≤ length pool → is_some (get_or texts i None) ≡ is_some (utf8_at pool i)

-- Each index stands at its place in bytes that begin at an offset, one behind the other.
abbrev pub Stands : ℕ → List ℕ → List Used → Type 0
Stands at bytes [] = Unit {0}
Stands at bytes (u ∷ us) = (front : List ℕ) × ((rest : List ℕ) × ((bytes ≡ front ++ (two u.index ++ rest)) × ((u.at ≡ at + length front) × Stands (at + length front + 2) rest us)))
