-- The pools that have printed bytes which are read again.
use Rattle.std.specs.Prelude.{◌≡◌, ℕ, ◌<◌, ◌≤◌, ◌^◌, Bool, true, false, [], ◌∷◌, length, Some, None}
use Rattle.std.specs.List.{AllByRecursion}
use Rattle.desk_base.specs.Utf8.{bad_form}
use Rattle.desk_base.specs.Entries.{Entry, utf8, integer, float, long, double, class, string, fieldref, methodref, interface_methodref, name_and_type, method_handle, method_type, dynamic, invoke_dynamic, module_named, package_named, is_wide, tag_of}
use Rattle.desk_base.specs.Entries.{Pool}
use Rattle.desk_base.specs.Referents.{Link, links}
use Rattle.desk_format.specs.PoolReading.{names_wrong, leads_wrong}

abbrev pub IsTwoBytes : ℕ → Type 0
IsTwoBytes i = i < 2 ^ 16

-- The numbers of an entry fit their widths, and a text its length and its form.
abbrev pub IsSound : Entry → Type 0
IsSound (utf8 t) = IsTwoBytes (length t) × (bad_form t ≡ None)
IsSound (integer b) = length b ≡ 4
IsSound (float b) = length b ≡ 4
IsSound (long b) = length b ≡ 8
IsSound (double b) = length b ≡ 8
IsSound (class i) = IsTwoBytes i
IsSound (string i) = IsTwoBytes i
IsSound (fieldref c n) = IsTwoBytes c × IsTwoBytes n
IsSound (methodref c n) = IsTwoBytes c × IsTwoBytes n
IsSound (interface_methodref c n) = IsTwoBytes c × IsTwoBytes n
IsSound (name_and_type n d) = IsTwoBytes n × IsTwoBytes d
IsSound (method_handle k i) = (1 ≤ k) × (k ≤ 9) × IsTwoBytes i
IsSound (method_type d) = IsTwoBytes d
IsSound (dynamic n i) = IsTwoBytes n × IsTwoBytes i
IsSound (invoke_dynamic n i) = IsTwoBytes n × IsTwoBytes i
IsSound (module_named i) = IsTwoBytes i
IsSound (package_named i) = IsTwoBytes i

-- Behind each Long or Double stands its second slot, and such slots stand nowhere else.
abbrev pub IsShaped : Bool → Pool → Type 0
IsShaped false [] = Unit {0}
IsShaped true [] = ⊥
IsShaped true (None ∷ slots) = IsShaped false slots
IsShaped true (Some e ∷ slots) = ⊥
IsShaped false (None ∷ slots) = ⊥
IsShaped false (Some e ∷ slots) = IsSound e × IsShaped (is_wide (tag_of e)) slots

-- a fact of each index of each entry
abbrev pub EachLink : (Link → Type 0) → Pool → Type 0
EachLink P [] = Unit {0}
EachLink P (None ∷ slots) = EachLink P slots
EachLink P (Some e ∷ slots) = AllByRecursion P (links e) × EachLink P slots

-- An index names a fitting entry, and leads to a text of its form.
pub record Links (pool : Pool) (l : Link) : Type 0 where
  pub names : names_wrong pool l ≡ None
  pub leads : leads_wrong pool l ≡ None

pub record IsWellFormed (pool : Pool) : Type 0 where
  pub shaped : IsShaped false pool
  pub small : IsTwoBytes (length pool)
  pub linked : EachLink (Links pool) pool
