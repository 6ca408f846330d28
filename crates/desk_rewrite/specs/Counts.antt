-- How many uses of a class are renamed, and how many have odd texts.
use Rattle.std.specs.Prelude.{◌≡◌, ℕ, Bool, false, not, List, Option, Some, count_by}
use Rattle.std.specs.Str.{bytes_eq}
use Rattle.desk_base.specs.Names.{Text}
use Rattle.desk_base.specs.Signatures.{SignatureKind}
use Rattle.desk_base.specs.declared.kinds.Role.{Role}
use Rattle.desk_base.specs.declared.kinds.Role.TheVariants as roles
use Rattle.desk_base.specs.declared.kinds.Used.{Used}
use Rattle.desk_base.specs.Entries.{Pool, text_at}
use Rattle.desk_class.specs.Answers.{answer_at}
use Rattle.desk_format.specs.Classes.{Class, class_uses}
use Rattle.desk_format.specs.Resolved.{Images, image}
use Rattle.desk_names.specs.SignatureScan.{is_sound_signature}

-- whether the image of a use differs from its text
abbrev pub is_renamed : Images → Pool → Used → Bool
is_renamed im pool u = not (bytes_eq (image im u.role (text_at pool u.index)) (text_at pool u.index))

-- how many uses of a class have an image that differs from their text
abbrev pub renamed_count : Images → Class → ℕ
renamed_count im c = count_by (is_renamed im c.pool) (class_uses c)

-- A text is odd in a signature role where it is no signature of that kind (JVMS 4.7.9.1), or nests more than 64 deep.
abbrev pub is_odd : Role → Text → Bool
is_odd roles.ClassSig text = not (is_sound_signature SignatureKind.class text)
is_odd roles.MethodSig text = not (is_sound_signature SignatureKind.method text)
is_odd roles.FieldSig text = not (is_sound_signature SignatureKind.field text)
is_odd _ text = false

abbrev pub is_odd_use : Pool → Used → Bool
is_odd_use pool u = is_odd u.role (text_at pool u.index)

-- each answer says whether the text of its index is odd in its role
abbrev pub AreOdd : Pool → List (Option Bool) → Type 0
AreOdd pool answers = (i : ℕ) (r : Role) (b : Bool) → answer_at answers i r ≡ Some b → b ≡ is_odd r (text_at pool i)

-- how many uses of a class have an odd text
abbrev pub odd_count : Class → ℕ
odd_count c = count_by (is_odd_use c.pool) (class_uses c)
