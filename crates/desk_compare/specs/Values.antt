-- Whether two indices of two pools lead to the same value, as a test that follows both so many levels deep.
use Rattle.std.specs.Prelude.{ℕ, zero, suc, Bool, true, false, ◌&&◌, ◌||◌, ◌==◌, List, [], Option, Some, None, if◌then◌else◌, option_map}
use Rattle.std.specs.Str.{bytes_eq}
use Rattle.desk_base.specs.Names.{Text}
use Rattle.desk_base.specs.declared.kinds.Tag.{Tag}
use Rattle.desk_base.specs.declared.kinds.Tag.TheVariants as tags
use Rattle.desk_base.specs.declared.kinds.UseKind.{UseKind}
use Rattle.desk_base.specs.declared.referents.Referent.{Referent}
use Rattle.desk_base.specs.declared.referents.Referent.TheVariants as referents
use Rattle.desk_base.specs.Entries.{Pool, Entry, entry_at, tag_of, number_of, text_at, text_in}
use Rattle.desk_base.specs.Referents.{referent_of, may_be_none}
use Rattle.desk_pool.specs.Bodies.{operands_in, number_in}

-- What an entry of the pool holds, one level deep: its tag; the kind of a method handle, or the number of a bootstrap method; the
-- text that it is or names, or the bytes of its number; the descriptor that it names beside a name; and two indices that lead
-- further. What it doesn't hold is 0 or empty, and index 0 leads to nothing.
pub record EntryParts : Type 0 where
  pub tag : Option Tag
  pub number : ℕ
  pub text : Text
  pub descriptor : Text
  pub first : ℕ
  pub second : ℕ

abbrev pub with_texts : Option Tag → Text → Text → EntryParts
with_texts tag s d = record { tag = tag; number = 0; text = s; descriptor = d; first = 0; second = 0 }

abbrev pub with_indices : Option Tag → ℕ → ℕ → EntryParts
with_indices tag i j = record { tag = tag; number = 0; text = []; descriptor = []; first = i; second = j }

abbrev pub with_number : Option Tag → ℕ → ℕ → EntryParts
with_number tag n i = record { tag = tag; number = n; text = []; descriptor = []; first = i; second = 0 }

-- By the tag of an entry: the texts that indices name, the two numbers of its body, and the text or the bytes of a number there.
abbrev pub parts_by : (ℕ → Text) → Option Tag → ℕ → ℕ → Text → List ℕ → EntryParts
parts_by t None a b s n = with_texts None [] []
parts_by t (Some tags.Utf8) a b s n = with_texts (Some tags.Utf8) s []
parts_by t (Some tags.Integer) a b s n = with_texts (Some tags.Integer) n []
parts_by t (Some tags.Float) a b s n = with_texts (Some tags.Float) n []
parts_by t (Some tags.Long) a b s n = with_texts (Some tags.Long) n []
parts_by t (Some tags.Double) a b s n = with_texts (Some tags.Double) n []
parts_by t (Some tags.Class) a b s n = with_texts (Some tags.Class) (t a) []
parts_by t (Some tags.String) a b s n = with_texts (Some tags.String) (t a) []
parts_by t (Some tags.MethodType) a b s n = with_texts (Some tags.MethodType) (t a) []
parts_by t (Some tags.Module) a b s n = with_texts (Some tags.Module) (t a) []
parts_by t (Some tags.Package) a b s n = with_texts (Some tags.Package) (t a) []
parts_by t (Some tags.NameAndType) a b s n = with_texts (Some tags.NameAndType) (t a) (t b)
parts_by t (Some tags.Fieldref) a b s n = with_indices (Some tags.Fieldref) a b
parts_by t (Some tags.Methodref) a b s n = with_indices (Some tags.Methodref) a b
parts_by t (Some tags.InterfaceMethodref) a b s n = with_indices (Some tags.InterfaceMethodref) a b
parts_by t (Some tags.MethodHandle) a b s n = with_number (Some tags.MethodHandle) a b
parts_by t (Some tags.Dynamic) a b s n = with_number (Some tags.Dynamic) a b
parts_by t (Some tags.InvokeDynamic) a b s n = with_number (Some tags.InvokeDynamic) a b

abbrev pub first_of : Option (ℕ × ℕ) → ℕ
first_of None = 0
first_of (Some p) = p.0

abbrev pub second_of : Option (ℕ × ℕ) → ℕ
second_of None = 0
second_of (Some p) = p.1

abbrev pub bytes_or_none : Option (List ℕ) → List ℕ
bytes_or_none None = []
bytes_or_none (Some b) = b

abbrev pub parts_in : (ℕ → Text) → Option Entry → EntryParts
parts_in t e = parts_by t (option_map tag_of e) (first_of (operands_in e)) (second_of (operands_in e)) (text_in e) (bytes_or_none (number_in e))

-- of the entry that an index names
abbrev pub parts_at : Pool → ℕ → EntryParts
parts_at pool i = parts_in (text_at pool) (entry_at pool i)

-- ---- tests

abbrev pub tag_number : Option Tag → ℕ
tag_number None = 0
tag_number (Some tag) = number_of tag

-- the same parts but for the indices that lead further
abbrev pub same_parts : EntryParts → EntryParts → Bool
same_parts p q = tag_number p.tag == tag_number q.tag && (p.number == q.number && (bytes_eq p.text q.text && bytes_eq p.descriptor q.descriptor))

-- two indices, followed so many levels deep
unfoldable pub same_within : ℕ → Pool → Pool → ℕ → ℕ → Bool
same_within zero left right i j = true
same_within (suc levels) left right i j =
    same_parts (parts_at left i) (parts_at right j)
    && (same_within levels left right (parts_at left i).first (parts_at right j).first && same_within levels left right (parts_at left i).second (parts_at right j).second)

-- Three levels are all, as for a value.
abbrev pub same_value : Pool → Pool → ℕ → ℕ → Bool
same_value left right i j = same_within 3 left right i j

-- two indices that name texts, where 0 may name none
abbrev pub same_text : Pool → Pool → Bool → ℕ → ℕ → Bool
same_text left right none i j = if none && (i == 0 || j == 0) then i == 0 && j == 0 else bytes_eq (text_at left i) (text_at right j)

abbrev pub is_text : Referent → Bool
is_text (referents.Text role form) = true
is_text _ = false

-- two indices of a use kind
unfoldable pub same_of_kind : Pool → Pool → UseKind → ℕ → ℕ → Bool
same_of_kind left right kind i j = if is_text (referent_of kind) then same_text left right (may_be_none kind) i j else same_value left right i j
