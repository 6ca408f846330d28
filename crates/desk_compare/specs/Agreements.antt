-- What two entries of the same tag need to lead to the same value, one level deep.
use Rattle.std.specs.Prelude.{ℕ, Bool, false, ◌&&◌, ◌==◌, List, if◌then◌else◌}
use Rattle.std.specs.Str.{bytes_eq}
use Rattle.desk_base.specs.Names.{Text}
use Rattle.desk_base.specs.Entries.{Pool, text_at}
use Rattle.desk_base.specs.declared.kinds.Tag.{Tag}
use Rattle.desk_base.specs.declared.kinds.Tag.TheVariants as tags
use Rattle.desk_pool.specs.Bodies.{operands_at, number_at}
use Rattle.desk_compare.specs.declared.known.IndexPair.{IndexPair}
use Rattle.desk_compare.specs.declared.values.Agreement.{Agreement}
use Rattle.desk_compare.specs.declared.values.Agreement.TheVariants.{Decided, One, Both}
use Rattle.desk_compare.specs.Values.{first_of, second_of, bytes_or_none, same_within}

-- whether they do, where the indices that lead further are followed so many levels deep
abbrev pub agrees : ℕ → Pool → Pool → Agreement → Bool
agrees n left right (Decided same) = same
agrees n left right (One p) = same_within n left right p.left p.right
agrees n left right (Both p q) = same_within n left right p.left p.right && same_within n left right q.left q.right

abbrev pub index_pair : ℕ → ℕ → IndexPair
index_pair i j = record { left = i; right = j }

-- By the tag: the texts that indices name on either side, the two numbers of the body of each entry, and the text or the bytes of
-- a number of each.
abbrev pub agreement_by : (ℕ → Text) → (ℕ → Text) → Tag → ℕ → ℕ → ℕ → ℕ → Text → Text → List ℕ → List ℕ → Agreement
agreement_by s t tags.Utf8 a b c d u v m n = Decided (bytes_eq u v)
agreement_by s t tags.Integer a b c d u v m n = Decided (bytes_eq m n)
agreement_by s t tags.Float a b c d u v m n = Decided (bytes_eq m n)
agreement_by s t tags.Long a b c d u v m n = Decided (bytes_eq m n)
agreement_by s t tags.Double a b c d u v m n = Decided (bytes_eq m n)
agreement_by s t tags.Class a b c d u v m n = Decided (bytes_eq (s a) (t c))
agreement_by s t tags.String a b c d u v m n = Decided (bytes_eq (s a) (t c))
agreement_by s t tags.MethodType a b c d u v m n = Decided (bytes_eq (s a) (t c))
agreement_by s t tags.Module a b c d u v m n = Decided (bytes_eq (s a) (t c))
agreement_by s t tags.Package a b c d u v m n = Decided (bytes_eq (s a) (t c))
agreement_by s t tags.NameAndType a b c d u v m n = Decided (bytes_eq (s a) (t c) && bytes_eq (s b) (t d))
agreement_by s t tags.Fieldref a b c d u v m n = Both (index_pair a c) (index_pair b d)
agreement_by s t tags.Methodref a b c d u v m n = Both (index_pair a c) (index_pair b d)
agreement_by s t tags.InterfaceMethodref a b c d u v m n = Both (index_pair a c) (index_pair b d)
agreement_by s t tags.MethodHandle a b c d u v m n = if a == c then One (index_pair b d) else Decided false
agreement_by s t tags.Dynamic a b c d u v m n = if a == c then One (index_pair b d) else Decided false
agreement_by s t tags.InvokeDynamic a b c d u v m n = if a == c then One (index_pair b d) else Decided false

-- of the entries of a tag that two indices name
abbrev pub agreement_of : Pool → Pool → Tag → ℕ → ℕ → Agreement
agreement_of left right tag i j =
    agreement_by (text_at left) (text_at right) tag
    (first_of (operands_at left i)) (second_of (operands_at left i)) (first_of (operands_at right j)) (second_of (operands_at right j))
    (text_at left i) (text_at right j) (bytes_or_none (number_at left i)) (bytes_or_none (number_at right j))
