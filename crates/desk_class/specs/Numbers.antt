-- Numbers of texts that go by indices.
use Rattle.std.specs.Prelude.{◌≡◌, ℕ, Some, Option, List, slice_get}
use Rattle.std.specs.BTreeMap.{BTreeMap, get_by}
use Rattle.std.specs.Cmp.Lexicographic.{slice_cmp}
use Rattle.std.specs.Ordering.{nat_cmp}
use denote.Ref.{Bor}
use Rattle.desk_base.specs.Names.{Text}
use Rattle.desk_class.specs.declared.numbers.TextNumbers.{TextNumbers}

-- the number of a text, if it has one
abbrev pub number_at : BTreeMap (Bor (List ℕ)) ℕ → Text → Option ℕ
number_at numbers t = get_by (λ k. slice_cmp nat_cmp t k.now) numbers

abbrev pub number_in : TextNumbers → Text → Option ℕ
number_in x t = number_at x.by_text t

-- A number is an index that the text goes by, and what is kept for an index is the number of its text.
pub record IsNumbering (text : ℕ → Text) (x : TextNumbers) : Type 0 where
  pub texts : (t : Text) (n : ℕ) → number_in x t ≡ Some n → text n ≡ t
  pub kept : (i n : ℕ) → slice_get x.by_index.items i ≡ Some (Some n) → number_in x (text i) ≡ Some n

-- each text keeps its number
pub record Keeps (x y : TextNumbers) : Type 0 where
  pub numbers : (t : Text) (n : ℕ) → number_in x t ≡ Some n → number_in y t ≡ Some n
