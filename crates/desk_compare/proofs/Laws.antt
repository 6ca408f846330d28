-- The law of two bodies side by side.
use Rattle.std.specs.Prelude.{◌≡◌, ◌↔◌, ℕ, true, List, [], Some, Ok}
use Rattle.desk_base.specs.Entries.{Pool}
use Rattle.desk_format.specs.Layouts.{Layout}
use Rattle.desk_format.specs.Reading.{Got, read}
use Rattle.desk_compare.specs.Free.{free, free_code}
use Rattle.desk_parts.specs.Steps.{along}
use Rattle.desk_compare.specs.Bodies.{pair, Tests, comparing}
use Rattle.desk_base.specs.declared.kinds.UseKind.{UseKind}
use Rattle.desk_format.specs.Values.{value_of_kind}
use Rattle.desk_compare.proofs.Beside.{Same}

-- Two bodies that were read to their ends by one layout.
pub record AreRead (l : Layout) (left right : Pool) (s t : List ℕ) (a b : Got) : Type 0 where
  pub from : ℕ
  pub to : ℕ
  pub first : read left l from s ≡ Ok a
  pub second : read right l to t ≡ Ok b
  pub first_end : a.left ≡ []
  pub second_end : b.left ≡ []

abbrev pub SameBodies : Type 0
SameBodies = (l : Layout) (left right : Pool) (s t : List ℕ) (a b : Got) → AreRead l left right s t a b → (free left a.tree ≡ free right b.tree) ↔ Same left right a.tree t

-- The tests of leaves tell what they are to tell.
pub record Tell (left right : Pool) (by : Tests) : Type 0 where
  pub pool : by.pool ≡ left
  pub index_true : (kind : UseKind) (i j : ℕ) → by.index kind i j ≡ true → value_of_kind left kind i ≡ value_of_kind right kind j
  pub index_from : (kind : UseKind) (i j : ℕ) → value_of_kind left kind i ≡ value_of_kind right kind j → by.index kind i j ≡ true
  pub code_true : (s t : List ℕ) → by.code s t ≡ true → free_code left s ≡ free_code right t
  pub code_from : (s t : List ℕ) → free_code left s ≡ free_code right t → by.code s t ≡ true

-- Two bodies that were read to their ends by one layout have equal free trees exactly where a move goes along both to their
-- ends.
abbrev pub Compared : Type 0
Compared = (l : Layout) (left right : Pool) (by : Tests) (s t : List ℕ) (a b : Got) → Tell left right by → AreRead l left right s t a b
    → (free left a.tree ≡ free right b.tree) ↔ (along (comparing by) l (pair s t) ≡ Some (pair [] []))
