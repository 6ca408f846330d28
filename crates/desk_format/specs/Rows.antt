-- Rows of layouts, tables of rows, and choices by a tag.
use Rattle.std.specs.Prelude.{ℕ, Bool, ◌&&◌, ◌==◌, nat_le, List, [], ◌∷◌, Some, None, if◌then◌else◌}
use Rattle.std.specs.Int.{w8, w16}
use Rattle.desk_base.specs.declared.faults.FaultKind.{FaultKind}
use Rattle.desk_format.specs.declared.attributes.Slot.{Slot}
use Rattle.desk_format.specs.declared.attributes.Slot.TheVariants as slots
use Rattle.desk_format.specs.Layouts.{Layout, Check, any}

-- numbers of one and of two bytes
abbrev pub u1 : Layout
u1 = Layout.number w8 any

abbrev pub u2 : Layout
u2 = Layout.number w16 any

-- layouts one behind the other
abbrev pub rows : List Layout → Layout
rows [] = Layout.nothing
rows (l ∷ ls) = Layout.row l (rows ls)

-- a two-byte count, and as many of a layout
abbrev pub many : Layout → Layout
many each = Layout.table w16 each

-- slots one behind the other, and a table of such rows
abbrev pub slot_layout : Slot → Layout
slot_layout slots.Number = Layout.number w16 any
slot_layout (slots.Index kind) = Layout.index kind

unfoldable pub row_layout : List Slot → Layout
row_layout [] = Layout.nothing
row_layout (s ∷ ss) = Layout.row (slot_layout s) (row_layout ss)

abbrev pub table_layout : List Slot → Layout
table_layout ss = Layout.table w16 (row_layout ss)

-- ---- a choice by a one-byte tag

-- which tags, and what stands behind them
pub record Case : Type 0 where
  pub holds : ℕ → Bool
  pub layout : Layout

-- one tag
abbrev pub at : ℕ → Layout → Case
at tag layout = record { holds = λ n. n == tag; layout = layout }

-- each tag from the first to the last
abbrev pub from : ℕ → ℕ → Layout → Case
from first last layout = record { holds = λ n. nat_le first n && nat_le n last; layout = layout }

abbrev pub tag_check : FaultKind → List Case → Check
tag_check kind [] n = Some kind
tag_check kind (c ∷ cs) n = if c.holds n then None else tag_check kind cs n

abbrev pub tag_branch : List Case → ℕ → Layout
tag_branch [] n = Layout.nothing
tag_branch (c ∷ cs) n = if c.holds n then c.layout else tag_branch cs n

-- one of these cases; a tag of none of them is the fault
abbrev pub one_of : FaultKind → List Case → Layout
one_of kind cases = Layout.tagged (tag_check kind cases) (tag_branch cases)
