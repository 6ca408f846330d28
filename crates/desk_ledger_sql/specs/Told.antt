-- What the tables of a ledger tell.
use Rattle.std.specs.Prelude.{◌≡◌, ℕ, pos, Bool, false, List, [], ◌∷◌, map, Option, Some, None, IsTrue}
use Rattle.std.specs.Ordering.{nat_cmp}
use Rattle.std.specs.Cmp.Lexicographic.{slice_cmp}
use Rattle.std.specs.BTreeMap.{is_at}
use Rattle.std.specs.List.{AllByRecursion}
use Rattle.std.specs.FinMap as fin
use Rattle.sqlite.specs.declared.types.Value.{Value}
use Rattle.sqlite.specs.declared.types.Value.TheVariants.{Int}
use Rattle.sqlite.specs.Order.{Row, bytes, column}
use Rattle.sqlite.specs.Tree.{Trees, rowid, IsTable}
use Rattle.sqlite.specs.View.{is_int}
use Rattle.sqlite.specs.Schema.{Schema}
use Rattle.sqlite_rules.specs.Lists.{Has}
use Rattle.sqlite_trees.specs.declared.memory.MemStore.{MemStore}
use Rattle.sqlite.specs.State.{State}
use Rattle.sqlite.specs.Held.{Held as Connected, state}
use Rattle.sqlite.specs.Steps.{over_memory}
use Rattle.desk_base.specs.Names.{Text}
use Rattle.desk_ledger.specs.declared.keeper.Header.{Header}
use Rattle.desk_ledger.specs.declared.keeper.Held.{Held}
use Rattle.desk_ledger.specs.Ledger.{Ledger}
use Rattle.desk_ledger_tables.specs.Rows.{digest_in, is_bytes, output_in}
use Rattle.desk_ledger_tables.specs.Tables.{ledger_schema}

-- the value at a place of a row: its number stands at 0, and its columns behind it
abbrev value_at : ℕ → Row → Value
value_at place row = column row place

-- ---- the table of the rows

abbrev pub target_column : Row → Value
target_column = value_at 1

abbrev pub source_column : Row → Value
source_column = value_at 2

abbrev pub digest_column : Row → Value
digest_column = value_at 3

abbrev pub output_column : Row → Value
output_column = value_at 4

abbrev pub target_in : Row → Text
target_in row = bytes (target_column row)

abbrev pub held_in_row : Row → Held
held_in_row row = record { source = bytes (source_column row); digest = digest_in (digest_column row); output = output_in (output_column row) }

abbrev pub entry_in : Row → Text × Held
entry_in row = (target_in row, held_in_row row)

-- ---- the table of the header, whose first column is its number, which is kept at 0

abbrev pub from_column : Row → Value
from_column = value_at 2

abbrev pub to_column : Row → Value
to_column = value_at 3

abbrev pub rules_column : Row → Value
rules_column = value_at 4

abbrev pub header_in : Row → Header
header_in row = record { from = bytes (from_column row); to = bytes (to_column row); rules = digest_in (rules_column row) }

abbrev pub first_header : List Row → Option Header
first_header [] = None
first_header (row ∷ rows) = Some (header_in row)

-- ---- what the two tables tell

-- the header is the row of the one table, and the rows are those of the other, by their targets
abbrev pub ledger_in : Trees → Ledger
ledger_in trees = record { header = first_header (trees 0); rows = fin.from_entries (map entry_in (trees 1)) }

abbrev pub no_ledger : Ledger
no_ledger = record { header = None; rows = fin.empty }

-- a connection between two statements, each of which is a transaction
pub record IsAt (schema : Schema) (s : State) : Type 0 where
  pub autocommit : s.in_transaction ≡ false
  pub settled : s.now ≡ s.committed
  pub schema_is : s.now.schema ≡ schema

-- whether a row has this target
abbrev pub meets : Text → Row → Bool
meets target row = is_at (slice_cmp nat_cmp target) (target_in row)

abbrev pub IsRow : Row → Type 0
IsRow row = IsTrue (is_int (rowid row)) × IsTrue (is_bytes (target_column row))

-- no two rows have one target
abbrev pub AreApart : List Row → Type 0
AreApart rows = (a b : Row) → Has rows a → Has rows b → IsTrue (meets (target_in a) b) → a ≡ b

-- the tables of a ledger: each number once, targets are bytes, each target once, and the header's number is 1
pub record IsLedger (s : State) : Type 0 where
  pub at : IsAt ledger_schema s
  pub table : IsTable (s.now.trees 1)
  pub rows : AllByRecursion IsRow (s.now.trees 1)
  pub apart : AreApart (s.now.trees 1)
  pub header : AllByRecursion (λ r. rowid r ≡ Int (pos 1)) (s.now.trees 0)

abbrev pub connected : Connected MemStore → State
connected c = state over_memory c

-- what a connection tells
abbrev pub told : Connected MemStore → Ledger
told c = ledger_in (connected c).now.trees

-- a query that shows no row tells that there is nothing, and one that shows one row tells what the row says
abbrev pub Shows : {X : Type 0} → (Row → X) → Option X → List Row → Type 0
Shows show there [] = there ≡ None
Shows show there (row ∷ []) = there ≡ Some (show row)
Shows show there (row ∷ other ∷ rows) = Unit {0}
