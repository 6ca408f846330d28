-- What a ledger contains: a header, and rows by their targets.
use Rattle.std.specs.Prelude.{◌≡◌, List, [], ◌∷◌, Option, Some, None, IfSome}
use Rattle.std.specs.Ordering.{nat_cmp}
use Rattle.std.specs.Cmp.Lexicographic.{slice_cmp}
use Rattle.std.specs.FinMap as fin
use Rattle.std.specs.FinMap.{FinMap}
use Rattle.desk_base.specs.Names.{Text}
use Rattle.desk_ledger.specs.declared.keeper.Header.{Header}
use Rattle.desk_ledger.specs.declared.keeper.Row.{Row}
use Rattle.desk_ledger.specs.declared.keeper.OldRow.{OldRow}
use Rattle.desk_ledger.specs.declared.keeper.Held.{Held}

-- what was written to each target, from what, and as what where that is known
abbrev pub Rows : Type 0
Rows = FinMap (slice_cmp nat_cmp) Held

pub record Ledger : Type 0 where
  pub header : Option Header
  pub rows : Rows

-- the row of a target
abbrev pub row_at : Text → Held → Row
row_at target held = record { target = target; source = held.source; digest = held.digest; output = held.output }

-- what a row says of its target
abbrev pub held_in : Row → Held
held_in row = record { source = row.source; digest = row.digest; output = row.output }

abbrev pub with_header : Header → Ledger → Ledger
with_header header l = record l { header = Some header }

abbrev pub with_row : Row → Ledger → Ledger
with_row row l = record l { rows = fin.insert l.rows row.target (held_in row) }

abbrev pub without_row : Text → Ledger → Ledger
without_row target l = record l { rows = fin.remove l.rows target }

-- a row of format 1, taken over: it has no output
abbrev pub taken_over : OldRow → Row
taken_over row = record { target = row.target; source = row.source; digest = row.digest; output = None }

-- with rows of format 1 taken over, of which the later counts where two have one target
abbrev pub with_old_rows : List OldRow → Ledger → Ledger
with_old_rows [] l = l
with_old_rows (row ∷ rows) l = with_old_rows rows (with_row (taken_over row) l)

-- of the rows that wait to be written outside, where any can wait, there is none
abbrev pub NoneWaits : Option (List Row) → Type 0
NoneWaits waiting = IfSome waiting (λ rows. rows ≡ [])
