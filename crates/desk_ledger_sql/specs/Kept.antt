-- What a ledger contains after a list of calls.
use Rattle.std.specs.Prelude.{◌≡◌, List, [], ◌∷◌}
use Rattle.desk_base.specs.Names.{Text}
use Rattle.desk_ledger.specs.declared.keeper.Header.{Header}
use Rattle.desk_ledger.specs.declared.keeper.Row.{Row}
use Rattle.desk_ledger.specs.Ledger.{Ledger, with_header, with_row, without_row}
use Rattle.desk_ledger_sql.specs.Told.{no_ledger}

-- a call that answered Ok; one that failed is none, and neither is one that asks, attaches or commits
pub data Call : Type 0 where
  set_header : Header → Call
  put : Row → Call
  forget : Text → Call

-- what one call makes of the contents
abbrev pub step : Call → Ledger → Ledger
step (set_header header) l = with_header header l
step (put row) l = with_row row l
step (forget target) l = without_row target l

abbrev pub kept_on : List Call → Ledger → Ledger
kept_on [] l = l
kept_on (call ∷ calls) l = kept_on calls (step call l)

-- from no header and no rows
abbrev pub kept : List Call → Ledger
kept calls = kept_on calls no_ledger

-- what was told before the calls and after them, where each call's clause gives one step
abbrev pub TellsAfter : Ledger → List Call → Ledger → Type 0
TellsAfter before [] after = after ≡ before
TellsAfter before (call ∷ calls) after = (next : Ledger) × (next ≡ step call before) × TellsAfter next calls after
