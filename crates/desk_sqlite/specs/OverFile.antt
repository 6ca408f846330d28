-- What contracts see of a keeper over a file.
use Rattle.std.specs.Prelude.{ℕ, ◌∷◌, ◌++◌, ◌||◌, Bool, false, List, [], length, nat_lt, is_some, Option, None, option_map, if◌then◌else◌, refl}
use Rattle.std.specs.FinMap as fin
use Rattle.std.specs.Coded.{Coded, code_by, coded×, coded_list, coded_option, coded_bool, coded_ℕ}
use Rattle.desk_base.specs.Names.{Text}
use Rattle.desk_ledger.specs.declared.keeper.Row.{Row}
use Rattle.desk_ledger.specs.declared.keeper.Held.{Held}
use Rattle.desk_ledger.specs.Ledger.{Ledger, held_in, row_at, with_row}
use Rattle.desk_ledger.specs.InMemory.{text_code, held_code, ledger_code}

-- the rows that wait to be written, and whether the target of one had a row already when it was put
pub record WaitingRows : Type 0 where
  pub rows : List Row
  pub replaces : Bool

-- an open ledger: its name, what it answers from, and what waits to be written
pub record OpenLedger : Type 0 where
  pub name : Text
  pub ledger : Ledger
  pub waiting : WaitingRows

-- the open ledger, if there is one, and the count of faults
pub record OverFile : Type 0 where
  pub opened : Option OpenLedger
  pub faults : ℕ

abbrev pub row_code : Coded Row
row_code = code_by (Text × Held) (coded× text_code held_code) (λ r. (r.target, held_in r)) (λ p. row_at p.0 p.1) (λ _. refl)

abbrev pub waiting_code : Coded WaitingRows
waiting_code = code_by (List Row × Bool) (coded× (coded_list row_code) coded_bool) (λ w. (w.rows, w.replaces)) (λ p. record { rows = p.0; replaces = p.1 }) (λ _. refl)

abbrev pub open_code : Coded OpenLedger
open_code =
    code_by (Text × (Ledger × WaitingRows)) (coded× text_code (coded× ledger_code waiting_code)) (λ o. (o.name, (o.ledger, o.waiting))) (λ p. record { name = p.0; ledger = p.1.0; waiting = p.1.1 }) (λ _. refl)

abbrev pub over_file_code : Coded OverFile
over_file_code = code_by (Option OpenLedger × ℕ) (coded× (coded_option open_code) coded_ℕ) (λ k. (k.opened, k.faults)) (λ p. record { opened = p.0; faults = p.1 }) (λ _. refl)

-- what it tells of its contents as a keeper: nothing, since no clause says what a file holds
abbrev pub told_by : OverFile → Option Ledger
told_by k = None

-- the name that is attached
abbrev pub attached_in : OverFile → Option Text
attached_in k = option_map (λ o. o.name) k.opened

-- what a keeper answers from
abbrev pub held_in_memory : OverFile → Option Ledger
held_in_memory k = option_map (λ o. o.ledger) k.opened

-- the rows that wait to be written
abbrev pub waiting_in : OverFile → Option (List Row)
waiting_in k = option_map (λ o. o.waiting.rows) k.opened

-- nothing that waits
abbrev pub nothing : WaitingRows
nothing = record { rows = []; replaces = false }

-- with nothing that waits
abbrev pub all_written : OpenLedger → OpenLedger
all_written o = record o { waiting = nothing }

-- with room for a row to wait: 1,024 that wait are written
abbrev pub with_room : OpenLedger → OpenLedger
with_room o = if nat_lt (length o.waiting.rows) 1024 then o else all_written o

-- with a row put, which waits behind the others
abbrev pub with_put : Row → OpenLedger → OpenLedger
with_put row o =
    record o { ledger = with_row row o.ledger; waiting = record { rows = o.waiting.rows ++ row ∷ []; replaces = o.waiting.replaces || is_some (fin.get o.ledger.rows row.target) } }
