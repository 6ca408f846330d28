-- What contracts see of a keeper over SQL.
use Rattle.std.specs.Prelude.{ℕ, Option, option_map, unwrap_or, refl}
use Rattle.std.specs.Coded.{Coded, code_by, coded×, coded_option, coded_ℕ}
use Rattle.desk_base.specs.Names.{Text}
use Rattle.desk_ledger.specs.Ledger.{Ledger}
use Rattle.desk_ledger.specs.InMemory.{text_code, ledger_code}
use Rattle.desk_ledger_sql.specs.Told.{no_ledger}

-- an open ledger: its name, and what its tables tell
pub record OpenLedger : Type 0 where
  pub name : Text
  pub ledger : Ledger

-- the open ledger, if there is one, and the count of faults
pub record OverSql : Type 0 where
  pub opened : Option OpenLedger
  pub faults : ℕ

abbrev pub open_code : Coded OpenLedger
open_code = code_by (Text × Ledger) (coded× text_code ledger_code) (λ o. (o.name, o.ledger)) (λ p. record { name = p.0; ledger = p.1 }) (λ _. refl)

abbrev pub over_sql_code : Coded OverSql
over_sql_code = code_by (Option OpenLedger × ℕ) (coded× (coded_option open_code) coded_ℕ) (λ k. (k.opened, k.faults)) (λ p. record { opened = p.0; faults = p.1 }) (λ _. refl)

-- the name that was attached last
abbrev pub attached_in : OverSql → Option Text
attached_in k = option_map (λ o. o.name) k.opened

-- what it tells of its contents: before a ledger is open, there is nothing
abbrev pub told_by : OverSql → Ledger
told_by k = unwrap_or (option_map (λ o. o.ledger) k.opened) no_ledger
