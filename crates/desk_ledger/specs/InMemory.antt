-- What a keeper in memory holds.
use Rattle.std.specs.Prelude.{ℕ, ◌==◌, ◌||◌, nat_le, Bool, false, List, Option, Some, None, refl, if◌then◌else◌}
use Rattle.std.specs.List.{list_any}
use Rattle.std.specs.FinMap as fin
use Rattle.std.specs.Coded.{Coded, code_by, coded×, coded_list, coded_option, coded_ℕ}
use Rattle.desk_base.specs.Counts.{counted}
use Rattle.desk_base.specs.Names.{Text}
use Rattle.desk_ledger.specs.declared.digest.Digest.{Digest}
use Rattle.desk_ledger.specs.declared.keeper.Header.{Header}
use Rattle.desk_ledger.specs.declared.keeper.Held.{Held}
use Rattle.desk_ledger.specs.Ledger.{Ledger, Rows}

-- the ledger, the attached name, the count of faults, the count of calls, the numbers of the calls that fail, and the number from which on all fail
pub record InMemory : Type 0 where
  pub ledger : Ledger
  pub attached : Option Text
  pub faults : ℕ
  pub calls : ℕ
  pub failing : List ℕ
  pub stop : Option ℕ

abbrev pub text_code : Coded Text
text_code = coded_list coded_ℕ

abbrev pub digest_code : Coded Digest
digest_code = code_by Text text_code (λ d. d.0) (λ t. record { 0 = t }) (λ _. refl)

abbrev pub header_code : Coded Header
header_code =
    code_by (Text × (Text × Text)) (coded× text_code (coded× text_code text_code)) (λ h. (h.from, (h.to, h.rules.0))) (λ p. record { from = p.0; to = p.1.0; rules = record { 0 = p.1.1 } }) (λ _. refl)

abbrev pub held_code : Coded Held
held_code =
    code_by (Text × (Text × Option Digest)) (coded× text_code (coded× text_code (coded_option digest_code))) (λ h. (h.source, (h.digest.0, h.output)))
    (λ p. record { source = p.0; digest = record { 0 = p.1.0 }; output = p.1.1 }) (λ _. refl)

abbrev pub ledger_code : Coded Ledger
ledger_code =
    code_by (Option Header × Rows) (coded× (coded_option header_code) (fin.code text_code held_code)) (λ l. (l.header, l.rows)) (λ p. record { header = p.0; rows = p.1 }) (λ _. refl)

abbrev pub in_memory_code : Coded InMemory
in_memory_code =
    code_by (Ledger × (Option Text × (ℕ × (ℕ × (List ℕ × Option ℕ))))) (coded× ledger_code (coded× (coded_option text_code) (coded× coded_ℕ (coded× coded_ℕ (coded× (coded_list coded_ℕ) (coded_option coded_ℕ))))))
    (λ k. (k.ledger, (k.attached, (k.faults, (k.calls, (k.failing, k.stop)))))) (λ p. record { ledger = p.0; attached = p.1.0; faults = p.1.1.0; calls = p.1.1.1.0; failing = p.1.1.1.1.0; stop = p.1.1.1.1.1 }) (λ _. refl)

-- whether calls stop at this one or stopped before it
abbrev pub is_reached : Option ℕ → ℕ → Bool
is_reached None call = false
is_reached (Some stop) call = nat_le stop call

-- whether the next call fails
abbrev pub fails : InMemory → Bool
fails k = list_any (λ n. n == k.calls) k.failing || is_reached k.stop k.calls

-- with one call more, and one fault more where it fails
abbrev pub called : InMemory → InMemory
called k = record k { faults = if fails k then counted k.faults else k.faults; calls = counted k.calls }

abbrev pub attaching : Text → InMemory → InMemory
attaching name k = record k { attached = Some name }

abbrev pub keeping : Ledger → InMemory → InMemory
keeping ledger k = record k { ledger = ledger }
