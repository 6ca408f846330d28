-- The rows of a ledger as values of SQL, and what is read of a row that a query shows.
use Rattle.std.specs.Prelude.{◌==◌, ◌&&◌, Bool, true, false, List, [], ◌∷◌, length, Option, Some, None}
use Rattle.sqlite.specs.declared.types.Value.{Value}
use Rattle.sqlite.specs.declared.types.Value.TheVariants.{Null, Blob}
use Rattle.sqlite.specs.Order.{Row as Shown, bytes, column}
use Rattle.desk_ledger.specs.declared.digest.Digest.{Digest}
use Rattle.desk_ledger.specs.declared.keeper.Header.{Header}
use Rattle.desk_ledger.specs.declared.keeper.Row.{Row}

-- the value of an output: its bytes, or none
abbrev pub output_value : Option Digest → Value
output_value None = Null
output_value (Some digest) = Blob digest.0

abbrev pub row_values : Row → List Value
row_values row = Blob row.target ∷ Blob row.source ∷ Blob row.digest.0 ∷ output_value row.output ∷ []

abbrev pub header_values : Header → List Value
header_values header = Blob header.from ∷ Blob header.to ∷ Blob header.rules.0 ∷ []

-- ---- and back

abbrev pub is_bytes : Value → Bool
is_bytes (Blob b) = true
is_bytes _ = false

abbrev pub is_digest : Value → Bool
is_digest (Blob b) = length b == 32
is_digest _ = false

abbrev pub is_output : Value → Bool
is_output Null = true
is_output v = is_digest v

abbrev pub digest_in : Value → Digest
digest_in v = record { 0 = bytes v }

abbrev pub output_in : Value → Option Digest
output_in (Blob b) = Some (record { 0 = b })
output_in _ = None

-- whether a row that a query shows is a header
abbrev pub is_header : Shown → Bool
is_header shown = is_bytes (column shown 0) && is_bytes (column shown 1) && is_digest (column shown 2)

abbrev pub shown_header : Shown → Header
shown_header shown = record { from = bytes (column shown 0); to = bytes (column shown 1); rules = digest_in (column shown 2) }

-- whether it is a row of a ledger
abbrev pub is_row : Shown → Bool
is_row shown = is_bytes (column shown 0) && is_bytes (column shown 1) && is_digest (column shown 2) && is_output (column shown 3)

abbrev pub shown_row : Shown → Row
shown_row shown = record { target = bytes (column shown 0); source = bytes (column shown 1); digest = digest_in (column shown 2); output = output_in (column shown 3) }
