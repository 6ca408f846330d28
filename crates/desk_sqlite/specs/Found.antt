-- The ledger that the tables of a file hold.
use Rattle.std.specs.Prelude.{List, [], ◌∷◌, Option, Some, None, option_map}
use Rattle.std.specs.FinMap as fin
use Rattle.sqlite.specs.Order.{Row as Shown}
use Rattle.desk_ledger.specs.declared.keeper.Header.{Header}
use Rattle.desk_ledger.specs.Ledger.{Ledger, with_row}
use Rattle.desk_ledger_tables.specs.Rows.{shown_header, shown_row}

-- the header that a query shows, if it shows one
abbrev pub header_in : List Shown → Option Header
header_in [] = None
header_in (one ∷ more) = Some (shown_header one)

-- with each row that a query shows
abbrev pub with_shown_rows : List Shown → Ledger → Ledger
with_shown_rows [] l = l
with_shown_rows (row ∷ rows) l = with_shown_rows rows (with_row (shown_row row) l)

-- the ledger of a header and of rows that queries show
abbrev pub ledger_in : List Shown → List Shown → Ledger
ledger_in headers rows = with_shown_rows rows (record { header = header_in headers; rows = fin.empty })
