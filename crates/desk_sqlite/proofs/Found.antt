-- Rows that a query shows, taken one by one.
use Rattle.std.proofs.Common.{◌≡◌, ◌+◌, ◌<◌, ℕ, List, [], ◌∷◌, ◌++◌, length, take, get_or, refl, ap, sym, ◌∙◌}
use Rattle.std.proofs.lemmas.List.{take_more}
use Rattle.sqlite.specs.Order.{Row as Shown}
use Rattle.desk_ledger.specs.Ledger.{Ledger, with_row}
use Rattle.desk_ledger_tables.specs.Rows.{shown_row}
use Rattle.desk_sqlite.specs.Found.{with_shown_rows}

-- the last row is taken behind the others
one_behind : (rows : List Shown) (row : Shown) (l : Ledger) → with_shown_rows (rows ++ row ∷ []) l ≡ with_row (shown_row row) (with_shown_rows rows l)
one_behind [] row l = refl
one_behind (first ∷ rows) row l = one_behind rows row (with_row (shown_row first) l)

-- one row more is taken behind those before it
pub one_more_row : (rows : List Shown) (i : ℕ) (row : Shown) (l : Ledger) → i < length rows → row ≡ get_or rows i row
    → with_shown_rows (take (i + 1) rows) l ≡ with_row (shown_row row) (with_shown_rows (take i rows) l)
one_more_row rows i row l below is =
    ap (λ taken. with_shown_rows taken l) (take_more rows i row below)
    ∙ ap (λ r. with_shown_rows (take i rows ++ r ∷ []) l) (sym is)
    ∙ one_behind (take i rows) row l
