-- Lists of rows and of values: what the last one leaves.
use Rattle.std.proofs.Common.{◌≡◌, ◌+◌, ◌<◌, ℕ, List, [], ◌∷◌, ◌++◌, length, take, get_or, refl, ap, sym, ◌∙◌}
use Rattle.std.proofs.lemmas.List.{take_more}
use Rattle.sqlite.specs.Value.{owned}
use Rattle.sqlite.specs.Values.{bound, bound_value}
use Rattle.sqlite.specs.declared.types.ValueRef.{ValueRef}
use Rattle.desk_ledger.specs.declared.keeper.Row.{Row}
use Rattle.desk_ledger_tables.specs.Rows.{row_values}
use Rattle.desk_sqlite.specs.Statements.{values_in}

-- the values of a row behind others are behind theirs
values_in-added : (rows : List Row) (row : Row) → values_in (rows ++ row ∷ []) ≡ values_in rows ++ row_values row
values_in-added [] row = refl
values_in-added (r ∷ rows) row = ap (λ vs. row_values r ++ vs) (values_in-added rows row)

-- the values of one row more
pub values_more : (rows : List Row) (i : ℕ) (row : Row) → i < length rows → row ≡ get_or rows i row → values_in (take (i + 1) rows) ≡ values_in (take i rows) ++ row_values row
values_more rows i row below is = ap values_in (take_more rows i row below) ∙ ap (λ r. values_in (take i rows ++ r ∷ [])) (sym is) ∙ values_in-added (take i rows) row

-- values behind others are bound behind them
pub bound_more : (vs more : List ValueRef) → bound (vs ++ more) ≡ bound vs ++ bound more
bound_more [] more = refl
bound_more (v ∷ vs) more = ap (λ x. bound_value (owned v) ∷ x) (bound_more vs more)
