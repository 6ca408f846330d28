-- Rows of format 1, taken over one by one.
use Rattle.std.proofs.Common.{◌≡◌, List, [], ◌∷◌, ◌++◌, refl}
use Rattle.desk_ledger.specs.declared.keeper.OldRow.{OldRow}
use Rattle.desk_ledger.specs.Ledger.{Ledger, taken_over, with_old_rows, with_row}

-- the last row is taken over behind the others
pub one_more_row : (rows : List OldRow) (row : OldRow) (l : Ledger) → with_old_rows (rows ++ row ∷ []) l ≡ with_row (taken_over row) (with_old_rows rows l)
one_more_row [] row l = refl
one_more_row (first ∷ rows) row l = one_more_row rows row (with_row (taken_over first) l)
