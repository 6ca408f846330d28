use Rattle.std.proofs.Common.{refl, subst, sym}
use Rattle.sqlite_tied.specs.Compute.{everything}
use Rattle.sqlite.specs.Listing.{understood}
use Rattle.desk_ledger_tables.specs.Statements.{Means}
use Rattle.desk_ledger_tables.proofs.statements.Statement.text.Goals as goal

pub returns-in-MakeHeaders : goal.returns-in-MakeHeaders
unfolding understood everything
returns-in-MakeHeaders c = subst (λ statement. Means statement _) (sym c.in-MakeHeaders.is) (record { command_is = refl; plain = (refl, refl); whole = refl; unlisted = refl; made = refl })

pub returns-in-MakeRows : goal.returns-in-MakeRows
unfolding understood everything
returns-in-MakeRows c = subst (λ statement. Means statement _) (sym c.in-MakeRows.is) (record { command_is = refl; plain = (refl, refl); whole = refl; unlisted = refl; made = refl })

pub returns-in-SetHeader : goal.returns-in-SetHeader
unfolding understood everything
returns-in-SetHeader c = subst (λ statement. Means statement _) (sym c.in-SetHeader.is) (record { command_is = refl; plain = (refl, refl); whole = refl; unlisted = refl; made = tt })

pub returns-in-FindHeader : goal.returns-in-FindHeader
unfolding understood everything
returns-in-FindHeader c = subst (λ statement. Means statement _) (sym c.in-FindHeader.is) (record { command_is = refl; plain = (refl, refl); whole = refl; unlisted = refl; made = tt })

pub returns-in-PutRow : goal.returns-in-PutRow
unfolding understood everything
returns-in-PutRow c = subst (λ statement. Means statement _) (sym c.in-PutRow.is) (record { command_is = refl; plain = (refl, refl); whole = refl; unlisted = refl; made = tt })

pub returns-in-FindRow : goal.returns-in-FindRow
unfolding understood everything
returns-in-FindRow c = subst (λ statement. Means statement _) (sym c.in-FindRow.is) (record { command_is = refl; plain = (refl, refl); whole = refl; unlisted = refl; made = tt })

pub returns-in-FindRows : goal.returns-in-FindRows
unfolding understood everything
returns-in-FindRows c = subst (λ statement. Means statement _) (sym c.in-FindRows.is) (record { command_is = refl; plain = (refl, refl); whole = refl; unlisted = refl; made = tt })

pub returns-in-ForgetRow : goal.returns-in-ForgetRow
unfolding understood everything
returns-in-ForgetRow c = subst (λ statement. Means statement _) (sym c.in-ForgetRow.is) (record { command_is = refl; plain = (refl, refl); whole = refl; unlisted = refl; made = tt })
