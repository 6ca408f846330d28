-- How far a text was read for a mark outside quotes.
use Rattle.std.proofs.Common.{◌≡◌, ℕ, ◌++◌, take, drop}
use Rattle.desk_base.specs.Names.{Text}
use Rattle.desk_clauses.specs.Quotes.{before_mark, from_mark}
use Rattle.desk_clauses.specs.declared.quotes.Quoting.{Quoting}
use Rattle.desk_clauses.specs.declared.quotes.Quoting.TheVariants.{Outside}

-- a text was read up to a place, behind which the reader stands so
pub record IsRead (mark : ℕ) (text : Text) (i : ℕ) (at : Quoting) : Type 0 where
  pub before_is : before_mark mark Outside text ≡ take i text ++ before_mark mark at (drop i text)
  pub from_is : from_mark mark Outside text ≡ from_mark mark at (drop i text)
