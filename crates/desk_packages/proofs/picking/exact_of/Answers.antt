use Rattle.std.proofs.Common.{◌≡◌, ℕ, true, false, Option, Some, None, MatchOption, List}
use Rattle.desk_base.specs.Names.{Text, segments}
use Rattle.desk_packages.specs.Renames.{Renaming, exact}
use Rattle.desk_packages.specs.Keys.{is_separator, IsTable, IsSource, NoSource}
use Rattle.desk_packages.proofs.Lookup.{exact_found, exact_missing}
use Rattle.desk_packages.specs.Keys.{byte_of}
use Rattle.desk_packages.proofs.Sources.{separates}
use Rattle.desk_packages.proofs.picking.exact_of.Goals as goal

by_source : {R : Type 0} (value : R → Renaming) (o : Option R) (rs : List Renaming) (table : IsTable rs) (s : ℕ) → is_separator s ≡ true → (path : Text)
    → MatchOption o (NoSource rs s path false) (λ r. IsSource rs s path false (value r))
    → MatchOption o (exact rs (segments s path) ≡ None) (λ r. exact rs (segments s path) ≡ Some (value r))
by_source value None rs table s h path found = exact_missing rs table s h path found
by_source value (Some r) rs table s h path found = exact_found rs table s h path (value r) found

pub returns : goal.returns
returns c = by_source (λ r. r.now) c.find.result c.args.renames.now c.requires (byte_of c.args.separator) (separates c.args.separator) c.args.path.now c.find.ensures
