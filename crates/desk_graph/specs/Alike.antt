-- Applications that are told alike.
use Rattle.std.specs.Prelude.{◌≡◌, List, map}
use Rattle.desk_base.specs.Names.{Text}
use Rattle.desk_graph.specs.Application.{defined_names, names, stranded_among}
use Rattle.desk_graph.specs.declared.scanned.Scanned.{Scanned}

-- both have the same names, define the same names, leave the same classes behind, and hold the same names class by class
pub record AreAlike (xs ys : List Scanned) : Type 0 where
  pub names : names xs ≡ names ys
  pub defined : defined_names xs ≡ defined_names ys
  pub stranded : (f : Text → Text) (defined : List Text) → stranded_among f defined xs ≡ stranded_among f defined ys
  pub held : map (λ (s : Scanned). s.held) xs ≡ map (λ (s : Scanned). s.held) ys
