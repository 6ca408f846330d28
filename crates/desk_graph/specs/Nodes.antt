-- The nodes of a graph: the defined names, numbered in byte order.
use Rattle.std.specs.Prelude.{◌≡◌, ℕ, ◌+◌, Bool, List, [], ◌∷◌, map, Option, Some, None, if◌then◌else◌}
use Rattle.desk_base.specs.Names.{Text}
use Rattle.desk_packages.specs.Keys.{RiseBy}
use Rattle.desk_graph.specs.Application.{Pair}

-- the names of a table
abbrev pub firsts : List Pair → List Text
firsts known = map (λ (k : Pair). k.0) known

-- of names, the number of each that passes a test, where so many passed before
abbrev pub nodes_from : (Text → Bool) → ℕ → List Text → List (Option ℕ)
nodes_from passes count [] = []
nodes_from passes count (n ∷ ns) = if passes n then Some count ∷ nodes_from passes (count + 1) ns else None ∷ nodes_from passes count ns

-- the names that have a number
abbrev pub defined_of : List Text → List (Option ℕ) → List Text
defined_of [] nodes = []
defined_of (n ∷ ns) [] = []
defined_of (n ∷ ns) (None ∷ nodes) = defined_of ns nodes
defined_of (n ∷ ns) (Some k ∷ nodes) = n ∷ defined_of ns nodes

-- each name has a number or none, and the numbers count up from one
abbrev pub AreNodes : ℕ → List Text → List (Option ℕ) → Type 0
AreNodes count [] [] = Unit {0}
AreNodes count [] (o ∷ nodes) = ⊥
AreNodes count (n ∷ ns) [] = ⊥
AreNodes count (n ∷ ns) (None ∷ nodes) = AreNodes count ns nodes
AreNodes count (n ∷ ns) (Some k ∷ nodes) = (k ≡ count) × AreNodes (count + 1) ns nodes

-- a table in byte order of its names, with its nodes
pub record IsTable (known : List Pair) (nodes : List (Option ℕ)) : Type 0 where
  pub rise : RiseBy (λ (k : Pair). k.0) known
  pub numbered : AreNodes 0 (firsts known) nodes
