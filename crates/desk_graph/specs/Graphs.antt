-- The graph of the classes of an application.
use Rattle.std.specs.Prelude.{ℕ, ◌+◌, ◌<◌, ◌^◌, Bool, List, [], ◌∷◌, Option, length, refl, if◌then◌else◌}
use Rattle.std.specs.List.{list_any}
use Rattle.std.specs.Str.{bytes_eq}
use Rattle.std.specs.Coded.{Coded, code_by, coded×, coded_list, coded_ℕ}
use Rattle.desk_base.specs.Names.{Text}
use Rattle.desk_packages.specs.Renames.{Renaming}
use Rattle.desk_rules.specs.Rules.{Rules, rules_code, text_code}
use Rattle.desk_class.specs.Held.{ascending, held_in}
use Rattle.desk_rename.specs.Images.{cls}
use Rattle.desk_graph.specs.Application.{Pair, defined_names, names, link_counts}
use Rattle.desk_packages.specs.Keys.{RiseBy}
use Rattle.desk_graph.specs.Tables.{IsKnownBy, as_is}
use Rattle.desk_graph.specs.Nodes.{defined_of, firsts, IsTable}
use Rattle.desk_graph.specs.declared.scanned.Scanned.{Scanned}

-- The rules; the defined names and all names of an application, both in byte order, each once; and of each class, in their
-- order, how many defined names it holds.
pub record Graph : Type 0 where
  pub rules : Rules
  pub defined : List Text
  pub names : List Text
  pub link_counts : List ℕ

abbrev pub graph_code : Coded Graph
graph_code =
    code_by (Rules × (List Text × (List Text × List ℕ))) (coded× rules_code (coded× (coded_list text_code) (coded× (coded_list text_code) (coded_list coded_ℕ))))
    (λ g. (g.rules, (g.defined, (g.names, g.link_counts)))) (λ p. record { rules = p.0; defined = p.1.0; names = p.1.1.0; link_counts = p.1.1.1 }) (λ _. refl)

-- the graph of these classes under rules
abbrev pub graph_of : Rules → List Scanned → Graph
graph_of rules ss = record { rules = rules; defined = ascending (defined_names ss); names = ascending (names ss); link_counts = link_counts ss }

-- what a graph keeps: the names in byte order, each with its image, and the numbers of those that are defined
pub record IsGraph (renames : List Renaming) (known : List Pair) (nodes : List (Option ℕ)) : Type 0 where
  pub images : IsKnownBy (cls renames) known
  pub table : IsTable known nodes
  pub defined_rise : RiseBy as_is (defined_of (firsts known) nodes)
  pub few : length (defined_of (firsts known) nodes) < 2 ^ 32

-- whether bytes that are a class hold a name
abbrev pub is_held_in : Text → Text → Bool
is_held_in bytes name = list_any (bytes_eq name) (held_in bytes)

-- of names from a place on, the places of those that pass
abbrev pub places_held : (Text → Bool) → ℕ → List Text → List ℕ
places_held held k [] = []
places_held held k (d ∷ ds) = if held d then k ∷ places_held held (k + 1) ds else places_held held (k + 1) ds

-- the nodes of the defined names that a class holds
abbrev pub links_of : List Text → Text → List ℕ
links_of defined bytes = places_held (is_held_in bytes) 0 defined
