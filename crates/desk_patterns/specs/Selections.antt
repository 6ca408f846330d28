-- Which paths a selection takes.
use Rattle.std.specs.Prelude.{Bool, true, false, not, ◌&&◌, ◌||◌, List}
use Rattle.std.specs.List.{list_any}
use Rattle.desk_base.specs.Names.{Text}
use Rattle.desk_patterns.specs.Patterns.{fits}
use Rattle.desk_patterns.specs.declared.selections.Mark.{Mark}
use Rattle.desk_patterns.specs.declared.selections.Mark.TheVariants.{Include, Exclude}

-- whether a mark excludes
abbrev pub is_exclude : Mark → Bool
is_exclude Include = false
is_exclude Exclude = true

-- a pattern, and whether it excludes
abbrev pub Choice : Type 0
Choice = Text × Bool

abbrev pub includes : Text → Choice → Bool
includes path choice = not choice.1 && fits choice.0 path

abbrev pub excludes : Text → Choice → Bool
excludes path choice = choice.1 && fits choice.0 path

-- a path is selected where there is no include or one include fits, and no exclude fits
abbrev pub selects : List Choice → Text → Bool
selects choices path = (not (list_any (λ choice. not choice.1) choices) || list_any (includes path) choices) && not (list_any (excludes path) choices)
