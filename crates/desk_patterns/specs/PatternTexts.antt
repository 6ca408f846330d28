-- The text rules of a path, and of a path and its target.
use Rattle.std.specs.Prelude.{List, [], ◌∷◌, Option, Some, None, if◌then◌else◌}
use Rattle.desk_base.specs.Names.{Text}
use Rattle.desk_patterns.specs.Patterns.{fits}
use Rattle.desk_patterns.specs.TextRules.{TextRule}

-- a pattern, and the text rules of the paths that it fits
abbrev pub PatternText : Type 0
PatternText = Text × List TextRule

-- the rules of the first pattern that fits
abbrev pub texts_of : List PatternText → Text → Option (List TextRule)
texts_of [] path = None
texts_of (entry ∷ entries) path = if fits entry.0 path then Some entry.1 else texts_of entries path

-- the text rules of a file: those of its path and those of its target
pub record FileTexts : Type 0 where
  pub here : List TextRule
  pub there : List TextRule

-- where one of the two has no rule file, it has no rules
abbrev pub both_rules : Option (List TextRule) → Option (List TextRule) → Option FileTexts
both_rules None None = None
both_rules None (Some there) = Some (record { here = []; there = there })
both_rules (Some here) None = Some (record { here = here; there = [] })
both_rules (Some here) (Some there) = Some (record { here = here; there = there })

-- the rules of a path and of its target, where a pattern fits one of them
abbrev pub texts_for : List PatternText → Text → Text → Option FileTexts
texts_for entries path target = both_rules (texts_of entries path) (texts_of entries target)
