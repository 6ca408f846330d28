-- What contracts see of a selection.
use Rattle.std.specs.Prelude.{List, map}
use Rattle.desk_patterns.specs.Selections.{Choice}
use Rattle.desk_patterns.specs.declared.selections.Choice.{Choice as KeptChoice}

abbrev pub choices_seen : List KeptChoice → List Choice
choices_seen = map (λ choice. (choice.pattern, choice.excludes))
