use Rattle.desk_rules.proofs.LoadedTexts.{IsPlacedTo}
use Rattle.desk_rules.proofs.texts.patterns_at.Given as goal

abbrev pub invariant-loop-i : goal.invariant-loop-i
invariant-loop-i l = IsPlacedTo l.files l.entries.entries l.i l.loaded.places.entries l.loaded.rules.items l.patterns.items
