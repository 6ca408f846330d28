use Rattle.std.proofs.Common.{◌≡◌, drop}
use Rattle.desk_patterns.specs.PatternTexts.{texts_of}
use Rattle.desk_patterns.specs.SeenTexts.{texts_seen}
use Rattle.desk_patterns.proofs.pattern_texts.rules_of.Given as goal

abbrev pub invariant-loop-entry : goal.invariant-loop-entry
invariant-loop-entry l = texts_of (drop l.entry-index (texts_seen l.files l.patterns)) l.path ≡ texts_of (texts_seen l.files l.patterns) l.path
