use Rattle.std.proofs.Common.{◌≡◌, map, take}
use Rattle.std.specs.List.{flat_map}
use Rattle.desk_base.specs.Shown.{shown_byte}
use Rattle.desk_options.proofs.telling.shown_words.Given as goal

abbrev pub invariant-loop-word : goal.invariant-loop-word
invariant-loop-word l = l.shown.items ≡ map (flat_map shown_byte) (take l.word-index l.words)
