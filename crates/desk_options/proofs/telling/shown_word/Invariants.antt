use Rattle.std.proofs.Common.{◌≡◌, take}
use Rattle.std.specs.List.{flat_map}
use Rattle.desk_base.specs.Shown.{shown_byte}
use Rattle.desk_options.proofs.telling.shown_word.Given as goal

abbrev pub invariant-loop-byte : goal.invariant-loop-byte
invariant-loop-byte l = l.shown ≡ flat_map shown_byte (take l.byte-index l.word)
