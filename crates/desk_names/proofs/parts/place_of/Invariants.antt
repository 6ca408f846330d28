use Rattle.std.specs.Prelude.{◌≡◌, ◌+◌, drop}
use Rattle.desk_names.specs.Pieces.{place_of}
use Rattle.desk_names.proofs.parts.place_of.Given as goal

abbrev pub invariant-loop-i : goal.invariant-loop-i
invariant-loop-i l = place_of l.fn.byte l.text ≡ l.i + place_of l.fn.byte (drop l.i l.text)
