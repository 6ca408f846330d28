use Rattle.std.specs.Prelude.{◌≡◌, ◌+◌, drop}
use Rattle.desk_names.specs.SignaturePieces.{name_end}
use Rattle.desk_names.proofs.signature_parts.name_end.Given as goal

abbrev pub invariant-loop-i : goal.invariant-loop-i
invariant-loop-i l = name_end l.text ≡ l.i + name_end (drop l.i l.text)
