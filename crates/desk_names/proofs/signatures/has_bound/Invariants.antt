use Rattle.std.specs.Prelude.{◌≡◌, drop}
use Rattle.desk_names.specs.SignatureScan.{has_bound}
use Rattle.desk_names.proofs.signatures.has_bound.Given as goal

abbrev pub invariant-loop-byte : goal.invariant-loop-byte
invariant-loop-byte l = has_bound (drop l.byte-index l.text) ≡ has_bound l.text
