use Rattle.std.specs.Prelude.{◌≡◌, ◌≤◌, ◌-◌, drop, length}
use Rattle.desk_names.specs.SignatureScan.{sig_run, sig_start, wanted_signature}
use Rattle.desk_names.proofs.signatures.is_signature.Given as goal

abbrev pub invariant-loop-at : goal.invariant-loop-at
invariant-loop-at l = (l.at ≤ length l.text) × (sig_run l.state (drop l.at l.text) ≡ sig_run (sig_start (wanted_signature l.fn.which)) l.text)

abbrev pub decreases-loop-at : goal.decreases-loop-at
decreases-loop-at l = length l.text - l.at
