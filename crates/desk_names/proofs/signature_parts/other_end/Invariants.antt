use Rattle.std.specs.Prelude.{◌≡◌, ◌≤◌, ◌-◌, [], false, drop, take, length}
use Rattle.desk_names.specs.SignaturePieces.{is_naming, sig_cut}
use Rattle.desk_names.proofs.signature_parts.other_end.Given as goal

abbrev pub invariant-loop-at : goal.invariant-loop-at
invariant-loop-at l = (l.at ≤ length l.text) × (is_naming l.state ≡ false) × (sig_cut l.state (take l.at l.text) (drop l.at l.text) ≡ sig_cut l.fn.state [] l.text)

abbrev pub decreases-loop-at : goal.decreases-loop-at
decreases-loop-at l = length l.text - l.at
