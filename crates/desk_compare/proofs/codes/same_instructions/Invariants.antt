use Rattle.std.proofs.Common.{◌≡◌, length}
use Rattle.desk_compare.specs.Codes.{same_instructions}
use Rattle.desk_compare.proofs.codes.same_instructions.Given as goal

abbrev pub invariant-loop-other : goal.invariant-loop-other
invariant-loop-other l =
    (same_instructions l.known.left l.known.right l.left_code l.right_code l.one.instructions l.other.instructions
    ≡ same_instructions l.initial.known.left l.initial.known.right l.left_code l.right_code l.initial.one.instructions l.initial.other.instructions)
    × (l.known ≡ l.initial.known) × (l.one.fault ≡ l.initial.one.fault) × (l.other.fault ≡ l.initial.other.fault)

abbrev pub decreases-loop-other : goal.decreases-loop-other
decreases-loop-other l = length l.one.instructions
