use Rattle.std.proofs.Common.{◌≡◌, length}
use Rattle.desk_compare.proofs.codes.reads.Given as goal

abbrev pub invariant-loop : goal.invariant-loop
invariant-loop l = l.reader.fault ≡ l.initial.reader.fault

abbrev pub decreases-loop : goal.decreases-loop
decreases-loop l = length l.reader.instructions
