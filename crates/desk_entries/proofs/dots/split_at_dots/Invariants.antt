use Rattle.desk_entries.proofs.DotCuts.{IsCutTo}
use Rattle.desk_entries.proofs.dots.split_at_dots.Given as goal

abbrev pub invariant-loop-i : goal.invariant-loop-i
invariant-loop-i l = IsCutTo l.text l.parts l.from l.i
