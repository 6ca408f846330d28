use Rattle.std.proofs.Common.{◌≡◌, ◌++◌, take}
use Rattle.desk_base.specs.Names.{written}
use Rattle.desk_rename.proofs.fronts.append_segments.Given as goal

abbrev pub invariant-loop-i : goal.invariant-loop-i
invariant-loop-i l = l.out ≡ l.initial.out ++ written l.separator (take l.i l.segments)
