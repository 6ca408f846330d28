use Rattle.std.proofs.Common.{◌≡◌, take, map}
use Rattle.desk_properties.specs.Properties.{Entry}
use Rattle.desk_rules.proofs.firsts.segments_from.Given as goal

abbrev pub invariant-loop-i : goal.invariant-loop-i
invariant-loop-i l = l.segments.items ≡ map (λ (e : Entry). e.0) (take l.i l.firsts.entries)
