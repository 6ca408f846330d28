use Rattle.std.proofs.Common.{take, map}
use Rattle.desk_properties.specs.Properties.{Entry}
use Rattle.desk_rules.specs.Firsts.{AreFirsts}
use Rattle.desk_rules.proofs.firsts.first_segments.Given as goal

abbrev pub invariant-loop-rename : goal.invariant-loop-rename
invariant-loop-rename l = AreFirsts (take l.rename-index l.renames) (map (λ (e : Entry). e.0) l.firsts.entries)
