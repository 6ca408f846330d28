use Rattle.std.proofs.Common.{◌≡◌, take, true}
use Rattle.desk_base.specs.Names.{is_whole}
use Rattle.desk_rules.proofs.firsts.first_of.Given as goal

abbrev pub invariant-loop-at : goal.invariant-loop-at
invariant-loop-at l = is_whole l.separator (take l.at l.path) ≡ true
