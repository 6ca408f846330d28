use Rattle.std.proofs.Common.{◌≡◌, map, take, drop}
use Rattle.desk_format.specs.Members.{Named, first_twins, twins_behind}
use Rattle.desk_format.specs.declared.members.Member.{Member}
use Rattle.desk_new_pool.specs.Twins.{AreNumbered, member_in, Key, first_place, at_key}
use Rattle.desk_new_pool.proofs.twins.first_twins.Given as goal

abbrev pub invariant-loop-numbered : goal.invariant-loop-numbered
invariant-loop-numbered l = record {
  places : (q : Key) → at_key l.places q ≡ first_place (take l.numbered-index l.members) q;
  rest : (named : Member → Named) → AreNumbered named l.members
      → first_twins named (map member_in l.members) ≡ twins_behind named (map member_in (take l.numbered-index l.members)) (map member_in (drop l.numbered-index l.members));
}
