-- Code arrays as the code keeps them, as the definitions see them.
use Rattle.std.specs.Prelude.{List, map}
use Rattle.desk_code.specs.declared.array.Code.{Code}
use Rattle.desk_code.specs.Gathering.{MemberCode}

abbrev pub seen_code : Code → MemberCode
seen_code c = record { member = c.member; at = c.at; code = c.code.now }

abbrev pub seen : List Code → List MemberCode
seen cs = map seen_code cs
