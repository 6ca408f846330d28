use Rattle.std.proofs.Common.{◌≡◌, map, take}
use Rattle.desk_format.specs.Resolved.{Images}
use Rattle.desk_new_pool.specs.Twins.{member_in}
use Rattle.desk_rewrite.specs.Tables.{HasDescriptors}
use Rattle.desk_rewrite.proofs.Numbered.{Numbered}
use Rattle.desk_rewrite.proofs.members.numbered_members.Given as goal

abbrev pub invariant-loop-member : goal.invariant-loop-member
invariant-loop-member l = record {
  members : map member_in l.numbered.items ≡ take l.member-index l.members;
  numbered : (im : Images) → HasDescriptors im l.pool.entries l.table l.members → Numbered im l.pool.entries l.names l.descriptors l.numbered.items;
}
