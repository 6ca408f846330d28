use Rattle.std.proofs.Common.{arith}
use Rattle.desk_disk.proofs.Listings.{IsLonger-refl, IsLonger-more, IsLooked-count}
use Rattle.desk_disk.proofs.walk.FolderWalk.enter.Goals as goal

pub loop-entry-init : goal.loop-entry-init
loop-entry-init c = record { longer = IsLonger-refl c.args.self.now; most = λ h. h }

pub loop-entry-preserved : goal.loop-entry-preserved
loop-entry-preserved c = record {
  longer = IsLonger-more c.args.self.now c.loop-entry.self c.look.new.self _ c.loop-entry.invariant.longer c.in_ok-look.ensures.looked;
  most = λ h. let counted = IsLooked-count c.loop-entry.self c.look.new.self _ c.in_ok-look.ensures.looked in let room = c.in_ok-look.ensures.room in omega (arith, counted, room);
}
