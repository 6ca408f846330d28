use Rattle.std.proofs.Common.{arith}
use Rattle.desk_format.specs.Layouts.{Layout}
use Rattle.desk_format.specs.Reading.{read}
use Rattle.desk_class.specs.Scan.{scan_at, member_layout}
use Rattle.desk_class.proofs.Heads.{member_scans}
use Rattle.desk_class.proofs.Scans.{times_scan_on, times_scan_done}
use Rattle.desk_class.proofs.members.walk_each_member.Goals as goal

pub loop-preserved : goal.loop-preserved
loop-preserved c =
    times_scan_on (read c.args.pool.now.entries (Layout.member (member_layout c.args.method))) c.args.count c.loop.counter
    (scan_at c.loop.uses.items c.loop.members.items c.loop.cursor) (scan_at c.walk_member.new.uses.items c.push.new.self.items c.walk_member.new.cursor) _ (omega arith)
    (rw c.in_ok-push.ensures.items
    (member_scans c.args.pool.now.entries c.args.method c.loop.uses.items c.walk_member.new.uses.items c.loop.members.items c.loop.cursor c.walk_member.new.cursor c.in_ok-member.member c.in_ok-member.ensures.member c.in_ok-member.ensures.walks))
    c.loop.invariant

pub returns : goal.returns
returns c =
    times_scan_done (read c.args.pool.now.entries (Layout.member (member_layout c.args.method))) c.args.count c.loop.counter (scan_at c.loop.uses.items c.loop.members.items c.loop.cursor) _ (omega arith) c.loop.invariant
