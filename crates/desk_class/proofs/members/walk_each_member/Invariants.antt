use Rattle.std.proofs.Common.{◌≡◌, ◌-◌}
use Rattle.desk_format.specs.Layouts.{Layout}
use Rattle.desk_format.specs.Reading.{read, times}
use Rattle.desk_class.specs.Scan.{scan, scan_at, member_layout}
use Rattle.desk_class.proofs.members.walk_each_member.Given as goal

abbrev pub invariant-loop : goal.invariant-loop
invariant-loop l =
    scan (times (l.count - l.counter) (read l.pool.entries (Layout.member (member_layout l.method)))) (scan_at l.uses.items l.members.items l.cursor)
    ≡ scan (times l.fn.count (read l.fn.pool.entries (Layout.member (member_layout l.fn.method)))) (scan_at l.fn.uses.items l.fn.members.items l.fn.cursor)
