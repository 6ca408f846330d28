use Rattle.std.proofs.Common.{arith, get_or}
use Rattle.desk_format.specs.declared.members.Member.{Member}
use Rattle.std.proofs.Common.{false}
use Rattle.desk_class.proofs.Pairs.{numbered, twin_found, seen_more}
use Rattle.desk_class.proofs.twins.find_twin.Goals as goal

abbrev none : Member
none = record { at = 0; name = 0; descriptor = 0; method = false }

pub returns-then-not-branch : goal.returns-then-not-branch
returns-then-not-branch c =
    twin_found c.args.pool.now.entries c.args.members.now c.loop-member.member-index none c.loop-member.numbers c.number-in-loop-member.new.self c.loop-member.seen c.in_ok-name.name c.in_ok-descriptor.descriptor _ (omega arith)
    (numbered c.args.pool.now.entries c.loop-member.numbers c.number.new.self c.number-in-loop-member.new.self (get_or c.args.members.now c.loop-member.member-index none) c.text_at.result.now c.text_at-in-loop-member.result.now c.in_ok-name.name c.in_ok-descriptor.descriptor
    c.loop-member.invariant.numbering c.text_at.ensures c.text_at-in-loop-member.ensures
    c.in_ok-name.ensures.number c.in_ok-name.ensures.keeps c.in_ok-name.ensures.stays c.in_ok-descriptor.ensures.number c.in_ok-descriptor.ensures.keeps c.in_ok-descriptor.ensures.stays)
    c.loop-member.invariant c.in_ok-insert.ensures.added c.if-not-branch.true

pub loop-member-preserved : goal.loop-member-preserved
loop-member-preserved c =
    seen_more c.args.pool.now.entries c.args.members.now c.loop-member.member-index none c.loop-member.numbers c.number-in-loop-member.new.self c.loop-member.seen c.in_ok-name.name c.in_ok-descriptor.descriptor _ (omega arith)
    (numbered c.args.pool.now.entries c.loop-member.numbers c.number.new.self c.number-in-loop-member.new.self (get_or c.args.members.now c.loop-member.member-index none) c.text_at.result.now c.text_at-in-loop-member.result.now c.in_ok-name.name c.in_ok-descriptor.descriptor
    c.loop-member.invariant.numbering c.text_at.ensures c.text_at-in-loop-member.ensures
    c.in_ok-name.ensures.number c.in_ok-name.ensures.keeps c.in_ok-name.ensures.stays c.in_ok-descriptor.ensures.number c.in_ok-descriptor.ensures.keeps c.in_ok-descriptor.ensures.stays)
    c.loop-member.invariant c.in_ok-insert.ensures.added c.insert.new.self c.if-not-branch.false c.in_ok-insert.ensures.updates
