use Rattle.std.proofs.Common.{subst}
use Rattle.memchr.specs.Find.{IsFirstByte, is_byte}
use Rattle.desk_base.specs.Names.{Text}
use Rattle.desk_rename.proofs.Staying.{none_begun, none_ended, named_first}
use Rattle.desk_rename.proofs.descriptors.first_name.Goals as goal

pub returns-in_default-clause-name : goal.returns-in_default-clause-name
returns-in_default-clause-name c = none_begun c.args.text.now (subst (IsFirstByte (is_byte 76) c.args.text.now) c.in_default.is c.memchr.ensures)

pub returns-in-Some-memchr-clause-name : goal.returns-in-Some-memchr-clause-name
returns-in-Some-memchr-clause-name c =
    let left : Text = c.split_at.result.1.now in
    let begun = subst (IsFirstByte (is_byte 76) c.args.text.now) c.in-Some.is c.memchr.ensures in
    let ended = subst (IsFirstByte (is_byte 59) left) c.in-Some-memchr.is c.memchr-2.ensures in
    named_first c.args.text.now left c.in-Some.start c.in-Some-memchr.end begun.0.high begun.0.before begun.1 c.split_at.ensures.back ended.0.high ended.0.before ended.1 _ _
    c.split_at-in-Some-memchr.ensures.front c.split_at-in-Some-memchr.ensures.back

pub returns-in-None-clause-name : goal.returns-in-None-clause-name
returns-in-None-clause-name c =
    let left : Text = c.split_at.result.1.now in
    let begun = subst (IsFirstByte (is_byte 76) c.args.text.now) c.in-Some.is c.memchr.ensures in
    none_ended c.args.text.now left c.in-Some.start begun.0.high begun.0.before begun.1 c.split_at.ensures.back (subst (IsFirstByte (is_byte 59) left) c.in-None.is c.memchr-2.ensures)
