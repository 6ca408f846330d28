use Rattle.std.proofs.Common.{ap, ◌∙◌, refl, arith}
use Rattle.std.proofs.lemmas.Result.{err_from_is_err_and}
use Rattle.desk_base.specs.Entries.{is_wide}
use Rattle.desk_pool.proofs.Advance.{slots_size}
use Rattle.desk_pool.proofs.Steps.{all_read, second_read, entry_was_read, entry_failed, one_more}
use Rattle.desk_pool.proofs.slots.read_slots.Goals as goal

pub returns-clause-slots : goal.returns-clause-slots
returns-clause-slots c = all_read _ c.loop-later.later c.loop-later.second c.loop-later.cursor.at c.loop-later.cursor.left _ c.loop-later-test.false c.loop-later.invariant.goes_on

pub returns-clause-size : goal.returns-clause-size
returns-clause-size c =
    slots_size _ _ _ _ _ _ _ (all_read _ c.loop-later.later c.loop-later.second c.loop-later.cursor.at c.loop-later.cursor.left _ c.loop-later-test.false c.loop-later.invariant.goes_on)

pub loop-later-preserved-in-Continue-branch-2 : goal.loop-later-preserved-in-Continue-branch-2
loop-later-preserved-in-Continue-branch-2 c = record {
  goes_on = second_read c.loop-later.slots.items c.push.new.self.items _ c.loop-later.later c.loop-later.cursor.at c.loop-later.cursor.left c.loop-later.second _ c.loop-later-test.true c.if-second.true c.in_ok-push.ensures.items refl c.loop-later.invariant.goes_on;
  many = one_more c.loop-later.slots.items c.push.new.self.items _ c.loop-later.later _ c.loop-later-test.true c.in_ok-push.ensures.items c.loop-later.invariant.many;
  ahead = omega arith;
  end = omega arith;
}

pub loop-later-preserved : goal.loop-later-preserved
loop-later-preserved c = record {
  goes_on = entry_was_read c.loop-later.slots.items c.push-else-second.new.self.items _ c.loop-later.later c.loop-later.cursor.at c.loop-later.cursor.left c.loop-later.second c.is_wide-second.result _ _ _ _ c.loop-later-test.true c.if-second.false
      c.in_ok-constant.ensures.entry (c.is_wide-second.ensures ∙ ap is_wide c.tag.ensures) c.in_ok-push-2.ensures.items refl c.loop-later.invariant.goes_on;
  many = one_more c.loop-later.slots.items c.push-else-second.new.self.items _ c.loop-later.later _ c.loop-later-test.true c.in_ok-push-2.ensures.items c.loop-later.invariant.many;
  ahead = omega arith;
  end = omega arith;
}

pub returns-in_err-constant-clause-slots : goal.returns-in_err-constant-clause-slots
returns-in_err-constant-clause-slots c =
    let p = err_from_is_err_and c.from_residual-in_err-constant.result c.from_residual-in_err-constant.ensures.1 in
    rw (p.1, p.2) (entry_failed _ c.loop-later.later c.loop-later.cursor.at c.loop-later.cursor.left c.loop-later.second _ _ c.loop-later-test.true c.if-second.false c.in_err-constant.ensures.entry c.loop-later.invariant.goes_on)
