use Rattle.std.proofs.Common.{true, false}
use Rattle.std.proofs.lemmas.Iterator.Adapters.{YieldsList-from_vec}
use Rattle.std.proofs.lemmas.Iterator.Consumers.{YieldsList-turn}
use Rattle.desk_invert.proofs.Parts.{asked, next_first, next_second, next_later}
use Rattle.desk_invert.proofs.exchanged.parted.Goals as goal

pub loop-rename-preserved-in-Continue-1 : goal.loop-rename-preserved-in-Continue-1
loop-rename-preserved-in-Continue-1 c =
    let turn = YieldsList-turn (YieldsList-from_vec c.args.renames.items (cc) (cc)) c.loop-rename.yielded c.loop-rename.rename-iterator c.loop-rename.yielded_by c.next.result c.next.new.self c.in-Some.rename c.in-Some.is c.next.ensures.steps in
    next_first c.args.renames.items c.loop-rename.yielded c.loop-rename.once.items c.loop-rename.repeated.items c.in-Some.rename c.requires turn c.loop-rename.invariant c.push.new.self.items c.in_ok-push.ensures.items
    (asked _ c.deref.result.now _ c.key.result.now _ false c.deref.ensures.value c.key.ensures c.ends_with_key.ensures c.if-not-ends_with_key.true)

pub loop-rename-preserved-in-Continue-branch-2 : goal.loop-rename-preserved-in-Continue-branch-2
loop-rename-preserved-in-Continue-branch-2 c =
    let turn = YieldsList-turn (YieldsList-from_vec c.args.renames.items (cc) (cc)) c.loop-rename.yielded c.loop-rename.rename-iterator c.loop-rename.yielded_by c.next.result c.next.new.self c.in-Some.rename c.in-Some.is c.next.ensures.steps in
    next_second c.args.renames.items c.loop-rename.yielded c.loop-rename.once.items c.loop-rename.repeated.items c.in-Some.rename c.requires turn c.loop-rename.invariant c.push-then-not-ends_with_key-2.new.self.items c.in_ok-push-2.ensures.items
    (asked _ c.deref.result.now _ c.key.result.now _ true c.deref.ensures.value c.key.ensures c.ends_with_key.ensures c.if-not-ends_with_key.false)
    (asked _ c.deref-else-not-ends_with_key.result.now _ c.key-else-not-ends_with_key.result.now _ false c.deref-else-not-ends_with_key.ensures.value c.key-else-not-ends_with_key.ensures c.ends_with_key-else-not-ends_with_key.ensures c.if-not-ends_with_key-2.true)

pub loop-rename-preserved : goal.loop-rename-preserved
loop-rename-preserved c =
    let turn = YieldsList-turn (YieldsList-from_vec c.args.renames.items (cc) (cc)) c.loop-rename.yielded c.loop-rename.rename-iterator c.loop-rename.yielded_by c.next.result c.next.new.self c.in-Some.rename c.in-Some.is c.next.ensures.steps in
    next_later c.args.renames.items c.loop-rename.yielded c.loop-rename.once.items c.loop-rename.repeated.items c.in-Some.rename c.requires turn c.loop-rename.invariant
    (asked _ c.deref.result.now _ c.key.result.now _ true c.deref.ensures.value c.key.ensures c.ends_with_key.ensures c.if-not-ends_with_key.false)
    (asked _ c.deref-else-not-ends_with_key.result.now _ c.key-else-not-ends_with_key.result.now _ true c.deref-else-not-ends_with_key.ensures.value c.key-else-not-ends_with_key.ensures c.ends_with_key-else-not-ends_with_key.ensures c.if-not-ends_with_key-2.false)
