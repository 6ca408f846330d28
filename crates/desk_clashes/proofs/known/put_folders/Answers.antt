use mathlib.Core.Bool.{not-not}
use Rattle.std.proofs.Common.{◌-◌, not, take, sym, ap, ◌∙◌, arith}
use Rattle.desk_clashes.specs.Known.{holds}
use Rattle.desk_clashes.proofs.Sets.{none_put, none_here, folder_put, rest_held}
use Rattle.desk_clashes.proofs.known.put_folders.Goals as goal

pub loop-place-init : goal.loop-place-init
loop-place-init c = none_put c.args.set.now c.args.text.now _ (omega arith)

pub returns-then-not-is_new : goal.returns-then-not-is_new
returns-then-not-is_new c = λ closed.
    rest_held c.args.set.now c.loop-place.set c.put.new.set c.args.text.now (c.loop-place.place - 1) c.loop-place.place (omega arith) (omega arith) c.if-text-place-eq47.true c.in_ok-is_new.ensures.added
    c.loop-place.invariant closed (sym (not-not (holds c.loop-place.set (take (c.loop-place.place - 1) c.args.text.now))) ∙ ap not (sym c.in_ok-is_new.ensures.is_new ∙ c.if-not-is_new.true))

pub loop-place-preserved-else-not-is_new : goal.loop-place-preserved-else-not-is_new
loop-place-preserved-else-not-is_new c =
    folder_put c.args.set.now c.loop-place.set c.put.new.set c.args.text.now (c.loop-place.place - 1) c.loop-place.place (omega arith) (omega arith) c.if-text-place-eq47.true c.in_ok-is_new.ensures.added
    c.loop-place.invariant

pub loop-place-preserved : goal.loop-place-preserved
loop-place-preserved c =
    none_here c.args.set.now c.loop-place.set c.args.text.now (c.loop-place.place - 1) c.loop-place.place (omega arith) (omega arith) c.if-text-place-eq47.false c.loop-place.invariant
