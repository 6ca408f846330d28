use Rattle.std.proofs.Common.{◌≡◌, length, sym, ◌∙◌}
use Rattle.std.proofs.lemmas.Bool.{eqb-true}
use Rattle.desk_compare.proofs.SameSteps.{done}
use Rattle.desk_compare.proofs.codes.same_steps.Goals as goal

pub returns-clause-same : goal.returns-clause-same
returns-clause-same c = λ h.
    let one : length c.loop-one.one.now ≡ 0 = eqb-true _ _ (sym c.loop-one-test.ensures) in
    let other : length c.loop-one.other.now ≡ 0 = eqb-true _ _ (sym c.is_empty-2.ensures ∙ h) in
    done c.args.known.now.left c.args.known.now.right c.args.left_code.now c.args.right_code.now c.loop-one.one.now c.loop-one.other.now c.loop-one.invariant.1 one other
