use Rattle.std.proofs.Common.{sym, ◌∙◌}
use Rattle.desk_textrules.proofs.Pieces.{source_found, settled_more, unsettled_here, all_settled}
use Rattle.desk_textrules.proofs.texts.first_change.Goals as goal

pub returns-then-changes-clause-first : goal.returns-then-changes-clause-first
returns-then-changes-clause-first c =
    unsettled_here c.args.rules.now c.args.text.now c.loop-place.done c.in-Some.place.at c.in-Some.place.hit.taken c.in-Some.place.hit.target.now c.loop-place.invariant
    (source_found c.args.rules.now c.args.text.now c.loop-place.done c.in-Some.place c.in-Some.ensures.place)
    (sym c.changes.ensures ∙ c.if-changes.true)

pub loop-place-preserved : goal.loop-place-preserved
loop-place-preserved c =
    settled_more c.args.rules.now c.args.text.now c.loop-place.done c.in-Some.place.at c.in-Some.place.hit.taken c.in-Some.place.hit.target.now c.loop-place.invariant
    (source_found c.args.rules.now c.args.text.now c.loop-place.done c.in-Some.place c.in-Some.ensures.place)
    (sym c.changes.ensures ∙ c.if-changes.false)

pub returns-clause-first : goal.returns-clause-first
returns-clause-first c = all_settled c.args.rules.now c.args.text.now c.loop-place.done c.loop-place.invariant c.in_default.ensures.place
