use Rattle.std.proofs.Common.{◌≡◌, ◌+◌, ◌++◌, ◌∙◌, ℕ, Bool, cond, ap, sym, add-zero}
use Rattle.desk_base.specs.Names.{Text}
use Rattle.desk_textrules.proofs.Pieces.{source_found, replaced_more, all_replaced, all_counted}
use Rattle.desk_textrules.proofs.texts.replace.Goals as goal
use Rattle.desk_textrules.proofs.texts.replace.Goals.{then-changes, else-changes}

pub loop-place-preserved : goal.loop-place-preserved
loop-place-preserved c =
    let place = c.in-Some.place in
    replaced_more c.args.rules.now c.args.text.now c.loop-place.done c.loop-place.bytes c.loop-place.changed place.at place.hit.taken place.hit.target.now c.append-in-Some.new.self c.if-changes.changed c.loop-place.invariant
    (source_found c.args.rules.now c.args.text.now c.loop-place.done place c.in-Some.ensures.place)
    (c.in_ok-append-2.ensures.ok ∙ ap (λ (t : Text). t ++ place.hit.target.now) c.in_ok-append.ensures.ok)
    (elim c.if-changes.branch [
      | then-changes w ↦ w.changed-is ∙ ap (λ (b : Bool). c.loop-place.changed + cond b 1 0) (sym w.if-changes.true ∙ c.changes.ensures)
      | else-changes w ↦ w.changed-is ∙ sym (add-zero c.loop-place.changed) ∙ ap (λ (b : Bool). c.loop-place.changed + cond b 1 0) (sym w.if-changes.false ∙ c.changes.ensures)
    ])

pub returns-clause-bytes : goal.returns-clause-bytes
returns-clause-bytes c =
    c.in_ok-append-3.ensures.ok ∙ all_replaced c.args.rules.now c.args.text.now c.loop-place.done c.loop-place.bytes c.loop-place.changed c.loop-place.invariant c.in_default.ensures.place

pub returns-clause-changed : goal.returns-clause-changed
returns-clause-changed c = all_counted c.args.rules.now c.args.text.now c.loop-place.done c.loop-place.bytes c.loop-place.changed c.loop-place.invariant c.in_default.ensures.place
