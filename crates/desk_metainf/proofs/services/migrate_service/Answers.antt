use Rattle.std.proofs.Common.{rules, ◌+◌, ◌∙◌, subst, ap, sym, cond, Bool, add-zero, arith}
use Rattle.desk_base.specs.Names.{Text}
use Rattle.desk_metainf.proofs.Migrating.{IsMigratedTo, migrated_none, bad_here, one_line, all_migrated, image_stays}
use Rattle.desk_metainf.proofs.services.migrate_service.Goals as goal
use Rattle.desk_metainf.proofs.services.migrate_service.Goals.{then-branch, else-branch}

pub loop-line-init : goal.loop-line-init
loop-line-init c = subst (λ (bytes : Text). IsMigratedTo c.args.rules.now c.args.text.now c.args.text.now bytes 0) (sym c.empty-bytes.ensures) (migrated_none c.args.rules.now c.args.text.now)

pub returns-then-has_blank-clause-refused : goal.returns-then-has_blank-clause-refused
returns-then-has_blank-clause-refused c =
    bad_here c.args.rules.now c.args.text.now c.loop-line.rest.now c.loop-line.bytes c.loop-line.changed c.loop-line.invariant
    c.in-Some.line.content.now c.in-Some.more.now c.in-Some.line.end c.provider_in-provider.result.from c.provider_in-provider.result.to
    record {
      same = c.in-Some.ensures.line;
      whole = c.in-Some.ensures.whole;
      shorter = c.in-Some.ensures.shorter;
      place = c.provider_in-provider.ensures;
    }
    (sym c.has_blank.ensures ∙ c.if-has_blank.true)

pub overflow_add-changed : goal.overflow_add-changed
overflow_add-changed c = omega (arith, c.loop-line.invariant.few, c.in-Some.ensures.shorter, c.requires)

pub loop-line-smaller : goal.loop-line-smaller
loop-line-smaller c = c.in-Some.ensures.shorter

pub loop-line-preserved : goal.loop-line-preserved
loop-line-preserved c =
    one_line c.args.rules.now c.args.text.now c.loop-line.rest.now c.loop-line.bytes c.loop-line.changed c.loop-line.invariant
    c.in-Some.line.content.now c.in-Some.more.now c.in-Some.line.end c.provider_in-provider.result.from c.provider_in-provider.result.to
    record {
      same = c.in-Some.ensures.line;
      whole = c.in-Some.ensures.whole;
      shorter = c.in-Some.ensures.shorter;
      place = c.provider_in-provider.ensures;
    }
    (sym c.has_blank.ensures ∙ c.if-has_blank.false)
    c.in_ok-append_line.ensures.settled
    c.append_line.new.out
    c.in_ok-append_line.ensures.bytes
    c.if-branch.changed
    (elim c.if-branch.branch [
      | then-branch w ↦ w.changed-is ∙ ap (λ (b : Bool). c.loop-line.changed + cond b 1 0) (sym w.if-branch.true ∙ c.in_ok-append_line.ensures.changed)
      | else-branch w ↦ w.changed-is ∙ sym (add-zero c.loop-line.changed) ∙ ap (λ (b : Bool). c.loop-line.changed + cond b 1 0) (sym w.if-branch.false ∙ c.in_ok-append_line.ensures.changed)
    ])

pub returns-clause-image : goal.returns-clause-image
returns-clause-image c = all_migrated c.args.rules.now c.args.text.now c.loop-line.rest.now c.loop-line.bytes c.loop-line.changed c.loop-line.invariant (search rules)

pub returns-clause-again : goal.returns-clause-again
returns-clause-again c = image_stays c.args.rules.now c.args.text.now c.loop-line.rest.now c.loop-line.bytes c.loop-line.changed c.loop-line.invariant (search rules)
