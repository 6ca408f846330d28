use Rattle.std.proofs.Common.{List, length, ◌<◌, ◌^◌, sym, ◌∙◌, subst}
use Rattle.desk_base.specs.declared.kinds.Used.{Used}
use Rattle.desk_follow.specs.RuleImages.{images_of}
use Rattle.desk_rewrite.proofs.OwnTexts.{itself_class, none_renamed_in, odd_counted, renamed_is}
use Rattle.desk_rewrite.proofs.Parts.{IsKnown, known}
use Rattle.desk_rewrite.proofs.itself.odd_if_unchanged.Goals as goal

pub odd_uses-requires : goal.odd_uses-requires
odd_uses-requires c =
    let k : IsKnown c.args.view.now = known c.args.view.now c.bytes_of-bytes.ensures.each c.bytes_of-bytes.ensures.sound in
    subst (λ (us : List Used). length us < 2 ^ 32) (sym c.uses-2.ensures) (k.few c.bytes_of-bytes.ensures.short)

pub returns-clause-odd : goal.returns-clause-odd
returns-clause-odd c = λ d e.
    let im = images_of c.args.rules.now in
    odd_counted im c.args.view.now d e c.pool-2.result.now.entries c.uses-2.result.now c.in_ok-odd.odd c.pool-2.ensures.entries c.uses-2.ensures
    (renamed_is im c.args.view.now d e c.pool.result.now.entries c.uses.result.now c.in_ok-are_own.field-0 c.pool.ensures.entries c.uses.ensures c.in_ok-are_own.ensures ∙ c.if-not-branch.false) c.in_ok-odd.ensures

pub returns-clause-itself : goal.returns-clause-itself
returns-clause-itself c = λ d e.
    itself_class (images_of c.args.rules.now) c.args.view.now d c.bytes_of-bytes.ensures.each e
    (none_renamed_in (images_of c.args.rules.now) d
    (renamed_is (images_of c.args.rules.now) c.args.view.now d e c.pool.result.now.entries c.uses.result.now c.in_ok-are_own.field-0 c.pool.ensures.entries c.uses.ensures c.in_ok-are_own.ensures ∙ c.if-not-branch.false))
