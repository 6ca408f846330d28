use Rattle.std.proofs.Common.{◌≡◌, sym, ◌∙◌, subst}
use Rattle.desk_base.specs.Names.{Text}
use Rattle.desk_follow.specs.RuleImages.{images_of}
use Rattle.desk_format.specs.Resolved.{Images, image}
use Rattle.desk_rewrite.specs.Tables.{role_of}
use Rattle.desk_rewrite.proofs.OwnTexts.{own_answer, own_noted}
use Rattle.desk_rewrite.proofs.itself.is_own.Goals as goal

pub returns-clause-noted : goal.returns-clause-noted
returns-clause-noted c =
    let im : Images = images_of c.args.rules.now in
    let pool = c.args.pool.now.entries in
    let role = role_of c.in-Some.text_role in
    let own : image im role c.text_at-text.result.now ≡ c.text_at-text.result.now =
    own_answer im pool c.text_at-text.result.now (image im role c.text_at-text.result.now) c.in_ok-image_by_role.field-0 (sym c.is_some.ensures ∙ c.if-is_some.false) c.in_ok-image_by_role.ensures in
    own_noted im pool c.args.used.now c.in-Some.text_role c.args.noted.now c.keep.new.self (sym c.text_role_of.ensures ∙ c.in-Some.is)
    (subst (λ (t : Text). image im role t ≡ t) c.text_at-text.ensures own) c.requires c.keep.ensures
