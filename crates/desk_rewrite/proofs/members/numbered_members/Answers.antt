use Rattle.std.proofs.Common.{◌∙◌, ◌++◌, ◌∷◌, [], List, sym, ap, ap₂, subst, false, get_or, unwrap_or, map, Option}
use Rattle.std.proofs.lemmas.List.{take_more, map_push}
use Rattle.desk_base.specs.Names.{Text}
use Rattle.desk_base.specs.Entries.{text_at}
use Rattle.desk_base.specs.declared.kinds.Role.TheVariants as roles
use Rattle.desk_format.specs.Resolved.{image}
use Rattle.desk_format.specs.declared.members.Member.{Member}
use Rattle.desk_new_pool.specs.Twins.{member_in}
use Rattle.desk_new_pool.specs.declared.twins.NumberedMember.{NumberedMember}
use Rattle.desk_rewrite.specs.Tables.{image_found}
use Rattle.desk_rewrite.proofs.Numbered.{Numbered, are_numbered, image_is, numbered_more}
use Rattle.desk_rewrite.proofs.members.numbered_members.Goals as goal

abbrev default : Member
default = record { at = 0; name = 0; descriptor = 0; method = false }

pub loop-member-preserved : goal.loop-member-preserved
loop-member-preserved c =
    let m : Member = get_or c.args.members.now c.loop-member.member-index default in
    let n : NumberedMember = record { member = m; name = c.in_ok-number.field-0; descriptor = c.in_ok-number-2.field-0 } in
    record {
      members =
          ap (map member_in) c.in_ok-push.ensures.items ∙ map_push member_in c.loop-member.numbered.items n
          ∙ ap (λ (l : List Member). l ++ m ∷ []) c.loop-member.invariant.members
          ∙ sym (take_more c.args.members.now c.loop-member.member-index default c.loop-member-test.true);
      numbered = λ im has.
          subst (Numbered im c.args.pool.now.entries c.number.new.self c.number-in-loop-member.new.self) (sym c.in_ok-push.ensures.items)
          (numbered_more im c.args.pool.now.entries c.loop-member.names c.number.new.self c.loop-member.descriptors c.number-in-loop-member.new.self c.loop-member.numbered.items n c.text_at-in-loop-member.result.now c.image_or-descriptor.result.now
          (c.loop-member.invariant.numbered im has) c.text_at-in-loop-member.ensures
          (c.image_or-descriptor.ensures ∙ ap₂ (λ (o : Option Text) (t : Text). unwrap_or o t) c.image_in-image.ensures c.text_at.ensures
          ∙ image_is (text_at c.args.pool.now.entries m.descriptor) (image im roles.Descriptor (text_at c.args.pool.now.entries m.descriptor)) (image_found c.args.table.now m.descriptor roles.Descriptor) (has c.loop-member.member-index default c.loop-member-test.true))
          c.in_ok-number.ensures.number c.in_ok-number.ensures.keeps c.in_ok-number.ensures.stays c.in_ok-number-2.ensures.number c.in_ok-number-2.ensures.keeps c.in_ok-number-2.ensures.stays);
    }

pub returns-clause-numbered : goal.returns-clause-numbered
returns-clause-numbered c = λ im has. are_numbered im c.args.pool.now.entries c.loop-member.names c.loop-member.descriptors c.loop-member.numbered.items (c.loop-member.invariant.numbered im has)
