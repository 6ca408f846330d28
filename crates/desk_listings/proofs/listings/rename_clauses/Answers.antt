use Rattle.std.proofs.Common.{rules, ◌≡◌, ◌+◌, ◌∙◌, ◌&&◌, length, refl, subst, ap}
use Rattle.std.specs.List.{list_all}
use Rattle.std.specs.Option.{option_copied}
use Rattle.desk_base.specs.Names.{Text}
use Rattle.desk_rules.specs.Images.{IsImage}
use Rattle.desk_clauses.specs.Quotes.{cut}
use Rattle.desk_clauses.specs.Cuts.{parts_of}
use Rattle.desk_clauses.specs.Grammar.{parts, clauses, is_clause}
use Rattle.desk_clauses.specs.Edits.{between}
use Rattle.desk_clauses.specs.declared.quotes.Quoting.TheVariants.{Outside}
use Rattle.desk_clauses.proofs.Firsts.{all_parts}
use Rattle.desk_clauses.proofs.Walked.{IsGone, IsOver, part_at, one_part, image_of, cut_filled}
use Rattle.desk_listings.proofs.Items.{clause_by, all_clauses}
use Rattle.desk_listings.proofs.listings.rename_clauses.Goals as goal

pub loop-rest-init : goal.loop-rest-init
loop-rest-init c = record { gone = search rules; formed = all_parts (cut 44 Outside c.args.value.now) }

pub loop-rest-preserved : goal.loop-rest-preserved
loop-rest-preserved c =
    let value = c.args.value.now in
    let f = clause_by c.args.rules.now c.args.listing in
    let from = c.loop-rest.from in
    let part = c.split_first_part.result.0.now in
    let more = option_copied c.split_first_part.result.1 in
    let to = from + length part in
    let ahead = subst (λ r. IsGone (cut 44 Outside) 44 f value c.loop-rest.edits from (option_copied r)) c.in-Some.is c.loop-rest.invariant.gone in
    let formed = subst (λ r. list_all is_clause (clauses value) ≡ list_all (λ t. is_clause (parts t)) (parts_of (cut 44 Outside) (option_copied r))) c.in-Some.is c.loop-rest.invariant.formed in
    let at = part_at (cut 44 Outside) 44 f value c.loop-rest.edits from c.in-Some.text.now part more ahead c.split_first_part.ensures to refl in
    record {
      gone = one_part (cut 44 Outside) 44 f value c.loop-rest.edits c.put.new.self from to (to + 1) c.in-Some.text.now part _ more (cut_filled 44 Outside) ahead c.split_first_part.ensures refl refl c.in_ok-put.ensures
          (image_of part (f part) (between from to value) c.in_ok-image.image c.in_ok-image.ensures.image at.is);
      formed = formed ∙ ap (list_all (λ t. is_clause (parts t))) c.split_first_part.ensures.parts
          ∙ ap (λ b. b && list_all (λ t. is_clause (parts t)) (parts_of (cut 44 Outside) more)) c.in_ok-image.ensures.formed;
    }

pub returns-clause-image : goal.returns-clause-image
returns-clause-image c =
    let value = c.args.value.now in
    let over : IsOver (cut 44 Outside) 44 (clause_by c.args.rules.now c.args.listing) value c.loop-rest.edits = search rules in
    subst (λ (image : Text). IsImage value image c.in_ok-finish.field-0) (over.same ∙ all_clauses c.args.rules.now c.args.listing value) c.in_ok-finish.ensures
