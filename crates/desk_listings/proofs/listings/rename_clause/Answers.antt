use Rattle.std.proofs.Common.{rules, ◌≡◌, ◌+◌, ◌∙◌, length, refl, sym, subst, ap, map, None}
use Rattle.std.specs.Option.{option_copied}
use Rattle.desk_base.specs.Names.{Text}
use Rattle.desk_rules.specs.Images.{IsImage}
use Rattle.desk_clauses.specs.Cuts.{IsFirstPart}
use Rattle.desk_clauses.specs.Edits.{between}
use Rattle.desk_clauses.specs.Grammar.{parts, clause_text}
use Rattle.desk_clauses.specs.declared.quotes.Quoting.TheVariants.{Outside}
use Rattle.desk_clauses.proofs.Firsts.{may_stand, may_go_on, part_read, none_left}
use Rattle.desk_clauses.proofs.Walked.{IsOver, part_at, one_part, image_of, cut_filled}
use Rattle.desk_listings.specs.Images.{part_image}
use Rattle.desk_listings.proofs.Clauses.{IsClauseGone, leading_version, leading_is, version_left, version_read, brought_image}
use Rattle.desk_listings.proofs.listings.rename_clause.Goals as goal

pub loop-rest-init : goal.loop-rest-init
loop-rest-init c = record { gone = search rules; formed = refl; brought = refl }

pub loop-rest-preserved : goal.loop-rest-preserved
loop-rest-preserved c =
    let clause = c.args.clause.now in
    let held = c.args.rules.now in
    let listing = c.args.listing in
    let all = leading_version held listing (parts clause) in
    let f = part_image held listing all in
    let from = c.loop-rest.from in
    let place = c.loop-rest.place in
    let next = c.in-Some-behind.next in
    let version = option_copied c.loop-rest.version in
    let text = c.in-Some.text.now in
    let part = c.of-part.result.text.now in
    let more = option_copied c.split_first_part.result.1 in
    let first = subst (λ (p : Text). IsFirstPart 59 text p more) (sym c.of-part.ensures) c.split_first_part.ensures in
    let to = from + length part in
    let before = subst (λ r. IsClauseGone held listing clause c.loop-rest.edits from place version (option_copied r)) c.in-Some.is c.loop-rest.invariant in
    let go = sym c.behind.ensures ∙ c.in-Some-behind.is in
    let read = version_read held listing place next version text part more first go ∙ before.brought in
    let at = part_at parts 59 f clause c.loop-rest.edits from text part more before.gone first to refl in
    record {
      gone = one_part parts 59 f clause c.loop-rest.edits c.put.new.self from to (to + 1) text part _ more (cut_filled 59 Outside) before.gone first refl refl c.in_ok-put.ensures
          (image_of part _ (between from to clause) c.in_ok-image.image c.in_ok-image.ensures at.is
          ∙ ap (λ v. part_image held listing v part) c.in_ok-version.ensures
          ∙ brought_image held listing place next version all part more go read);
      formed = before.formed ∙ part_read place text part more first ∙ ap (λ o. may_go_on o more) go;
      brought = ap (λ v. version_left held listing next v more) c.in_ok-version.ensures ∙ read;
    }

pub returns-clause-image : goal.returns-clause-image
returns-clause-image c =
    let clause = c.args.clause.now in
    let held = c.args.rules.now in
    let listing = c.args.listing in
    let all = leading_version held listing (parts clause) in
    let over : IsOver parts 59 (part_image held listing all) clause c.loop-rest.edits = search rules in
    let ended : option_copied c.loop-rest.rest ≡ None = search rules in
    let formed = c.loop-rest.invariant.formed ∙ ap (may_stand c.loop-rest.place) ended ∙ none_left c.loop-rest.place in
    subst (λ (image : Text). IsImage clause image c.in_ok-finish.field-0)
    (over.same ∙ ap (λ v. clause_text (map (part_image held listing v) (parts clause))) (leading_is held listing (parts clause) formed))
    c.in_ok-finish.ensures
