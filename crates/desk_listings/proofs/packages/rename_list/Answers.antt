use Rattle.std.proofs.Common.{◌==◌, ◌+◌, length, refl, subst}
use Rattle.std.specs.Option.{option_copied}
use Rattle.std.specs.List.{slice_split}
use Rattle.desk_clauses.specs.Edits.{between}
use Rattle.desk_clauses.proofs.Walked.{IsGone, part_at, one_part, image_of, split_filled}
use Rattle.desk_listings.specs.Images.{item_image}
use Rattle.desk_listings.proofs.packages.rename_list.Goals as goal

pub loop-rest-preserved : goal.loop-rest-preserved
loop-rest-preserved c =
    let list = c.args.list.now in
    let f = item_image c.args.rules.now.renames in
    let from = c.loop-rest.from in
    let part = c.split_first_item.result.0.now in
    let more = option_copied c.split_first_item.result.1 in
    let to = from + length part in
    let ahead = subst (λ r. IsGone (slice_split (λ b. b == 44)) 44 f list c.loop-rest.edits from (option_copied r)) c.in-Some.is c.loop-rest.invariant in
    let at = part_at (slice_split (λ b. b == 44)) 44 f list c.loop-rest.edits from c.in-Some.text.now part more ahead c.split_first_item.ensures to refl in
    one_part (slice_split (λ b. b == 44)) 44 f list c.loop-rest.edits c.put.new.self from to (to + 1) c.in-Some.text.now part _ more (split_filled (λ b. b == 44)) ahead c.split_first_item.ensures refl refl c.in_ok-put.ensures
    (image_of part (f part) (between from to list) c.in_ok-image.image c.in_ok-image.ensures at.is)
