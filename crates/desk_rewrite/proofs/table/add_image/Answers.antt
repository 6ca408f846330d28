use Rattle.std.proofs.Common.{◌≡◌, List, Some, None, length, refl, ap, arith}
use Rattle.desk_base.specs.Names.{Text}
use Rattle.desk_new_pool.specs.Wants.{numbered}
use Rattle.desk_follow.specs.RuleImages.{images_of}
use Rattle.desk_rewrite.specs.declared.seen.Looked.TheVariants as looks
use Rattle.desk_rewrite.proofs.Tables.{Answers, answers, stays_numbered, one_seen, last_numbered, front_numbered, answer_is, keeps_found, finds_new}
use Rattle.desk_rewrite.proofs.table.add_image.Goals as goal

-- ---- where the text is its own image

pub returns-in-None-clause-numbers : goal.returns-in-None-clause-numbers
returns-in-None-clause-numbers g c =
    let same : length c.note.new.self.images.items ≡ length c.args.table.now.images.items = ap length c.note.ensures.images in
    stays_numbered c.args.table.now c.note.new.self c.args.key looks.Own c.note.ensures.notes (omega arith) (omega arith) c.requires.numbers

pub returns-in-None-clause-seen : goal.returns-in-None-clause-seen
returns-in-None-clause-seen g c = one_seen c.args.table.now c.note.new.self c.args.key looks.Own c.note.ensures.notes refl

pub returns-in-None-clause-finds : goal.returns-in-None-clause-finds
returns-in-None-clause-finds g c =
    let im = images_of c.args.rules.now in
    let up : Answers c.args.table.now c.args.key None c.note.new.self =
    answers c.args.table.now c.note.new.self c.args.key looks.Own c.note.ensures.notes None refl (λ n le. ap (λ (l : List Text). numbered l n) c.note.ensures.images) c.requires.numbers in
    finds_new im c.args.pool.now.entries c.args.table.now c.note.new.self c.args.key None up (answer_is im c.args.pool.now.entries c.args.key c.text_at-text.result.now _ None c.text_at-text.ensures c.in-None.is c.in_ok-image_by_role.ensures)

pub returns-in-None-clause-keeps : goal.returns-in-None-clause-keeps
returns-in-None-clause-keeps g c =
    let im = images_of c.args.rules.now in
    let up : Answers c.args.table.now c.args.key None c.note.new.self =
    answers c.args.table.now c.note.new.self c.args.key looks.Own c.note.ensures.notes None refl (λ n le. ap (λ (l : List Text). numbered l n) c.note.ensures.images) c.requires.numbers in
    keeps_found im c.args.pool.now.entries c.args.table.now c.note.new.self c.args.key None up (answer_is im c.args.pool.now.entries c.args.key c.text_at-text.result.now _ None c.text_at-text.ensures c.in-None.is c.in_ok-image_by_role.ensures)

-- ---- where it has another one

pub returns-in_ok-put-in-Some-clause-finds : goal.returns-in_ok-put-in-Some-clause-finds
returns-in_ok-put-in-Some-clause-finds g c =
    let im = images_of c.args.rules.now in
    let up : Answers c.args.table.now c.args.key (Some c.in-Some.image) c.put.new.self =
    answers c.args.table.now c.put.new.self c.args.key (looks.Image (length c.put.new.self.images.items)) c.in_ok-put-in-Some.ensures.notes (Some c.in-Some.image)
    (last_numbered c.args.table.now.images.items c.put.new.self.images.items c.in-Some.image c.in_ok-put-in-Some.ensures.images) (front_numbered c.args.table.now.images.items c.put.new.self.images.items c.in-Some.image c.in_ok-put-in-Some.ensures.images) c.requires.numbers in
    finds_new im c.args.pool.now.entries c.args.table.now c.put.new.self c.args.key (Some c.in-Some.image) up (answer_is im c.args.pool.now.entries c.args.key c.text_at-text.result.now _ (Some c.in-Some.image) c.text_at-text.ensures c.in-Some.is c.in_ok-image_by_role.ensures)

pub returns-in_ok-put-in-Some-clause-keeps : goal.returns-in_ok-put-in-Some-clause-keeps
returns-in_ok-put-in-Some-clause-keeps g c =
    let im = images_of c.args.rules.now in
    let up : Answers c.args.table.now c.args.key (Some c.in-Some.image) c.put.new.self =
    answers c.args.table.now c.put.new.self c.args.key (looks.Image (length c.put.new.self.images.items)) c.in_ok-put-in-Some.ensures.notes (Some c.in-Some.image)
    (last_numbered c.args.table.now.images.items c.put.new.self.images.items c.in-Some.image c.in_ok-put-in-Some.ensures.images) (front_numbered c.args.table.now.images.items c.put.new.self.images.items c.in-Some.image c.in_ok-put-in-Some.ensures.images) c.requires.numbers in
    keeps_found im c.args.pool.now.entries c.args.table.now c.put.new.self c.args.key (Some c.in-Some.image) up (answer_is im c.args.pool.now.entries c.args.key c.text_at-text.result.now _ (Some c.in-Some.image) c.text_at-text.ensures c.in-Some.is c.in_ok-image_by_role.ensures)
