use Rattle.desk_names.proofs.Places.{name_first, name_last}
use Rattle.desk_names.proofs.parts.first_name.Goals as goal

pub returns-then-at-text : goal.returns-then-at-text
returns-then-at-text c = rw (c.cut_name.ensures.package, c.cut_name.ensures.simple, c.split_at.ensures.front, c.split_at.ensures.back) (name_first c.args.text.now c.place_of-at.result c.place_of-at.ensures.value c.if-at-text.true)

pub returns-else-at-text : goal.returns-else-at-text
returns-else-at-text c = rw (c.split_at.ensures.back) (name_last c.args.text.now c.place_of-at.result c.place_of-at.ensures.value c.if-at-text.false c.requires.some)
