use Rattle.desk_names.proofs.Places.{other_first, other_last}
use Rattle.desk_names.proofs.parts.first_other.Goals as goal

pub returns-then-at-text : goal.returns-then-at-text
returns-then-at-text c = rw (c.split_at.ensures.front, c.split_at.ensures.back) (other_first c.args.text.now c.place_of-at.result c.place_of-at.ensures.value c.if-at-text.true)

pub returns-else-at-text : goal.returns-else-at-text
returns-else-at-text c = rw (c.split_at-else-at-text.ensures.back) (other_last c.args.text.now c.place_of-at.result c.place_of-at.ensures.value c.if-at-text.false c.requires.some)
