use Rattle.std.proofs.Common.{sym, ◌∙◌}
use Rattle.desk_properties.proofs.Parts.{part_end, goes_within}
use Rattle.desk_properties.proofs.entries.read_part.Goals as goal

pub append_next-requires-clause-inside : goal.append_next-requires-clause-inside
append_next-requires-clause-inside c = goes_within c.args.file.now c.args.part c.loop-part.next c.loop-part.invariant.inside (sym c.is_stop.ensures ∙ c.loop-part-test.true)

pub returns-clause-read : goal.returns-clause-read
returns-clause-read c = part_end c.args.file.now c.args.part c.args.from c.loop-part.text c.loop-part.next c.loop-part.invariant (sym c.is_stop.ensures ∙ c.loop-part-test.false)
