use Rattle.std.proofs.Common.{sym, subst}
use Rattle.desk_rules.specs.Firsts.{AreFirsts}
use Rattle.desk_rules.proofs.Beginnings.{firsts_sorted, keys_rise}
use Rattle.desk_rules.proofs.firsts.FirstSegments.of.Goals as goal

pub invariant_of-result : goal.invariant_of-result
invariant_of-result c = keys_rise c.in_ok-first_segments.field-0.entries c.in_ok-firsts.firsts.entries c.in_ok-segments.segments.items c.in_ok-firsts.ensures c.in_ok-segments.ensures

pub returns : goal.returns
returns c = subst (AreFirsts c.args.renames.now) (sym c.in_ok-segments.ensures) (firsts_sorted c.args.renames.now c.in_ok-first_segments.field-0.entries c.in_ok-firsts.firsts.entries c.in_ok-firsts.ensures c.in_ok-first_segments.ensures)
