use Rattle.std.proofs.Common.{sym}
use Rattle.desk_packages.proofs.Searched.{item_at, none_found}
use Rattle.desk_packages.proofs.keyed.rule_of.Goals as goal

pub bounds-rules-place : goal.bounds-rules-place
bounds-rules-place g c = c.in-Some.ensures.0

pub returns-in-Some : goal.returns-in-Some
returns-in-Some g c = sym (item_at g.R.Keyed.key_of c.args.rules.now c.requires c.args.key.now c.in-Some.place c.index-rules-place.result c.in-Some.ensures c.index-rules-place.is)

pub returns-in-None : goal.returns-in-None
returns-in-None g c = sym (none_found g.R.Keyed.key_of c.args.rules.now c.args.key.now c.in-None.ensures)
