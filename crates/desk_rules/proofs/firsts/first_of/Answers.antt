use Rattle.std.proofs.Common.{◌∙◌, sym, ap, arith}
use Rattle.std.proofs.lemmas.List.{take_all}
use Rattle.desk_base.specs.Names.{is_whole}
use Rattle.desk_rules.proofs.Beginnings.{first_cut, first_whole}
use Rattle.desk_rules.proofs.firsts.first_of.Goals as goal

pub returns-then-byte-separator : goal.returns-then-byte-separator
returns-then-byte-separator c = first_cut c.args.separator c.args.path.now c.loop-at.at c.requires (omega arith) c.loop-at.invariant c.if-byte-separator.true

pub returns : goal.returns
returns c = first_whole c.args.separator c.args.path.now c.requires (ap (is_whole c.args.separator) (sym (take_all c.loop-at.at c.args.path.now (omega arith))) ∙ c.loop-at.invariant)
