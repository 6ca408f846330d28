use Rattle.std.proofs.Common.{refl, sym, ◌∙◌}
use Rattle.desk_base.specs.Names.{is_identifier, dot}
use Rattle.desk_rename.proofs.NameImages.{unchanged_name, changed_name}
use Rattle.desk_rename.proofs.names.dotted_front.Goals as goal

pub returns-in-None-clause-front : goal.returns-in-None-clause-front
returns-in-None-clause-front c = unchanged_name is_identifier refl c.args.rules.now.renames dot c.args.text.now c.front_end.result c.front_end.ensures c.in-None.ensures.answer

pub returns-then-is_dotted-clause-front : goal.returns-then-is_dotted-clause-front
returns-then-is_dotted-clause-front c =
    changed_name is_identifier refl c.args.rules.now.renames c.in-Some.ensures.settled.formed dot refl c.args.text.now c.front_end.result c.in-Some.front.taken c.in-Some.front.segments.now
    (sym c.is_dotted.ensures ∙ c.if-is_dotted.true) c.front_end.ensures c.in-Some.ensures.answer
