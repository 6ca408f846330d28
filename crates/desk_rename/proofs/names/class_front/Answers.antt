use Rattle.std.proofs.Common.{refl, sym, ◌∙◌}
use Rattle.desk_base.specs.Names.{is_part, slash}
use Rattle.desk_rename.proofs.NameImages.{unchanged_name, changed_name}
use Rattle.desk_rename.proofs.names.class_front.Goals as goal

pub returns-in-None-clause-front : goal.returns-in-None-clause-front
returns-in-None-clause-front c = unchanged_name is_part refl c.args.rules.now.renames slash c.args.text.now c.front_end.result c.front_end.ensures c.in-None.ensures.answer

pub returns-then-is_some-clause-front : goal.returns-then-is_some-clause-front
returns-then-is_some-clause-front c =
    changed_name is_part refl c.args.rules.now.renames c.in-Some.ensures.settled.formed slash refl c.args.text.now c.front_end.result c.in-Some.front.taken c.in-Some.front.segments.now
    (sym c.split_class.ensures.named ∙ sym c.is_some.ensures ∙ c.if-is_some.true) c.front_end.ensures c.in-Some.ensures.answer
