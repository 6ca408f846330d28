use Rattle.std.proofs.Common.{sym, ◌∙◌}
use Rattle.desk_pool.proofs.Begins.{no_field}
use Rattle.desk_pool.proofs.texts.is_field.Goals as goal

pub returns-else-may_be_field : goal.returns-else-may_be_field
returns-else-may_be_field c = c.if-may_be_field.false ∙ sym (no_field c.args.text.now (sym c.may_be_field.ensures ∙ c.if-may_be_field.false))
