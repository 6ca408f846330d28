use Rattle.std.proofs.Common.{sym, ◌∙◌}
use Rattle.desk_pool.proofs.Begins.{no_method}
use Rattle.desk_pool.proofs.texts.is_method.Goals as goal

pub returns-else-begins : goal.returns-else-begins
returns-else-begins c = c.if-begins.false ∙ sym (no_method c.args.text.now (sym c.begins.ensures ∙ c.if-begins.false))
