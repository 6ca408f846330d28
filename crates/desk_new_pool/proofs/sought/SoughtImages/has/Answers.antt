use Rattle.std.proofs.Common.{List, ap, ◌∙◌}
use Rattle.desk_base.specs.Names.{Text}
use Rattle.desk_format.specs.Split.{holds}
use Rattle.desk_new_pool.proofs.Images.{set_has}
use Rattle.desk_new_pool.proofs.sought.SoughtImages.has.Goals as goal

pub returns-then-self-text : goal.returns-then-self-text
returns-then-self-text c = c.contains.ensures ∙ set_has c.self.inside.images c.args.text.now ∙ ap (λ (ts : List Text). holds ts c.args.text.now) c.self.view_is
