use Rattle.std.proofs.Common.{Option, sym, subst}
use Rattle.std.specs.Prelude.{unwrap_or}
use Rattle.desk_base.specs.Names.{Text}
use Rattle.desk_clauses.specs.Edits.{between, IsEdited}
use Rattle.desk_clauses.proofs.Edited.{kept}
use Rattle.desk_clauses.proofs.edits.Edits.put.Goals as goal

pub returns-in-None : goal.returns-in-None
returns-in-None c =
    subst (λ (new : Option Text). IsEdited c.args.text.now c.args.self.now c.args.self.now c.args.from c.args.to (unwrap_or new (between c.args.from c.args.to c.args.text.now)))
    (sym c.in-None.is) (kept c.args.text.now c.args.self.now c.args.from c.args.to c.requires.behind c.requires.order)
