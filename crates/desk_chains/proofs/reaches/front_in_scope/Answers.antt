use Rattle.std.proofs.Common.{◌∙◌, Bool, ap, sym}
use Rattle.desk_base.specs.Names.{Text, written}
use Rattle.desk_packages.specs.Keys.{goes_on}
use Rattle.desk_chains.proofs.Fronts.{scope_told}
use Rattle.desk_chains.proofs.reaches.front_in_scope.Goals as goal

pub returns-then-is_dotted : goal.returns-then-is_dotted
returns-then-is_dotted c =
    c.goes_on.ensures.behind
    ∙ ap (λ (w : Text). goes_on c.is_below.result w c.args.text.now) c.dotted_source.ensures
    ∙ ap (λ (b : Bool). goes_on b (written 46 c.args.rename.now.source) c.args.text.now) c.is_below.ensures
    ∙ scope_told c.args.rename.now c.recall_form.ensures.formed c.args.text.now (sym c.if-is_dotted.ensures)
