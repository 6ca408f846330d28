use Rattle.std.proofs.Common.{◌∙◌, Bool, ap}
use Rattle.std.proofs.lemmas.Bool.{and_parts}
use Rattle.desk_base.specs.Names.{Text, written}
use Rattle.desk_packages.specs.Keys.{goes_on}
use Rattle.desk_invert.proofs.LookUps.{front_told}
use Rattle.desk_invert.proofs.overlaps.target_in_reach.Goals as goal

pub returns : goal.returns
returns c =
    c.goes_on.ensures.behind
    ∙ ap (λ (w : Text). goes_on c.is_below.result w c.dotted_target-2.result.now) c.dotted_target.ensures
    ∙ ap (λ (b : Bool). goes_on b (written 46 c.args.rename.now.target) c.dotted_target-2.result.now) c.is_below.ensures
    ∙ ap (goes_on c.args.rename.now.below (written 46 c.args.rename.now.target)) c.dotted_target-2.ensures
    ∙ front_told c.args.rename.now c.recall_form.ensures.formed c.args.other.now.target (and_parts _ _ c.recall_form-2.ensures.formed).1
