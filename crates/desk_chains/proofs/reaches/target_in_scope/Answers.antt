use Rattle.std.proofs.Common.{◌∙◌, ap}
use Rattle.std.proofs.lemmas.Bool.{and_parts}
use Rattle.desk_chains.specs.Chains.{front_in_scope}
use Rattle.desk_chains.proofs.Chains.{package_in_scope}
use Rattle.desk_chains.proofs.reaches.target_in_scope.Goals as goal

pub returns : goal.returns
returns c =
    c.front_in_scope.ensures
    ∙ ap (front_in_scope c.args.rename.now) c.dotted_target.ensures
    ∙ package_in_scope c.args.rename.now c.args.other.now.target (and_parts _ _ c.recall_form.ensures.formed).1
