use Rattle.std.proofs.Common.{◌∙◌, ap}
use Rattle.std.proofs.lemmas.Bool.{and_parts}
use Rattle.desk_chains.specs.Chains.{front_in_reach}
use Rattle.desk_chains.proofs.Chains.{package_in_reach}
use Rattle.desk_chains.proofs.reaches.source_in_reach.Goals as goal

pub returns : goal.returns
returns c = record {
  reached =
      c.front_in_reach.ensures
      ∙ ap (front_in_reach c.args.rename.now) c.dotted_source.ensures
      ∙ package_in_reach c.args.rename.now c.args.other.now.source (and_parts _ _ c.recall_form.ensures.formed).0;
}
