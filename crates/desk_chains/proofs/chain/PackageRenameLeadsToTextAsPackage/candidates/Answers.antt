use Rattle.std.proofs.Common.{◌∙◌, ◌==◌, List, ap}
use Rattle.std.specs.List.{find, filter, starts_with}
use Rattle.desk_base.specs.Names.{Text}
use Rattle.desk_packages.specs.Renames.{Renaming, key_of}
use Rattle.desk_chains.specs.Chains.{name_then_package}
use Rattle.desk_chains.proofs.Chains.{find_filtered, sources_under}
use Rattle.desk_chains.proofs.chain.PackageRenameLeadsToTextAsPackage.candidates.Goals as goal

pub returns : goal.returns
returns c =
    ap (λ (rs : List Renaming). find (name_then_package c.args.self.now) rs) c.rules_under.ensures
    ∙ ap (λ (t : Text). find (name_then_package c.args.self.now) (filter (λ (s : Renaming). starts_with ◌==◌ (key_of s) t) c.args.rules.now)) c.target_start.ensures
    ∙ find_filtered _ (name_then_package c.args.self.now) c.args.rules.now (λ s k. sources_under c.args.self.now c.recall_form.ensures.formed s k)
