use Rattle.std.proofs.Common.{◌∙◌, ◌==◌, List, ap}
use Rattle.std.specs.List.{find, filter, starts_with}
use Rattle.desk_base.specs.Names.{Text}
use Rattle.desk_chains.specs.Chains.{rename_then_direct}
use Rattle.desk_entries.specs.Exchanges.{Exchange}
use Rattle.desk_chains.proofs.Chains.{find_filtered, directs_under}
use Rattle.desk_chains.proofs.chain.PackageRenameLeadsToDirectRuleAsGiven.candidates.Goals as goal

pub returns : goal.returns
returns c =
    ap (λ (es : List Exchange). find (rename_then_direct c.args.self.now) es) c.rules_under.ensures
    ∙ ap (λ (t : Text). find (rename_then_direct c.args.self.now) (filter (λ (e : Exchange). starts_with ◌==◌ e.0 t) c.args.rules.now)) c.target_start.ensures
    ∙ find_filtered _ (rename_then_direct c.args.self.now) c.args.rules.now (λ e k. directs_under c.args.self.now c.recall_form.ensures.formed e k)
