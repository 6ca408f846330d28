use Rattle.std.proofs.Common.{◌∙◌, ap, sym, List, ℕ, Some}
use Rattle.desk_packages.specs.Renames.{Renaming}
use Rattle.desk_chains.specs.Chains.{first_chain_in, chain_at}
use Rattle.desk_entries.specs.Exchanges.{Exchange, BundleUpdate}
use Rattle.desk_rules.specs.RuleSets.{rules_of}
use Rattle.desk_rules.specs.RuleFiles.{unless_chain}
use Rattle.desk_rules.proofs.Kept.{chain_is, settled_by}
use Rattle.desk_rules.proofs.rule_set.RuleSet.settled.Goals as goal

pub returns-in-Some-clause-refused : goal.returns-in-Some-clause-refused
returns-in-Some-clause-refused c = ap (unless_chain (rules_of c.args.rules.renames.items c.args.rules.versions.items c.args.rules.bundles.items c.args.rules.direct.items c.args.rules.selection c.args.rules.texts))
    (chain_is c.args.rules.renames.items c.args.rules.versions.items c.args.rules.bundles.items c.args.rules.direct.items c.args.rules.selection c.args.rules.texts c.requires.bundles c.requires.direct
    ∙ ap (λ (rs : List Renaming). first_chain_in rs c.args.rules.direct.items c.args.rules.bundles.items) (sym c.deref.ensures.value)
    ∙ ap (λ (ds : List Exchange). first_chain_in c.deref.result.now ds c.args.rules.bundles.items) (sym c.deref-2.ensures.value)
    ∙ ap (λ (bs : List BundleUpdate). first_chain_in c.deref.result.now c.deref-2.result.now bs) (sym c.deref-3.ensures.value)
    ∙ c.in-Some.ensures
    ∙ ap (λ (t : List ℕ). Some (chain_at c.in-Some.chain.kind t c.in-Some.chain.second.now)) (sym c.in_ok-from_bytes.ensures)
    ∙ ap (λ (t : List ℕ). Some (chain_at c.in-Some.chain.kind c.in_ok-from_bytes.field-0 t)) (sym c.in_ok-from_bytes-2.ensures))

pub returns-clause-built : goal.returns-clause-built
returns-clause-built c = ap (unless_chain (rules_of c.args.rules.renames.items c.args.rules.versions.items c.args.rules.bundles.items c.args.rules.direct.items c.args.rules.selection c.args.rules.texts))
    (chain_is c.args.rules.renames.items c.args.rules.versions.items c.args.rules.bundles.items c.args.rules.direct.items c.args.rules.selection c.args.rules.texts c.requires.bundles c.requires.direct
    ∙ ap (λ (rs : List Renaming). first_chain_in rs c.args.rules.direct.items c.args.rules.bundles.items) (sym c.deref.ensures.value)
    ∙ ap (λ (ds : List Exchange). first_chain_in c.deref.result.now ds c.args.rules.bundles.items) (sym c.deref-2.ensures.value)
    ∙ ap (λ (bs : List BundleUpdate). first_chain_in c.deref.result.now c.deref-2.result.now bs) (sym c.deref-3.ensures.value)
    ∙ c.in_default.ensures)

pub returns-clause-settled : goal.returns-clause-settled
returns-clause-settled c =
    settled_by c.args.rules.renames.items c.args.rules.versions.items c.args.rules.bundles.items c.args.rules.direct.items c.args.rules.selection c.args.rules.texts c.requires.renames c.requires.bundles c.requires.direct
    (ap (λ (rs : List Renaming). first_chain_in rs c.args.rules.direct.items c.args.rules.bundles.items) (sym c.deref.ensures.value)
    ∙ ap (λ (ds : List Exchange). first_chain_in c.deref.result.now ds c.args.rules.bundles.items) (sym c.deref-2.ensures.value)
    ∙ ap (λ (bs : List BundleUpdate). first_chain_in c.deref.result.now c.deref-2.result.now bs) (sym c.deref-3.ensures.value)
    ∙ c.in_default.ensures) c.requires.utf8 c.requires.packages c.requires.direct_utf8 c.requires.versioned c.requires.updated
