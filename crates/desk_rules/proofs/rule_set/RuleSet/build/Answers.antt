use Rattle.std.proofs.lemmas.Result.{err_from_is_err_and}
use Rattle.desk_rules.specs.RuleSets.{rules_of}
use Rattle.desk_rules.specs.RuleFiles.{rules_of_files, settled}
use Rattle.desk_rules.proofs.Faults.{read_whole, refused_whole}
use Rattle.desk_rules.proofs.Builds.{versions_refused, bundles_refused, direct_refused, selection_refused, texts_refused, all_read}
use Rattle.desk_rules.proofs.Utf8Rules.{renames_utf8, renames_written, direct_utf8}
use Rattle.desk_rules.proofs.FormedEntries.{versions_formed, updates_formed}
use Rattle.desk_rules.proofs.rule_set.RuleSet.build.Goals as goal

pub settled-requires-clause-utf8 : goal.settled-requires-clause-utf8
settled-requires-clause-utf8 c = renames_utf8 c.args.files.now c.in_ok-renames.renames.items c.in_ok-renames.ensures.read

pub settled-requires-clause-packages : goal.settled-requires-clause-packages
settled-requires-clause-packages c = renames_written c.args.files.now c.in_ok-renames.renames.items c.in_ok-renames.ensures.read

pub settled-requires-clause-direct_utf8 : goal.settled-requires-clause-direct_utf8
settled-requires-clause-direct_utf8 c = direct_utf8 c.args.files.now c.in_ok-direct.direct.items c.in_ok-direct.ensures.read

pub settled-requires-clause-versioned : goal.settled-requires-clause-versioned
settled-requires-clause-versioned c = versions_formed c.args.files.now c.in_ok-versions.versions.items c.in_ok-versions.ensures.read

pub settled-requires-clause-updated : goal.settled-requires-clause-updated
settled-requires-clause-updated c = updates_formed c.args.files.now c.in_ok-bundles.bundles.items c.in_ok-bundles.ensures.read

pub returns-in_err-versions-clause-refused : goal.returns-in_err-versions-clause-refused
returns-in_err-versions-clause-refused c =
    let p = err_from_is_err_and c.from_residual-in_err-versions.result c.from_residual-in_err-versions.ensures.1 in
    rw (p.1, p.2) (versions_refused c.args.files.now c.in_ok-renames.renames.items c.in_ok-renames.ensures.read c.in_err-versions.field-0.0 c.in_err-versions.ensures.refused)

pub returns-in_err-bundles-clause-refused : goal.returns-in_err-bundles-clause-refused
returns-in_err-bundles-clause-refused c =
    let p = err_from_is_err_and c.from_residual-in_err-bundles.result c.from_residual-in_err-bundles.ensures.1 in
    rw (p.1, p.2) (bundles_refused c.args.files.now c.in_ok-renames.renames.items c.in_ok-renames.ensures.read c.in_ok-versions.versions.items c.in_ok-versions.ensures.read c.in_err-bundles.field-0.0 c.in_err-bundles.ensures.refused)

pub returns-in_err-direct-clause-refused : goal.returns-in_err-direct-clause-refused
returns-in_err-direct-clause-refused c =
    let p = err_from_is_err_and c.from_residual-in_err-direct.result c.from_residual-in_err-direct.ensures.1 in
    rw (p.1, p.2) (direct_refused c.args.files.now c.in_ok-renames.renames.items c.in_ok-renames.ensures.read c.in_ok-versions.versions.items c.in_ok-versions.ensures.read c.in_ok-bundles.bundles.items c.in_ok-bundles.ensures.read c.in_err-direct.field-0.0 c.in_err-direct.ensures.refused)

pub returns-in_err-selection-clause-refused : goal.returns-in_err-selection-clause-refused
returns-in_err-selection-clause-refused c =
    let p = err_from_is_err_and c.from_residual-in_err-selection.result c.from_residual-in_err-selection.ensures.1 in
    rw (p.1, p.2) (selection_refused c.args.files.now c.in_ok-renames.renames.items c.in_ok-renames.ensures.read c.in_ok-versions.versions.items c.in_ok-versions.ensures.read c.in_ok-bundles.bundles.items c.in_ok-bundles.ensures.read c.in_ok-direct.direct.items c.in_ok-direct.ensures.read c.in_err-selection.field-0.0 c.in_err-selection.ensures.refused)

pub returns-in_err-texts-clause-refused : goal.returns-in_err-texts-clause-refused
returns-in_err-texts-clause-refused c =
    let p = err_from_is_err_and c.from_residual-in_err-texts.result c.from_residual-in_err-texts.ensures.1 in
    rw (p.1, p.2) (texts_refused c.args.files.now c.in_ok-renames.renames.items c.in_ok-renames.ensures.read c.in_ok-versions.versions.items c.in_ok-versions.ensures.read c.in_ok-bundles.bundles.items c.in_ok-bundles.ensures.read c.in_ok-direct.direct.items c.in_ok-direct.ensures.read c.in_ok-selection.selection c.in_ok-selection.ensures.read c.in_err-texts.field-0.0 c.in_err-texts.ensures.refused)

pub returns-clause-built : goal.returns-clause-built
returns-clause-built c =
    read_whole (rules_of_files c.args.files.now) (settled (rules_of c.in_ok-renames.renames.items c.in_ok-versions.versions.items c.in_ok-bundles.bundles.items c.in_ok-direct.direct.items c.in_ok-selection.selection c.in_ok-texts.texts)) (λ rules. rules) c.settled.result
    (all_read c.args.files.now c.in_ok-renames.renames.items c.in_ok-renames.ensures.read c.in_ok-versions.versions.items c.in_ok-versions.ensures.read c.in_ok-bundles.bundles.items c.in_ok-bundles.ensures.read c.in_ok-direct.direct.items c.in_ok-direct.ensures.read c.in_ok-selection.selection c.in_ok-selection.ensures.read c.in_ok-texts.texts c.in_ok-texts.ensures.read) c.settled.ensures.built

pub returns-clause-refused : goal.returns-clause-refused
returns-clause-refused c =
    refused_whole (rules_of_files c.args.files.now) (settled (rules_of c.in_ok-renames.renames.items c.in_ok-versions.versions.items c.in_ok-bundles.bundles.items c.in_ok-direct.direct.items c.in_ok-selection.selection c.in_ok-texts.texts)) c.settled.result
    (all_read c.args.files.now c.in_ok-renames.renames.items c.in_ok-renames.ensures.read c.in_ok-versions.versions.items c.in_ok-versions.ensures.read c.in_ok-bundles.bundles.items c.in_ok-bundles.ensures.read c.in_ok-direct.direct.items c.in_ok-direct.ensures.read c.in_ok-selection.selection c.in_ok-selection.ensures.read c.in_ok-texts.texts c.in_ok-texts.ensures.read) c.settled.ensures.refused
