use Rattle.std.proofs.Common.{◌∙◌, Ok, ap, sym}
use Rattle.desk_packages.specs.Renames.{Renaming, key_of}
use Rattle.desk_rules.specs.RuleFiles.{renaming_from}
use Rattle.desk_rules.proofs.RenameEntries.{entry_formed, entry_key}
use Rattle.desk_rules.proofs.reading.PackageRenameFromEntry.from_entry.Goals as goal

pub new-requires : goal.new-requires
new-requires c = entry_formed c.args.key.now c.args.value.now c.in_ok-entry.entry c.in_ok-entry.ensures.read

pub returns-clause-read : goal.returns-clause-read
returns-clause-read c = ap renaming_from c.in_ok-entry.ensures.read ∙ ap (λ (r : Renaming). Ok r) (sym c.in_ok-new.ensures)

pub returns-clause-keyed : goal.returns-clause-keyed
returns-clause-keyed c = ap key_of c.in_ok-new.ensures ∙ entry_key c.args.key.now c.args.value.now c.in_ok-entry.entry c.in_ok-entry.ensures.read
