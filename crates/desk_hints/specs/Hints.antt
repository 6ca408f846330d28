-- The hints behind a status.
use Rattle.std.specs.Prelude.{codes, Bool, true, false, Option, Some, None, if◌then◌else◌}
use Rattle.std.specs.Str.{bytes_eq}
use Rattle.desk_base.specs.Names.{Text}
use Rattle.desk_ledger.specs.declared.keeper.Header.{Header}
use Rattle.desk_properties.specs.declared.PropFault.{PropFault}
use Rattle.desk_properties.specs.declared.PropFault.TheVariants.{NotUtf8, Escape}
use Rattle.desk_chains.specs.declared.ChainKind.{ChainKind}
use Rattle.desk_chains.specs.declared.ChainKind.TheVariants as chain
use Rattle.desk_rules.specs.declared.RuleFault.{RuleFault}
use Rattle.desk_rules.specs.declared.RuleFault.TheVariants as rule
use Rattle.desk_rules.specs.declared.InvertFault.{InvertFault}
use Rattle.desk_rules.specs.declared.InvertFault.TheVariants as invert
use Rattle.desk_report.specs.declared.status.LimitKind.{LimitKind}
use Rattle.desk_report.specs.declared.status.LimitKind.TheVariants as limit
use Rattle.desk_report.specs.declared.status.Status.{Status}
use Rattle.desk_report.specs.declared.status.Status.TheVariants as status
use Rattle.desk_faults.specs.declared.fault.Fault.{Fault}
use Rattle.desk_faults.specs.declared.fault.Tried.{Tried}
use Rattle.desk_faults.specs.declared.fault.Tried.TheVariants as tried
use Rattle.desk_hints.specs.declared.listed.Listed.{Listed}
use Rattle.desk_hints.specs.declared.listed.Listed.TheVariants as listed
use Rattle.desk_hints.specs.declared.hints.Hint.{Hint}
use Rattle.desk_hints.specs.declared.hints.Hint.TheVariants as hint

-- what stands against a run, and what to do
abbrev pub hint_text : Hint → Text
hint_text hint.Refusals = codes "migrate: some files were refused, and nothing was written for them\n         the target isn't ready to be used until each line `refused` is dealt with: see the counts by reason\n"
hint_text hint.Differs = codes "migrate: the other application isn't what the rules make of this one: the line `differs` names the first path that differs, and how\n         let `migrate run` write that file, and compare both by `javap -v -p`: order, duplicates and unused entries of a constant pool don't count\n"
hint_text hint.Memory = codes "migrate: memory ran out, so the run stopped\n         give it more memory and run again: what was written and noted in the ledger is kept\n"
hint_text hint.Folders = codes "migrate: a file or folder could not be used as it should, so the run stopped\n         put right what is said above and run again: what was done is kept\n"
hint_text hint.FileAsFolder = codes "migrate: it is a file, and a folder is wanted, so nothing was begun; an archive is unpacked first: tools/unpack.py ARCHIVE FOLDER\n         run again with that folder in its place\n"
hint_text hint.NoFolder = codes "migrate: there is no such folder, so nothing was begun\n         mend its name, or make it: an archive is unpacked by tools/unpack.py ARCHIVE FOLDER\n"
hint_text hint.Ledger = codes "migrate: the ledger could not be used, so the run stopped\n         put right what is said above and run again, or name another ledger, which starts anew\n"
hint_text hint.Output = codes "migrate: standard output took no more, so the report isn't whole; all files are done\n         run again with an output that takes it: the files are kept, and the report is printed\n"
hint_text hint.Usage = codes "migrate: these words ask for nothing that can be done\n         give the words as in the line of usage; docs/REFERENCE.md says each\n"
hint_text hint.Nested = codes "migrate: no root may lie where another would be changed: source and target, rules and target, the ledger in any\n         name a target and a ledger that lie in none of the other folders\n"
hint_text hint.NoRenames = codes "migrate: the rule folder has no `renames.properties`, or it has no key\n         write into it a line for each package, as `javax.servlet.*=jakarta.servlet`\n"
hint_text hint.NotUtf8 = codes "migrate: a rule file isn't in UTF-8, from the byte on that is told\n         store the file in UTF-8 without a byte order mark\n"
hint_text hint.Escape = codes "migrate: a rule file has a `\\u` that isn't followed by four hexadecimal digits of a character, at the byte that is told\n         write the character itself, or two backslashes where one is meant\n"
hint_text hint.BadPackage = codes "migrate: a key of `renames.properties` isn't a package\n         mend that line: a package is identifiers joined by `.`, with `.*` at its end for all below it\n"
hint_text hint.BadKey = codes "migrate: a key of a rule file hasn't the form that the file asks for\n         mend that line: docs/REFERENCE.md lists for each file what a key may be\n"
hint_text hint.BadValue = codes "migrate: a value of a rule file hasn't the form that the file asks for\n         mend that line: docs/REFERENCE.md lists for each file what a value may be\n"
hint_text hint.MissingText = codes "migrate: `text.properties` names a file that the rule folder lacks\n         add the file, or mend its name\n"
hint_text hint.Chain1 = codes "migrate: rules must not change what another rule gives: the first rename gives a package that the second renames\n         let the first give the last name at once, or remove one of the two\n"
hint_text hint.Chain2 = codes "migrate: rules must not change what another rule gives: a rename gives a name that a direct rule changes\n         remove one of the two rules, or let both give the same name\n"
hint_text hint.Chain3 = codes "migrate: rules must not change what another rule gives: a direct rule gives a string that the second direct rule changes\n         let the first give the last string at once, or remove one of the two\n"
hint_text hint.Chain4 = codes "migrate: rules must not change what another rule gives: a direct rule gives a name that a rename changes\n         let the direct rule give the renamed name, or remove one of the two\n"
hint_text hint.Chain5 = codes "migrate: rules must not change what another rule gives: a bundle update gives a name that the second update changes\n         let the first give the last name at once, or remove one of the two\n"
hint_text hint.Chain6 = codes "migrate: the package that the first rename gives is itself, read as a class name, renamed by the second\n         give the first another package, or remove one of the two\n"
hint_text hint.Chain7 = codes "migrate: the first rename gives, read as a class name, the very package that the second renames\n         give the first another package, or remove one of the two\n"
hint_text hint.Chain8 = codes "migrate: the package that a rename gives is a string that a direct rule changes\n         remove the direct rule, or give the rename another package\n"
hint_text hint.Chain9 = codes "migrate: a direct rule gives the package of a rename, which would change it once more\n         let the direct rule give the new package, or remove it\n"
hint_text hint.Files = codes "migrate: the source holds more than 200,000 files\n         migrate it in parts, each with a target and a ledger of its own\n"
hint_text hint.PathLength = codes "migrate: a path of the source, or its target, has more than 1,024 bytes\n         shorten the names of its folders, or leave the file out of the source\n"
hint_text hint.FileSize = codes "migrate: a file of the source is too large: one that is migrated may have 67,108,864 bytes, another 1,099,511,627,776\n         leave it out of the source, and copy it by hand\n"
hint_text hint.RuleFiles = codes "migrate: the rule folder holds more than 1,000 files\n         keep nothing but rule files there\n"
hint_text hint.RuleSize = codes "migrate: a rule file has more than 1,048,576 bytes\n         keep nothing but rule files there, or split a long one\n"
hint_text hint.Both = codes "migrate: the files of the two applications have more than 1,073,741,824 bytes together\n         compare them part by part, as folder by folder\n"
hint_text hint.NameClash = codes "migrate: a class of the source and another name that it uses would get one name\n         change the rules so that the two stay apart, or leave the class out by `selection.properties`\n"
hint_text hint.Stranded = codes "migrate: a class that is left out by `selection.properties` names a class of the source that is renamed, and would not find it\n         select that class too, or leave out the class that it names\n"
hint_text hint.Clash = codes "migrate: two files of the source would get one target, or the target of one would be a folder of the other's\n         rename or remove one of the two, or leave one out by `selection.properties`\n"
hint_text hint.Other = codes "migrate: the ledger belongs to another run\n         name what it was made with, or another ledger: another one starts anew, and writes every file\n"
hint_text hint.OtherRules = codes "migrate: the ledger belongs to a run with other rules\n         name what it was made with, or another ledger: another one starts anew, and writes every file\n"
hint_text hint.OtherTarget = codes "migrate: the ledger belongs to a run with another target\n         name what it was made with, or another ledger: another one starts anew, and writes every file\n"
hint_text hint.OtherTargetRules = codes "migrate: the ledger belongs to a run with other target and rules\n         name what it was made with, or another ledger: another one starts anew, and writes every file\n"
hint_text hint.OtherSource = codes "migrate: the ledger belongs to a run with another source\n         name what it was made with, or another ledger: another one starts anew, and writes every file\n"
hint_text hint.OtherSourceRules = codes "migrate: the ledger belongs to a run with other source and rules\n         name what it was made with, or another ledger: another one starts anew, and writes every file\n"
hint_text hint.OtherSourceTarget = codes "migrate: the ledger belongs to a run with other source and target\n         name what it was made with, or another ledger: another one starts anew, and writes every file\n"
hint_text hint.OtherSourceTargetRules = codes "migrate: the ledger belongs to a run with other source, target and rules\n         name what it was made with, or another ledger: another one starts anew, and writes every file\n"
hint_text hint.Moved = codes "migrate: a file of the source changed while the run read it\n         run again once nothing writes to the source\n"
hint_text hint.NotRenames = codes "migrate: the rules have more than renames, and only renames can be taken back\n         take that file out, or invert a folder that holds `renames.properties` alone\n"
hint_text hint.NothingToInvert = codes "migrate: no rename of the rules changes its package, so there is nothing to take back\n         name rules that rename a package to another one\n"
hint_text hint.Overlap = codes "migrate: two renames give one package, or a name in it, so it can not be told which of them to take back\n         give them targets of which neither is, or holds, what the other gives\n"

-- the hint of a chain of rules, by its kind
abbrev pub chain_hint : ChainKind → Hint
chain_hint chain.RenameThenRename = hint.Chain1
chain_hint chain.RenameThenDirect = hint.Chain2
chain_hint chain.DirectThenDirect = hint.Chain3
chain_hint chain.DirectThenRename = hint.Chain4
chain_hint chain.BundleThenBundle = hint.Chain5
chain_hint chain.PackageThenName = hint.Chain6
chain_hint chain.NameThenPackage = hint.Chain7
chain_hint chain.PackageThenDirect = hint.Chain8
chain_hint chain.DirectThenPackage = hint.Chain9

-- the hint of a file that isn't one of properties
abbrev pub prop_hint : PropFault → Hint
prop_hint (NotUtf8 at) = hint.NotUtf8
prop_hint (Escape at) = hint.Escape

-- the hint of a key that hasn't the form that its rule file asks for
abbrev pub key_hint : Text → Hint
key_hint file = if bytes_eq file (codes "renames.properties") then hint.BadPackage else hint.BadKey

-- the hint of a fault of rule files
abbrev pub rule_hint : RuleFault → Hint
rule_hint rule.NoRenames = hint.NoRenames
rule_hint (rule.Properties file fault) = prop_hint fault
rule_hint (rule.BadKey file key) = key_hint file
rule_hint (rule.BadValue file key) = hint.BadValue
rule_hint (rule.MissingText key name) = hint.MissingText
rule_hint (rule.Chain kind first second) = chain_hint kind

-- the hint of a limit
abbrev pub limit_hint : LimitKind → Hint
limit_hint limit.Files = hint.Files
limit_hint limit.PathLength = hint.PathLength
limit_hint limit.FileSize = hint.FileSize
limit_hint limit.RuleFiles = hint.RuleFiles
limit_hint limit.RuleSize = hint.RuleSize
limit_hint limit.Both = hint.Both

-- the hint of a ledger of another run, by what of source, target and rules is the same
abbrev pub same_hint : Bool → Bool → Bool → Hint
same_hint true true true = hint.Other
same_hint true true false = hint.OtherRules
same_hint true false true = hint.OtherTarget
same_hint true false false = hint.OtherTargetRules
same_hint false true true = hint.OtherSource
same_hint false true false = hint.OtherSourceRules
same_hint false false true = hint.OtherSourceTarget
same_hint false false false = hint.OtherSourceTargetRules

abbrev pub other_hint : Header → Header → Hint
other_hint kept wanted = same_hint (bytes_eq kept.from wanted.from) (bytes_eq kept.to wanted.to) (bytes_eq kept.rules.0 wanted.rules.0)

-- the hint of rules that have no inverse
abbrev pub invert_hint : InvertFault → Hint
invert_hint (invert.NotRenames file) = hint.NotRenames
invert_hint invert.Nothing = hint.NothingToInvert
invert_hint (invert.Overlap first second) = hint.Overlap

-- the hint of a status
abbrev pub hint_of : Status → Option Hint
hint_of status.Done = None
hint_of status.Refusals = Some hint.Refusals
hint_of (status.Differs path) = Some hint.Differs
hint_of status.Memory = Some hint.Memory
hint_of (status.FolderFault done) = Some hint.Folders
hint_of (status.LedgerFault done) = Some hint.Ledger
hint_of status.OutputFault = Some hint.Output
hint_of status.Usage = Some hint.Usage
hint_of (status.NestedRoots first second) = Some hint.Nested
hint_of (status.BadRules fault) = Some (rule_hint fault)
hint_of (status.Limit kind path) = Some (limit_hint kind)
hint_of (status.PathClash first second) = Some hint.Clash
hint_of (status.NameClash defined other image) = Some hint.NameClash
hint_of (status.Stranded path name) = Some hint.Stranded
hint_of (status.OtherRun kept wanted) = Some (other_hint kept wanted)
hint_of (status.Moved path first second) = Some hint.Moved
hint_of (status.NotInvertible fault) = Some (invert_hint fault)

-- what stood where a folder was listed, by the system's words
abbrev pub listed_by : Text → Listed
listed_by words =
    if bytes_eq words (codes "Not a directory") then listed.File
    else if bytes_eq words (codes "No such file or directory") then listed.Nothing
    else listed.Unknown

-- what stood where a folder was listed, by what was tried and the system's words
abbrev pub listed_as : Tried → Text → Listed
listed_as tried.Listing words = listed_by words
listed_as other words = listed.Unknown

-- the hint of a fault of the folders
abbrev pub folder_hint : Listed → Hint
folder_hint listed.File = hint.FileAsFolder
folder_hint listed.Nothing = hint.NoFolder
folder_hint listed.Unknown = hint.Folders

-- the hint of a status, by what is known of the folder that was listed
abbrev pub hint_behind : Status → Listed → Option Hint
hint_behind (status.FolderFault done) found = Some (folder_hint found)
hint_behind other found = hint_of other
