-- The texts of the report and of the faults. A text is the join of its pieces, and each line ends with LF.
use Rattle.std.specs.Prelude.{ℕ, List, [], ◌∷◌, ◌++◌, codes, decimal}
use Rattle.desk_base.specs.Names.{Text}
use Rattle.desk_base.specs.Shown.{shown}
use Rattle.desk_base.specs.declared.faults.CodeFault.{CodeFault}
use Rattle.desk_base.specs.declared.faults.CodeFault.TheVariants as code
use Rattle.hex.specs.Hex.{encode_lower}
use Rattle.desk_ledger.specs.declared.keeper.Header.{Header}
use Rattle.desk_report.specs.declared.lines.Detail.{Detail}
use Rattle.desk_report.specs.declared.lines.Detail.TheVariants.{Class, Service, Manifest, Texts, Copy}
use Rattle.desk_report.specs.declared.lines.ReportLine.{ReportLine}
use Rattle.desk_report.specs.declared.lines.ReportLine.TheVariants.{Written, Kept, Refused}
use Rattle.desk_report.specs.declared.lines.Reason.{Reason}
use Rattle.desk_report.specs.declared.lines.Reason.TheVariants.{Malformed, Overlong, PoolFull, Twins, BadLine, Unsettled, Code}
use Rattle.desk_report.specs.declared.lines.Summary.{Summary}
use Rattle.desk_report.specs.declared.status.Status.{Status}
use Rattle.desk_report.specs.declared.status.Status.TheVariants.{Done, Refusals, Memory, FolderFault, LedgerFault, OutputFault, Usage, NestedRoots, BadRules, Limit, PathClash, NameClash, Stranded, OtherRun, Moved, NotInvertible, Differs}
use Rattle.desk_report.specs.declared.status.LimitKind.{LimitKind}
use Rattle.desk_report.specs.declared.status.LimitKind.TheVariants.{Files, PathLength, FileSize, RuleFiles, RuleSize, Both}
use Rattle.desk_rules.specs.declared.InvertFault.{InvertFault}
use Rattle.desk_rules.specs.declared.InvertFault.TheVariants as invert
use Rattle.desk_report.specs.Joined.{joined, pair_pieces, placed_pieces}
use Rattle.desk_report.specs.RuleFaults.{rule_fault_pieces}
use Rattle.desk_report.specs.Kinds.{kind_name}

-- what a file's image is made of
abbrev pub detail_pieces : Detail → List Text
detail_pieces (Class renamed added odd links) =
    codes " class renamed=" ∷ decimal renamed ∷ codes " added=" ∷ decimal added ∷ codes " odd=" ∷ decimal odd ∷ codes " links=" ∷ decimal links ∷ codes "\n" ∷ []
detail_pieces (Service changed) = codes " service changed=" ∷ decimal changed ∷ codes "\n" ∷ []
detail_pieces (Manifest changed) = codes " manifest changed=" ∷ decimal changed ∷ codes "\n" ∷ []
detail_pieces (Texts changed) = codes " text changed=" ∷ decimal changed ∷ codes "\n" ∷ []
detail_pieces Copy = codes " copy\n" ∷ []

-- why a code array doesn't read as instructions
abbrev pub code_pieces : CodeFault → List Text
code_pieces (code.Opcode at) = placed_pieces (codes " code opcode at=") at
code_pieces (code.UnexpectedEnd at) = placed_pieces (codes " code short at=") at
code_pieces (code.Switch at) = placed_pieces (codes " code switch at=") at
code_pieces (code.Operand at) = placed_pieces (codes " code operand at=") at

-- why a file was refused
abbrev pub reason_pieces : Reason → List Text
reason_pieces (Malformed fault) = codes " malformed " ∷ kind_name fault.kind ∷ codes " at=" ∷ decimal fault.at ∷ codes "\n" ∷ []
reason_pieces (Overlong index length) = codes " overlong index=" ∷ decimal index ∷ codes " length=" ∷ decimal length ∷ codes "\n" ∷ []
reason_pieces (PoolFull count needed) = codes " pool-full count=" ∷ decimal count ∷ codes " needed=" ∷ decimal needed ∷ codes "\n" ∷ []
reason_pieces (Twins first second) = codes " twins first=" ∷ decimal first ∷ codes " second=" ∷ decimal second ∷ codes "\n" ∷ []
reason_pieces (BadLine at) = codes " bad-line at=" ∷ decimal at ∷ codes "\n" ∷ []
reason_pieces (Unsettled at) = codes " unsettled at=" ∷ decimal at ∷ codes "\n" ∷ []
reason_pieces (Code fault) = code_pieces fault

abbrev pub line_pieces : ReportLine → List Text
line_pieces (Written path target detail) = codes "written " ∷ shown path ∷ codes " " ∷ shown target ∷ detail_pieces detail
line_pieces (Kept path target) = codes "kept " ∷ shown path ∷ codes " " ∷ shown target ∷ codes "\n" ∷ []
line_pieces (Refused path reason) = codes "refused " ∷ shown path ∷ reason_pieces reason

-- the line of one file
abbrev pub line_text : ReportLine → Text
line_text line = joined (line_pieces line)

abbrev pub summary_pieces : Summary → List Text
summary_pieces s =
    codes "total files=" ∷ decimal s.files ∷ codes " written=" ∷ decimal s.written ∷ codes " kept=" ∷ decimal s.kept
    ∷ codes " refused=" ∷ decimal s.refused ∷ codes " renamed=" ∷ decimal s.renamed ∷ codes " added=" ∷ decimal s.added
    ∷ codes "\n" ∷ []

-- the line of the totals
abbrev pub summary_text : Summary → Text
summary_text s = joined (summary_pieces s)

-- a run by the roots of its source and target and the digest of its rules, with a piece behind it
abbrev pub header_pieces : Header → Text → List Text
header_pieces h behind = shown h.from ∷ codes " " ∷ shown h.to ∷ codes " " ∷ encode_lower h.rules.0 ∷ behind ∷ []

-- the name of a limit
abbrev pub limit_name : LimitKind → Text
limit_name Files = codes "files"
limit_name PathLength = codes "path-length"
limit_name FileSize = codes "file-size"
limit_name RuleFiles = codes "rule-files"
limit_name RuleSize = codes "rule-size"
limit_name Both = codes "both"

-- why rules have no inverse
abbrev pub invert_pieces : InvertFault → List Text
invert_pieces (invert.NotRenames file) = codes "migrate: 31 not renames " ∷ shown file ∷ codes "\n" ∷ []
invert_pieces invert.Nothing = codes "migrate: 31 nothing\n" ∷ []
invert_pieces (invert.Overlap first second) = pair_pieces (codes "migrate: 31 overlap ") first second

-- what a status is told by
abbrev pub fault_pieces : Status → List Text
fault_pieces Done = []
fault_pieces Refusals = []
fault_pieces Memory = codes "migrate: 10 out of memory\n" ∷ []
fault_pieces (FolderFault done) = codes "migrate: 11 folder fault done=" ∷ decimal done ∷ codes "\n" ∷ []
fault_pieces (LedgerFault done) = codes "migrate: 12 ledger fault done=" ∷ decimal done ∷ codes "\n" ∷ []
fault_pieces OutputFault = codes "migrate: 13 output fault\n" ∷ []
fault_pieces Usage = codes "migrate: 20 usage: migrate run --rules R --from A --to B --ledger L [--workers N] [--verify] or migrate generate --count N [--workers N] [--sql] or migrate calls --from A --package P or migrate compare --rules R --from A --other B or migrate invert --rules R\n" ∷ []
fault_pieces (NestedRoots first second) = pair_pieces (codes "migrate: 21 nested roots ") first second
fault_pieces (BadRules fault) = rule_fault_pieces fault
fault_pieces (Limit kind path) = codes "migrate: 23 limit " ∷ limit_name kind ∷ codes " " ∷ shown path ∷ codes "\n" ∷ []
fault_pieces (PathClash first second) = pair_pieces (codes "migrate: 24 path clash ") first second
fault_pieces (NameClash defined other image) = codes "migrate: 25 name clash " ∷ shown defined ∷ codes " " ∷ shown other ∷ codes " " ∷ shown image ∷ codes "\n" ∷ []
fault_pieces (Stranded path name) = pair_pieces (codes "migrate: 26 stranded ") path name
fault_pieces (OtherRun kept wanted) = codes "migrate: 27 other run kept " ∷ header_pieces kept (codes " wanted ") ++ header_pieces wanted (codes "\n")
fault_pieces (Moved path first second) = codes "migrate: 28 moved " ∷ shown path ∷ codes " " ∷ encode_lower first.0 ∷ codes " " ∷ encode_lower second.0 ∷ codes "\n" ∷ []
fault_pieces (NotInvertible fault) = invert_pieces fault
fault_pieces (Differs path) = []

-- the line of a fault; Done, Refusals and Differs have none
abbrev pub fault_text : Status → Text
fault_text status = joined (fault_pieces status)

-- the exit status
abbrev pub code_of : Status → ℕ
code_of Done = 0
code_of Refusals = 2
code_of Memory = 10
code_of (FolderFault done) = 11
code_of (LedgerFault done) = 12
code_of OutputFault = 13
code_of Usage = 20
code_of (NestedRoots first second) = 21
code_of (BadRules fault) = 22
code_of (Limit kind path) = 23
code_of (PathClash first second) = 24
code_of (NameClash defined other image) = 25
code_of (Stranded path name) = 26
code_of (OtherRun kept wanted) = 27
code_of (Moved path first second) = 28
code_of (NotInvertible fault) = 31
code_of (Differs path) = 3
