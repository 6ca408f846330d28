-- Rows of the texts, computed.
use Rattle.std.proofs.Common.{ℕ, ◌≡◌, [], ◌∷◌, ◌++◌, refl}
use Rattle.std.specs.Prelude.{codes, replicate}
use Rattle.std.specs.Fmt.{digits}
use Rattle.hex.specs.Hex.{encode_with}
use Rattle.desk_base.specs.Names.{Text}
use Rattle.desk_base.specs.Shown.{shown}
use Rattle.desk_properties.specs.declared.PropFault.TheVariants.{NotUtf8, Escape}
use Rattle.desk_chains.specs.declared.ChainKind.TheVariants.{RenameThenRename}
use Rattle.desk_rules.specs.declared.RuleFault.TheVariants.{NoRenames, Properties, BadKey, BadValue, MissingText, Chain}
use Rattle.desk_ledger.specs.declared.keeper.Header.{Header}
use Rattle.desk_report.specs.declared.lines.Detail.TheVariants.{Class, Service, Manifest, Texts, Copy}
use Rattle.desk_report.specs.declared.lines.ReportLine.TheVariants.{Written, Kept, Refused}
use Rattle.desk_report.specs.declared.lines.Reason.TheVariants.{Malformed, Overlong, PoolFull, Twins, BadLine, Unsettled}
use Rattle.desk_base.specs.declared.faults.FaultKind.TheVariants as kinds
use Rattle.desk_report.specs.declared.status.LimitKind.TheVariants.{Files, PathLength, FileSize, RuleFiles, RuleSize, Both}
use Rattle.desk_report.specs.declared.status.Status.TheVariants.{Done, Refusals, Memory, FolderFault, LedgerFault, OutputFault, Usage, NestedRoots, BadRules, Limit, PathClash, NameClash, Stranded, OtherRun, Moved, Differs}
use Rattle.desk_report.specs.Texts.{line_text, summary_text, fault_text}

-- a plain text stands for itself
shown_plain : shown (codes "a/b.txt") ≡ codes "a/b.txt"
shown_plain = refl

shown_empty : shown [] ≡ 92 ∷ 45 ∷ []
shown_empty = refl

-- a space, `\`, 0x7F, 0xC3, LF and 0xFF
shown_others : shown (32 ∷ 92 ∷ 0x7F ∷ 0xC3 ∷ 10 ∷ 0xFF ∷ [])
    ≡ 92 ∷ codes "20" ++ 92 ∷ codes "5c" ++ 92 ∷ codes "7f" ++ 92 ∷ codes "c3" ++ 92 ∷ codes "0a" ++ 92 ∷ codes "ff"
shown_others = refl

written_service : line_text (Written (codes "META-INF/services/javax.servlet.Filter") (codes "META-INF/services/jakarta.servlet.Filter") (Service 1))
    ≡ codes "written META-INF/services/javax.servlet.Filter META-INF/services/jakarta.servlet.Filter service changed=1\n"
unfolding digits
written_service = refl

written_copy : line_text (Written (codes "readme.txt") (codes "readme.txt") Copy) ≡ codes "written readme.txt readme.txt copy\n"
written_copy = refl

written_class : line_text (Written (codes "WEB-INF/classes/web/Hello.class") (codes "WEB-INF/classes/web/Hello.class") (Class 5 0 0 1))
    ≡ codes "written WEB-INF/classes/web/Hello.class WEB-INF/classes/web/Hello.class class renamed=5 added=0 odd=0 links=1\n"
unfolding digits
written_class = refl

kept_line : line_text (Kept (codes "a") (codes "a")) ≡ codes "kept a a\n"
kept_line = refl

refused_line : line_text (Refused (codes "META-INF/services/x") (BadLine 0)) ≡ codes "refused META-INF/services/x bad-line at=0\n"
unfolding digits
refused_line = refl

malformed_line : line_text (Refused (codes "A.class") (Malformed (record { kind = kinds.AttributeLength; at = 104 }))) ≡ codes "refused A.class malformed attribute-length at=104\n"
unfolding digits
malformed_line = refl

overlong_line : line_text (Refused (codes "A.class") (Overlong 2 65536)) ≡ codes "refused A.class overlong index=2 length=65536\n"
unfolding digits
overlong_line = refl

full_line : line_text (Refused (codes "A.class") (PoolFull 65535 1)) ≡ codes "refused A.class pool-full count=65535 needed=1\n"
unfolding digits
full_line = refl

twins_line : line_text (Refused (codes "A.class") (Twins 95 103)) ≡ codes "refused A.class twins first=95 second=103\n"
unfolding digits
twins_line = refl

unsettled_line : line_text (Refused (codes "web.xml") (Unsettled 0)) ≡ codes "refused web.xml unsettled at=0\n"
unfolding digits
unsettled_line = refl

written_manifest : line_text (Written (codes "META-INF/MANIFEST.MF") (codes "META-INF/MANIFEST.MF") (Manifest 4)) ≡ codes "written META-INF/MANIFEST.MF META-INF/MANIFEST.MF manifest changed=4\n"
unfolding digits
written_manifest = refl

written_text : line_text (Written (codes "web.xml") (codes "web.xml") (Texts 2)) ≡ codes "written web.xml web.xml text changed=2\n"
unfolding digits
written_text = refl

total_line : summary_text (record { files = 5001; written = 5000; kept = 1; refused = 0; renamed = 25000; added = 18446744073709551615 })
    ≡ codes "total files=5001 written=5000 kept=1 refused=0 renamed=25000 added=18446744073709551615\n"
unfolding digits
total_line = refl

fault_0 : fault_text Done ≡ []
fault_0 = refl

fault_2 : fault_text Refusals ≡ []
fault_2 = refl

fault_10 : fault_text Memory ≡ codes "migrate: 10 out of memory\n"
fault_10 = refl

fault_11 : fault_text (FolderFault 2) ≡ codes "migrate: 11 folder fault done=2\n"
unfolding digits
fault_11 = refl

fault_12 : fault_text (LedgerFault 0) ≡ codes "migrate: 12 ledger fault done=0\n"
unfolding digits
fault_12 = refl

fault_13 : fault_text OutputFault ≡ codes "migrate: 13 output fault\n"
fault_13 = refl

fault_20 : fault_text Usage ≡ codes "migrate: 20 usage: migrate run --rules R --from A --to B --ledger L [--workers N] [--verify] or migrate generate --count N [--workers N] [--sql] or migrate calls --from A --package P or migrate compare --rules R --from A --other B or migrate invert --rules R\n"
fault_20 = refl

fault_21 : fault_text (NestedRoots (codes "in") (codes "in/x")) ≡ codes "migrate: 21 nested roots in in/x\n"
fault_21 = refl

fault_22_renames : fault_text (BadRules NoRenames) ≡ codes "migrate: 22 no renames\n"
fault_22_renames = refl

fault_22_utf8 : fault_text (BadRules (Properties (codes "renames.properties") (NotUtf8 7))) ≡ codes "migrate: 22 properties renames.properties not-utf8 7\n"
unfolding digits
fault_22_utf8 = refl

fault_22_escape : fault_text (BadRules (Properties (codes "renames.properties") (Escape 1))) ≡ codes "migrate: 22 properties renames.properties escape 1\n"
unfolding digits
fault_22_escape = refl

fault_22_key : fault_text (BadRules (BadKey (codes "renames.properties") (codes "a..b"))) ≡ codes "migrate: 22 bad key renames.properties a..b\n"
fault_22_key = refl

fault_22_value : fault_text (BadRules (BadValue (codes "renames.properties") (codes "a"))) ≡ codes "migrate: 22 bad value renames.properties a\n"
fault_22_value = refl

fault_22_text : fault_text (BadRules (MissingText (codes "*.xml") (codes "x y"))) ≡ codes "migrate: 22 missing text *.xml x\\20y\n"
fault_22_text = refl

fault_22_chain : fault_text (BadRules (Chain RenameThenRename (codes "a.*") (codes "a.*"))) ≡ codes "migrate: 22 chain 1 a.* a.*\n"
unfolding digits
fault_22_chain = refl

fault_23_files : fault_text (Limit Files (codes "in")) ≡ codes "migrate: 23 limit files in\n"
fault_23_files = refl

fault_23_path : fault_text (Limit PathLength (codes "a")) ≡ codes "migrate: 23 limit path-length a\n"
fault_23_path = refl

fault_23_size : fault_text (Limit FileSize (codes "a")) ≡ codes "migrate: 23 limit file-size a\n"
fault_23_size = refl

fault_23_rules : fault_text (Limit RuleFiles (codes "r")) ≡ codes "migrate: 23 limit rule-files r\n"
fault_23_rules = refl

fault_23_rule : fault_text (Limit RuleSize (codes "x")) ≡ codes "migrate: 23 limit rule-size x\n"
fault_23_rule = refl

fault_23_both : fault_text (Limit Both (codes "a")) ≡ codes "migrate: 23 limit both a\n"
fault_23_both = refl

fault_3 : fault_text (Differs (codes "a")) ≡ []
fault_3 = refl

fault_24 : fault_text (PathClash (codes "jakarta/x/a.txt") (codes "javax/x/a.txt")) ≡ codes "migrate: 24 path clash jakarta/x/a.txt javax/x/a.txt\n"
fault_24 = refl

fault_25 : fault_text (NameClash (codes "jakarta/x/C") (codes "javax/x/C") (codes "jakarta/x/C")) ≡ codes "migrate: 25 name clash jakarta/x/C javax/x/C jakarta/x/C\n"
fault_25 = refl

fault_26 : fault_text (Stranded (codes "a.jar/javax/servlet/F.class") (codes "javax/servlet/F")) ≡ codes "migrate: 26 stranded a.jar/javax/servlet/F.class javax/servlet/F\n"
fault_26 = refl

abbrev run_of : Text → Text → ℕ → Header
run_of from to byte = record { from = from; to = to; rules = record { 0 = replicate 32 byte } }

fault_27 : fault_text (OtherRun (run_of (codes "in") (codes "out") 10) (run_of (codes "in") (codes "out") 0xAB))
    ≡ codes "migrate: 27 other run kept in out 0a0a0a0a0a0a0a0a0a0a0a0a0a0a0a0a0a0a0a0a0a0a0a0a0a0a0a0a0a0a0a0a wanted in out abababababababababababababababababababababababababababababababab\n"
unfolding encode_with
fault_27 = refl

fault_28 : fault_text (Moved (codes "f") (record { 0 = replicate 32 0xCA }) (record { 0 = replicate 32 0x3E }))
    ≡ codes "migrate: 28 moved f cacacacacacacacacacacacacacacacacacacacacacacacacacacacacacacaca 3e3e3e3e3e3e3e3e3e3e3e3e3e3e3e3e3e3e3e3e3e3e3e3e3e3e3e3e3e3e3e3e\n"
unfolding encode_with
fault_28 = refl
