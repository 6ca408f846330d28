-- What queries are answered with: where classes use members of a package, the inverse of rules, and whether an application is what
-- rules make of another.
use Rattle.std.specs.Prelude.{◌≡◌, ◌⊎◌, ℕ, Bool, true, false, Option, Result, Ok, Err, IfSome, if◌then◌else◌}
use Rattle.desk_base.specs.Counts.{Rose}
use Rattle.desk_base.specs.Names.{Text, Package}
use Rattle.desk_folders.specs.Contents.{Contents, files_below}
use Rattle.desk_calls.specs.Answers.{calls_answer}
use Rattle.desk_calls.specs.declared.telling.Calls.{Calls}
use Rattle.desk_comparison.specs.Answers.{comparison}
use Rattle.desk_intake.specs.Rulings.{ruled}
use Rattle.desk_intake.specs.declared.rules.DigestedRules.{DigestedRules}
use Rattle.desk_intake.specs.declared.halts.Halt.{Halt}
use Rattle.desk_intake.specs.declared.halts.Halt.TheVariants as halt
use Rattle.desk_invert.specs.Answers.{inversion}
use Rattle.desk_invert.specs.declared.InvertError.{InvertError}
use Rattle.desk_invert.specs.declared.InvertError.TheVariants as error
use Rattle.desk_report.specs.declared.status.Status.{Status}
use Rattle.desk_report.specs.declared.status.Status.TheVariants.{Done, Refusals, Memory, FolderFault, OutputFault, BadRules, Limit, PathClash, NameClash, Stranded, NotInvertible, Differs}
use Rattle.desk_report.specs.Texts.{fault_text}
use Rattle.desk_report.specs.Written.{WritesFront, writing}
use Rattle.desk_rules.specs.declared.InvertFault.{InvertFault}
use Rattle.desk_words.specs.declared.roots.Query.{Query}
use Rattle.desk_words.specs.declared.roots.Query.TheVariants.{Calls as CallsOf, Compare, Invert}
use Rattle.desk_run.specs.Clauses.{TwoFronts}

-- the text that a query is answered with and the status behind it; or the status that stands against it
abbrev pub Answer : Type 0
Answer = Result (Text × Status) Status

-- ---- calls

abbrev pub calls_status : Calls → Status
calls_status calls = if calls.refused then Refusals else Done

abbrev pub told_calls : Result Calls Status → Answer
told_calls (Ok calls) = Ok (calls.text, calls_status calls)
told_calls (Err status) = Err status

-- the call sites of the classes below a root, with 2 exactly where a class is refused
abbrev pub calls_told : Text → Package → Contents → Answer
calls_told from scope m = told_calls (calls_answer scope from m)

-- ---- invert

abbrev pub told_inverse : Result Text InvertFault → Answer
told_inverse (Ok file) = Ok (file, Done)
told_inverse (Err fault) = Err (NotInvertible fault)

abbrev pub inverse_by : Result DigestedRules Status → Answer
inverse_by (Ok r) = told_inverse (inversion r.rules)
inverse_by (Err status) = Err status

-- the rule file of the inverse of the rules below a root
abbrev pub inverse_told : Text → Contents → Answer
inverse_told rules m = inverse_by (ruled rules (files_below rules m))

-- ---- any query

abbrev pub answer_of : Query → Contents → Answer
answer_of (CallsOf from scope) = calls_told from scope
answer_of (Invert rules) = inverse_told rules
answer_of (Compare rules from other) = comparison rules from other

abbrev pub status_of_answer : Answer → Status
status_of_answer (Ok told) = told.1
status_of_answer (Err against) = against

-- what a query ends with, unless a call fails or memory runs out
abbrev pub query_answer : Query → Contents → Status
query_answer asked m = status_of_answer (answer_of asked m)

-- a status that may stand against a query
abbrev pub stands_against : Query → Status → Bool
stands_against (CallsOf from scope) (Limit kind path) = true
stands_against (Invert rules) (Limit kind path) = true
stands_against (Invert rules) (BadRules fault) = true
stands_against (Invert rules) (NotInvertible fault) = true
stands_against (Compare rules from other) (BadRules fault) = true
stands_against (Compare rules from other) (Limit kind path) = true
stands_against (Compare rules from other) (PathClash first second) = true
stands_against (Compare rules from other) (NameClash defined held image) = true
stands_against (Compare rules from other) (Stranded path name) = true
stands_against _ _ = false

-- a text was written whole, and the status is that behind it
abbrev pub IsAnswered : Answer → Option Text → Option Text → Status → Type 0
IsAnswered (Ok told) old new status = (new ≡ writing told.0 old) × (told.1 ≡ status)
IsAnswered (Err against) old new status = ⊥

-- a front of it was written
abbrev pub IsBegun : Answer → Option Text → Option Text → Type 0
IsBegun (Ok told) old new = WritesFront told.0 old new
IsBegun (Err against) old new = ⊥

-- what a query leaves before the line of a fault is written: the text, or nothing
abbrev pub LeavesAnswer : Query → Option Contents → Option Text → Option Text → ℕ → ℕ → ℕ → ℕ → Status → Type 0
LeavesAnswer asked told old new f f' o o' Done = IfSome told (λ m. IsAnswered (answer_of asked m) old new Done)
LeavesAnswer asked told old new f f' o o' Refusals = IfSome told (λ m. IsAnswered (answer_of asked m) old new Refusals)
LeavesAnswer asked told old new f f' o o' (Differs path) = IfSome told (λ m. IsAnswered (answer_of asked m) old new (Differs path))
LeavesAnswer asked told old new f f' o o' OutputFault = Rose o o' × IfSome told (λ m. IsBegun (answer_of asked m) old new)
LeavesAnswer asked told old new f f' o o' Memory = new ≡ old
LeavesAnswer asked told old new f f' o o' (FolderFault done) = (done ≡ 0) × Rose f f' × (new ≡ old)
LeavesAnswer asked told old new f f' o o' status = (stands_against asked status ≡ true) × IfSome told (λ m. answer_of asked m ≡ Err status) × (new ≡ old)

-- a front of a text was written, and then a front of a line
abbrev pub IsBroken : Answer → Text → Option Text → Option Text → Type 0
IsBroken (Ok told) line old new = TwoFronts told.0 line old new
IsBroken (Err against) line old new = ⊥

-- a line was written, or a front of it where the count of the output's faults rose
abbrev pub WritesLine : Text → Option Text → Option Text → ℕ → ℕ → Type 0
WritesLine line old new o o' = (new ≡ writing line old) ⊎ (WritesFront line old new × Rose o o')

-- What a query ends with, where the folders tell their contents: exactly its text at 0, 2 and 3; the line of the status that stands
-- against it; a front of the text and one of the line of a failed output, where that count of faults rose; the line of a failed call
-- of the folders, where that count rose; or the line of want of memory.
abbrev pub AnswersQuery : Query → Option Contents → Option Text → Option Text → ℕ → ℕ → ℕ → ℕ → Status → Type 0
AnswersQuery asked told old new f f' o o' Done = IfSome told (λ m. IsAnswered (answer_of asked m) old new Done)
AnswersQuery asked told old new f f' o o' Refusals = IfSome told (λ m. IsAnswered (answer_of asked m) old new Refusals)
AnswersQuery asked told old new f f' o o' (Differs path) = IfSome told (λ m. IsAnswered (answer_of asked m) old new (Differs path))
AnswersQuery asked told old new f f' o o' OutputFault = Rose o o' × IfSome told (λ m. IsBroken (answer_of asked m) (fault_text OutputFault) old new)
AnswersQuery asked told old new f f' o o' Memory = WritesLine (fault_text Memory) old new o o'
AnswersQuery asked told old new f f' o o' (FolderFault done) = (done ≡ 0) × Rose f f' × WritesLine (fault_text (FolderFault done)) old new o o'
AnswersQuery asked told old new f f' o o' status = (stands_against asked status ≡ true) × IfSome told (λ m. answer_of asked m ≡ Err status) × WritesLine (fault_text status) old new o o'

-- ---- on the way

-- how a rule set without an inverse is told
abbrev pub halt_of_inverse : InvertError → Halt
halt_of_inverse (error.Fault fault) = halt.Answer (NotInvertible fault)
halt_of_inverse error.Memory = halt.Memory

-- there is no answer: want of memory, a fault of the folders, or a status that stands against the query
abbrev pub HaltsQuery : Query → Option Contents → ℕ → ℕ → Halt → Type 0
HaltsQuery asked told f f' halt.Memory = Unit {0}
HaltsQuery asked told f f' halt.Folders = Rose f f'
HaltsQuery asked told f f' (halt.Answer status) = (stands_against asked status ≡ true) × IfSome told (λ m. answer_of asked m ≡ Err status)
HaltsQuery asked told f f' _ = ⊥

-- what the writing of a text leaves, behind which stands this status
abbrev pub WritesText : Text → Status → Option Text → Option Text → ℕ → ℕ → Status → Type 0
WritesText text end old new o o' OutputFault = Rose o o' × WritesFront text old new
WritesText text end old new o o' status = (status ≡ end) × (new ≡ writing text old)
