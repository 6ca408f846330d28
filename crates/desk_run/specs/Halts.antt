-- Where the steps before the first write may halt.
use Rattle.std.specs.Prelude.{◌≡◌, ◌⊎◌, ℕ, List, Option, Some, None, Bool, true, false, Result, Ok, Err, IfSome, option_map, map}
use Rattle.desk_base.specs.Names.{Text}
use Rattle.desk_clashes.specs.Clashes.{first_clash}
use Rattle.desk_base.specs.Counts.{Rose}
use Rattle.desk_file.specs.Images.{target}
use Rattle.desk_file.specs.Treatments.{is_whole}
use Rattle.desk_folders.specs.Contents.{Contents, files_below}
use Rattle.desk_ledger.specs.declared.keeper.Header.{Header}
use Rattle.desk_ledger.specs.Ledger.{Ledger, with_header}
use Rattle.desk_report.specs.declared.status.Status.{Status}
use Rattle.desk_report.specs.declared.status.Status.TheVariants.{Usage, NestedRoots, BadRules, Limit, PathClash, OtherRun}
use Rattle.desk_words.specs.declared.roots.Roots.{Roots}
use Rattle.desk_run.specs.Asked.{Asked}
use Rattle.desk_readings.specs.declared.measured.MeasuredFile.{MeasuredFile}
use Rattle.desk_intake.specs.Halts.{HaltsWith, is_names_status}
use Rattle.desk_intake.specs.declared.halts.Halt.{Halt}
use Rattle.desk_intake.specs.declared.halts.Halt.TheVariants.{Memory, Folders, Ledger as LedgerHalt, Answer}
use Rattle.desk_intake.specs.declared.rules.DigestedRules.{DigestedRules}
use Rattle.desk_intake.specs.Rulings.{ruled}
use Rattle.desk_intake.specs.Standing.{clash_status}
use Rattle.desk_run.specs.Answers.{files_answer, first_answer, other_run, AskedCause}
use Rattle.desk_run.specs.Truth.{IsOurs}

-- at the files below a root
abbrev pub HaltsAtFiles : Text → (Text → Text) → (Text → Bool) → Option Contents → ℕ → ℕ → Halt → Type 0
HaltsAtFiles from target whole = HaltsWith (files_answer from target whole)

-- the paths of files that were read, and their targets
abbrev pub paths_in : List MeasuredFile → List Text
paths_in = map (λ file. file.route.path)

abbrev pub targets_in : List MeasuredFile → List Text
targets_in = map (λ file. file.route.target)

-- what stands against files that were read, by their targets
abbrev pub clash_of : List MeasuredFile → Option Status
clash_of files = clash_status (paths_in files) (first_clash (targets_in files))

-- where works are planned
abbrev pub HaltsPlanning : ℕ → ℕ → ℕ → ℕ → Halt → Type 0
HaltsPlanning f f' k k' Memory = Unit {0}
HaltsPlanning f f' k k' Folders = Rose f f'
HaltsPlanning f f' k k' LedgerHalt = Rose k k'
HaltsPlanning f f' k k' _ = ⊥

-- a status of the ledger
abbrev pub is_ledger_status : Status → Bool
is_ledger_status (OtherRun kept wanted) = true
is_ledger_status _ = false

-- at the ledger
abbrev pub HaltsAtLedger : Header → Option Ledger → ℕ → ℕ → Halt → Type 0
HaltsAtLedger ours told k k' Memory = Unit {0}
HaltsAtLedger ours told k k' LedgerHalt = Rose k k'
HaltsAtLedger ours told k k' (Answer status) = (is_ledger_status status ≡ true) × IfSome told (λ l. other_run ours l.header ≡ Some status)
HaltsAtLedger ours told k k' _ = ⊥

-- the name that is attached where a step halts
abbrev pub NamedAtHalt : Option Text → Option Text → Text → Halt → Type 0
NamedAtHalt old new name (Answer status) = new ≡ Some name
NamedAtHalt old new name _ = (new ≡ old) ⊎ (new ≡ Some name)

-- the name that is attached where the planning halts
abbrev pub NamedAtPlan : Option Text → Option Text → Text → Halt → Type 0
NamedAtPlan old new name (Answer (OtherRun kept wanted)) = new ≡ Some name
NamedAtPlan old new name (Answer status) = new ≡ old
NamedAtPlan old new name _ = (new ≡ old) ⊎ (new ≡ Some name)

-- what stands against a run by the rules of its folder, or by its files
abbrev pub reading_answer : Roots → Contents → Result DigestedRules Status → Option Status
reading_answer names m (Err status) = Some status
reading_answer names m (Ok ruled) = files_answer names.from (target ruled.rules) (is_whole ruled.rules) m

-- a status of the rule folder or of the files
abbrev pub is_read_status : Status → Bool
is_read_status (BadRules fault) = true
is_read_status (Limit kind path) = true
is_read_status (PathClash first second) = true
is_read_status _ = false

-- where rules and files are read
abbrev pub HaltsReadingAll : Roots → Option Contents → ℕ → ℕ → Halt → Type 0
HaltsReadingAll names told f f' Memory = Unit {0}
HaltsReadingAll names told f f' Folders = Rose f f'
HaltsReadingAll names told f f' (Answer status) = (is_read_status status ≡ true) × IfSome told (λ m. reading_answer names m (ruled names.rules (files_below names.rules m)) ≡ Some status)
HaltsReadingAll names told f f' _ = ⊥

-- a status with which words or folders stand against a run
abbrev pub is_early_answer : Status → Bool
is_early_answer Usage = true
is_early_answer (NestedRoots first second) = true
is_early_answer (BadRules fault) = true
is_early_answer (Limit kind path) = true
is_early_answer (PathClash first second) = true
is_early_answer _ = false

-- before the ledger is opened
pub record GatheringAnswer (asked : Asked) (told : Option Contents) (status : Status) : Type 0 where
  pub is : is_early_answer status ≡ true
  pub cause : AskedCause asked status
  pub first : IfSome told (λ m. (l : Ledger) → first_answer asked m l ≡ status)

abbrev pub HaltsGathering : Asked → Option Contents → ℕ → ℕ → Halt → Type 0
HaltsGathering asked told f f' Memory = Unit {0}
HaltsGathering asked told f f' Folders = Rose f f'
HaltsGathering asked told f f' (Answer status) = GatheringAnswer asked told status
HaltsGathering asked told f f' _ = ⊥

-- the ledger is as before, or has this header, where it had none or the same and nothing stands against the names of classes
abbrev pub LedgerOwn : Option Status → Header → Option Ledger → Option Ledger → Type 0
LedgerOwn names header k k' = (k' ≡ k) ⊎ ((k' ≡ option_map (with_header header) k) × (names ≡ None) × IfSome k (λ l. IsOurs header l.header))

-- a status of the names of classes; or one of the ledger, where nothing stands against the names
abbrev pub AnswersPlan : Option Status → Header → Option Ledger → Status → Type 0
AnswersPlan names header k status = ((is_names_status status ≡ true) × (names ≡ Some status))
    ⊎ ((is_ledger_status status ≡ true) × (names ≡ None) × IfSome k (λ l. other_run header l.header ≡ Some status))

-- where the names of classes are looked at, the ledger is opened and the works are planned
abbrev pub HaltsPlan : Option Status → Header → Option Ledger → Option Ledger → ℕ → ℕ → ℕ → ℕ → Halt → Type 0
HaltsPlan names header k k' f1 f2 k1 k2 Memory = LedgerOwn names header k k'
HaltsPlan names header k k' f1 f2 k1 k2 Folders = LedgerOwn names header k k' × Rose f1 f2
HaltsPlan names header k k' f1 f2 k1 k2 LedgerHalt = LedgerOwn names header k k' × Rose k1 k2
HaltsPlan names header k k' f1 f2 k1 k2 (Answer status) = (k' ≡ k) × AnswersPlan names header k status
