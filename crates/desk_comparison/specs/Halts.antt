-- Where the comparison of two applications halts.
use Rattle.std.specs.Prelude.{◌≡◌, ℕ, Option, Some, Bool, true, false, Result, Err, IfSome}
use Rattle.desk_base.specs.Counts.{Rose}
use Rattle.desk_base.specs.Names.{Text}
use Rattle.desk_folders.specs.Contents.{Contents}
use Rattle.desk_intake.specs.declared.halts.Halt.{Halt}
use Rattle.desk_intake.specs.declared.halts.Halt.TheVariants.{Memory, Folders, Answer}
use Rattle.desk_report.specs.declared.status.Status.{Status}
use Rattle.desk_report.specs.declared.status.Status.TheVariants.{Done, Refusals, BadRules, Limit, PathClash, NameClash, Stranded, Differs}
use Rattle.desk_comparison.specs.Answers.{comparison}

-- a status that may stand against a comparison
abbrev pub is_comparison_status : Status → Bool
is_comparison_status (BadRules fault) = true
is_comparison_status (Limit kind path) = true
is_comparison_status (PathClash first second) = true
is_comparison_status (NameClash defined other image) = true
is_comparison_status (Stranded path name) = true
is_comparison_status _ = false

-- a step halts: want of memory, a fault of the folders, or a status that stands, as an answer tells
abbrev pub HaltsStanding : (Contents → Option Status) → Option Contents → ℕ → ℕ → Halt → Type 0
HaltsStanding answer told f f' Memory = Unit {0}
HaltsStanding answer told f f' Folders = Rose f f'
HaltsStanding answer told f f' (Answer status) = (is_comparison_status status ≡ true) × IfSome told (λ m. answer m ≡ Some status)
HaltsStanding answer told f f' _ = ⊥

-- a step that reads nothing halts
abbrev pub HaltsMaking : Option Status → Halt → Type 0
HaltsMaking answer Memory = Unit {0}
HaltsMaking answer (Answer status) = (is_comparison_status status ≡ true) × (answer ≡ Some status)
HaltsMaking answer _ = ⊥

-- there is no answer: want of memory, a fault of the folders, or a status that stands against it
abbrev pub HaltsTelling : (Contents → Result (Text × Status) Status) → Option Contents → ℕ → ℕ → Halt → Type 0
HaltsTelling answer told f f' Memory = Unit {0}
HaltsTelling answer told f f' Folders = Rose f f'
HaltsTelling answer told f f' (Answer status) = (is_comparison_status status ≡ true) × IfSome told (λ m. answer m ≡ Err status)
HaltsTelling answer told f f' _ = ⊥

abbrev pub HaltsComparing : Text → Text → Text → Option Contents → ℕ → ℕ → Halt → Type 0
HaltsComparing rules from other = HaltsTelling (comparison rules from other)

-- a text is written whole before these statuses
abbrev pub IsEnd : Status → Type 0
IsEnd Done = Unit {0}
IsEnd Refusals = Unit {0}
IsEnd (Differs path) = Unit {0}
IsEnd _ = ⊥
