-- Where the steps halt that read the rules and list the files.
use Rattle.std.specs.Prelude.{◌≡◌, ℕ, List, ◌∷◌, Option, Some, Bool, true, false, Result, Err, IfSome}
use Rattle.desk_base.specs.Counts.{Rose}
use Rattle.desk_base.specs.Names.{Text}
use Rattle.desk_clashes.specs.Clashes.{first_clash}
use Rattle.desk_folders.specs.Contents.{Contents, File, file_at, files_below}
use Rattle.desk_report.specs.declared.status.Status.{Status}
use Rattle.desk_report.specs.declared.status.Status.TheVariants.{BadRules, Limit, PathClash, NameClash, Stranded}
use Rattle.desk_rules.specs.Rules.{Rules}
use Rattle.desk_rules.specs.declared.RuleFault.{RuleFault}
use Rattle.desk_intake.specs.Limits.{first_long, long_answer, rule_size_answer}
use Rattle.desk_intake.specs.Rulings.{ruled}
use Rattle.desk_intake.specs.Standing.{clash_status}
use Rattle.desk_intake.specs.declared.halts.Halt.{Halt}
use Rattle.desk_intake.specs.declared.halts.Halt.TheVariants.{Memory, Folders, Answer}

-- a status of the rule folder
abbrev pub is_rules_status : Status → Bool
is_rules_status (BadRules fault) = true
is_rules_status (Limit kind path) = true
is_rules_status _ = false

-- at the rules below a root
abbrev pub HaltsAtRules : Text → Option Contents → ℕ → ℕ → Halt → Type 0
HaltsAtRules root told f f' Memory = Unit {0}
HaltsAtRules root told f f' Folders = Rose f f'
HaltsAtRules root told f f' (Answer status) = (is_rules_status status ≡ true) × IfSome told (λ m. ruled root (files_below root m) ≡ Err status)
HaltsAtRules root told f f' _ = ⊥

-- where rule files are read: one of them has too many bytes
abbrev pub HaltsTaking : Text → Option Contents → ℕ → ℕ → Halt → Type 0
HaltsTaking root told f f' Memory = Unit {0}
HaltsTaking root told f f' Folders = Rose f f'
HaltsTaking root told f f' (Answer status) = (is_rules_status status ≡ true) × IfSome told (λ m. rule_size_answer (files_below root m) ≡ Some status)
HaltsTaking root told f f' _ = ⊥

-- where one rule file is read
abbrev pub HaltsTakingOne : Text → Text → Option Contents → ℕ → ℕ → Halt → Type 0
HaltsTakingOne root path told f f' Memory = Unit {0}
HaltsTakingOne root path told f f' Folders = Rose f f'
HaltsTakingOne root path told f f' (Answer status) = (is_rules_status status ≡ true)
    × IfSome told (λ m. (more : List File) → rule_size_answer (file_at root m path ∷ more) ≡ Some status)
HaltsTakingOne root path told f f' _ = ⊥

-- where the rules of files are built
abbrev pub HaltsBuilding : Result Rules RuleFault → Halt → Type 0
HaltsBuilding rules Memory = Unit {0}
HaltsBuilding rules (Answer (BadRules fault)) = rules ≡ Err fault
HaltsBuilding rules _ = ⊥

-- a status of the files
abbrev pub is_files_status : Status → Bool
is_files_status (Limit kind path) = true
is_files_status (PathClash first second) = true
is_files_status _ = false

-- at what stands against the files, as an answer tells
abbrev pub HaltsWith : (Contents → Option Status) → Option Contents → ℕ → ℕ → Halt → Type 0
HaltsWith answer told f f' Memory = Unit {0}
HaltsWith answer told f f' Folders = Rose f f'
HaltsWith answer told f f' (Answer status) = (is_files_status status ≡ true) × IfSome told (λ m. answer m ≡ Some status)
HaltsWith answer told f f' _ = ⊥

-- at the first path that is too long
abbrev pub HaltsRouting : (Text → Text) → List Text → Halt → Type 0
HaltsRouting target paths Memory = Unit {0}
HaltsRouting target paths (Answer status) = (is_files_status status ≡ true) × (long_answer (first_long target paths) ≡ Some status)
HaltsRouting target paths _ = ⊥

-- a limit that is passed
abbrev pub is_limit : Status → Bool
is_limit (Limit kind path) = true
is_limit _ = false

-- at a limit that is passed, as an answer tells
abbrev pub HaltsAt : (Contents → Option Status) → Option Contents → ℕ → ℕ → Halt → Type 0
HaltsAt answer told f f' Memory = Unit {0}
HaltsAt answer told f f' Folders = Rose f f'
HaltsAt answer told f f' (Answer status) = (is_limit status ≡ true) × IfSome told (λ m. answer m ≡ Some status)
HaltsAt answer told f f' _ = ⊥

-- at two paths whose targets clash
abbrev pub HaltsClashing : List Text → List Text → Halt → Type 0
HaltsClashing paths targets Memory = Unit {0}
HaltsClashing paths targets (Answer status) = (is_files_status status ≡ true) × (clash_status paths (first_clash targets) ≡ Some status)
HaltsClashing paths targets _ = ⊥

-- a status of the names of classes
abbrev pub is_names_status : Status → Bool
is_names_status (NameClash defined other image) = true
is_names_status (Stranded path name) = true
is_names_status _ = false

-- at the names of classes, as an answer tells
abbrev pub HaltsAtNames : Option Status → Halt → Type 0
HaltsAtNames answer Memory = Unit {0}
HaltsAtNames answer (Answer status) = (is_names_status status ≡ true) × (answer ≡ Some status)
HaltsAtNames answer _ = ⊥
