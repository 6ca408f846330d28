-- What a run takes no more of, and what stands against files that pass it.
use Rattle.std.specs.Prelude.{ℕ, ◌&&◌, nat_lt, nat_le, List, [], ◌∷◌, length, Option, Some, None, Bool, cond, if◌then◌else◌}
use Rattle.desk_base.specs.Limits.{file_size, rule_size}
use Rattle.desk_base.specs.Names.{Text}
use Rattle.desk_readings.specs.Sizes.{large_size}
use Rattle.desk_folders.specs.Contents.{File}
use Rattle.desk_report.specs.declared.status.LimitKind.TheVariants.{PathLength, FileSize, RuleFiles, RuleSize, Files}
use Rattle.desk_report.specs.declared.status.Status.{Status}
use Rattle.desk_report.specs.declared.status.Status.TheVariants.{Limit}

-- how many files of the source a run takes
abbrev pub most_files : ℕ
most_files = 200000

-- how many bytes a relative path or its target may have
abbrev pub path_length : ℕ
path_length = 1024

-- how many files the rule folder may have
abbrev pub most_rule_files : ℕ
most_rule_files = 1000

abbrev pub is_short : Text → Bool
is_short text = nat_le (length text) path_length

-- a path has no other target than itself where nothing is written
abbrev pub itself : Text → Text
itself path = path

-- the first of these paths that is too long, or whose target is
abbrev pub first_long : (Text → Text) → List Text → Option Text
first_long target [] = None
first_long target (path ∷ paths) = if is_short path && is_short (target path) then first_long target paths else Some path

abbrev pub long_answer : Option Text → Option Status
long_answer None = None
long_answer (Some path) = Some (Limit PathLength path)

-- what stands against the paths below a root: that they are too many, or that one is too long
abbrev pub paths_answer : Text → (Text → Text) → List Text → Option Status
paths_answer from target paths = if nat_lt most_files (length paths) then Some (Limit Files from) else long_answer (first_long target paths)

-- how many bytes a file may have, by whether it is read whole: 67,108,864, and 1,099,511,627,776 of any other
abbrev pub most_size : Bool → ℕ
most_size whole = cond whole file_size large_size

-- what stands against files by their bytes: the first that has too many
abbrev pub size_answer : (Text → Bool) → List File → Option Status
size_answer whole [] = None
size_answer whole (file ∷ files) = if nat_lt (most_size (whole file.path)) (length file.bytes) then Some (Limit FileSize file.path) else size_answer whole files

-- the first rule file that has too many bytes
abbrev pub rule_size_answer : List File → Option Status
rule_size_answer [] = None
rule_size_answer (file ∷ files) = if nat_lt rule_size (length file.bytes) then Some (Limit RuleSize file.path) else rule_size_answer files

-- what stands against rule files below a root: that they are too many, or that one has too many bytes
abbrev pub rule_files_answer : Text → List File → Option Status
rule_files_answer root files = if nat_lt most_rule_files (length files) then Some (Limit RuleFiles root) else rule_size_answer files
