-- How the reading of an application's classes goes, and where it halts.
use Rattle.std.specs.Prelude.{◌≡◌, ℕ, List, [], ◌∷◌, Option, None, Result, Err, true, IfSome, map}
use Rattle.desk_base.specs.Counts.{Rose}
use Rattle.desk_base.specs.Names.{Text, Package}
use Rattle.desk_folders.specs.Contents.{Contents, file_at}
use Rattle.desk_report.specs.declared.status.Status.{Status}
use Rattle.desk_intake.specs.Halts.{is_limit}
use Rattle.desk_intake.specs.declared.halts.Halt.{Halt}
use Rattle.desk_intake.specs.declared.halts.Halt.TheVariants.{Memory, Folders, Answer}
use Rattle.desk_sites.specs.declared.class.ClassSites.{ClassSites}
use Rattle.desk_calls.specs.Answers.{found_among}
use Rattle.desk_calls.specs.Files.{classes_of, sites_in}
use Rattle.desk_calls.specs.Listings.{class_size_answer}
use Rattle.desk_calls.specs.declared.batches.ClassFile.{ClassFile}
use Rattle.desk_calls.specs.declared.telling.Calls.{Calls}

-- of these paths the class files were read, and none has too many bytes
pub record HasFound (scope : Package) (from : Text) (m : Contents) (paths : List Text) (found : List ClassSites) : Type 0 where
  pub are : found ≡ found_among scope (map (file_at from m) paths)
  pub fit : class_size_answer (map (file_at from m) paths) ≡ None

-- what was read of one file: a class file as it stands there, which hasn't too many bytes, and nothing of any other
pub record ReadsOne (from : Text) (m : Contents) (path : Text) (read : Option ClassFile) : Type 0 where
  pub are : (scope : Package) → map (sites_in scope) (classes_of read) ≡ found_among scope (file_at from m path ∷ [])
  pub fits : class_size_answer (file_at from m path ∷ []) ≡ None

-- the question isn't answered: want of memory, a fault of the folders, or what stands against the application
abbrev pub HaltsAnswering : (Contents → Result Calls Status) → Option Contents → ℕ → ℕ → Halt → Type 0
HaltsAnswering answer told f f' Memory = Unit {0}
HaltsAnswering answer told f f' Folders = Rose f f'
HaltsAnswering answer told f f' (Answer status) = (is_limit status ≡ true) × IfSome told (λ m. answer m ≡ Err status)
HaltsAnswering answer told f f' _ = ⊥
