-- What is answered of the target of a path.
use Rattle.std.proofs.Common.{◌≡◌, ◌∙◌, List, true, ap, Result, Ok, Err, IfOk}
use Rattle.std.specs.Prelude.{OnOk}
use Rattle.desk_base.specs.Names.{Text}
use Rattle.desk_base.specs.Paths.{is_relative_path}
use Rattle.desk_base.specs.declared.Memory.{Memory}
use Rattle.desk_packages.specs.Renames.{Renaming}
use Rattle.desk_paths.specs.Paths.{renamed_path}
use Rattle.desk_paths.specs.Kinds.{RenamedStays}
use Rattle.desk_paths.specs.Walks.{Stay}
use Rattle.desk_paths.proofs.Relative.{relative_told}
use Rattle.desk_paths.proofs.Stays.{renamed_stays}

pub target_answer : (rs : List Renaming) (path text : Text) (r : Result Text Memory) → OnOk r (Stay rs) → (Stay rs → text ≡ renamed_path rs path) → IfOk r (λ found. found ≡ text) → IfOk r (λ found. found ≡ renamed_path rs path)
target_answer rs path text (Ok found) stay is h = h ∙ is stay
target_answer rs path text (Err e) stay is h = tt

pub stays_answer : (rs : List Renaming) (path : Text) (r : Result Text Memory) → OnOk r (Stay rs) → IfOk r (λ found. RenamedStays rs path)
stays_answer rs path (Ok found) stay = renamed_stays rs stay path
stays_answer rs path (Err e) stay = tt

pub relative_answer : (rs : List Renaming) (path : Text) (r : Result Text Memory) → OnOk r (Stay rs) → IfOk r (λ found. found ≡ renamed_path rs path) → IfOk r (λ found. is_relative_path path ≡ true → is_relative_path found ≡ true)
relative_answer rs path (Ok found) stay is = λ relative. ap is_relative_path is ∙ relative_told rs stay path relative
relative_answer rs path (Err e) stay is = tt
