-- In which roles the text of each entry was looked at.
use Rattle.std.specs.Prelude.{◌≡◌, ◌⊎◌, ℕ, Bool, true, List, [], Option, Some}
use Rattle.desk_base.specs.Names.{Text}
use Rattle.desk_base.specs.declared.kinds.Role.{Role}
use Rattle.desk_base.specs.declared.kinds.Used.{Used}
use Rattle.desk_class.specs.Answers.{answer_at}
use Rattle.desk_class.specs.Held.{names_of}

-- what is noted was so before, or is this use
abbrev pub Notes : List (Option Bool) → List (Option Bool) → Used → Type 0
Notes noted before used = (i : ℕ) (r : Role) → answer_at noted i r ≡ Some true → (answer_at before i r ≡ Some true) ⊎ ((i ≡ used.index) × (used.role ≡ r))

-- no text holds a class name in a role
abbrev pub HoldsNone : Role → Type 0
HoldsNone role = (text : Text) → names_of role text ≡ []
