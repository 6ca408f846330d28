-- A text with some of its bytes exchanged, as far as it was gone over.
use Rattle.std.specs.Prelude.{◌≡◌, ◌≤◌, ◌++◌, ◌-◌, ℕ, take, drop}
use Rattle.desk_base.specs.Names.{Text}
use Rattle.desk_clauses.specs.declared.edits.Edits.{Edits}

-- what stands for the bytes of a text before a place
abbrev pub edited : Text → Edits → ℕ → Text
edited text edits at = edits.image ++ take (at - edits.copied) (drop edits.copied text)

-- the bytes of a text between two places
abbrev pub between : ℕ → ℕ → Text → Text
between from to text = take (to - from) (drop from text)

-- one more stretch of a text was gone over, for which this image stands
pub record IsEdited (text : Text) (old new : Edits) (from to : ℕ) (image : Text) : Type 0 where
  pub order : new.copied ≤ to
  pub stands : edited text new to ≡ edited text old from ++ image
