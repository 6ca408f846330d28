-- A text cut at the first byte that passes a test.
use Rattle.std.specs.Prelude.{ℕ, Bool, true, cond, [], ◌∷◌}
use Rattle.desk_base.specs.Names.{Text}

-- what stands before the first byte that passes
abbrev pub until : (ℕ → Bool) → Text → Text
until p [] = []
until p (b ∷ t) = cond (p b) [] (b ∷ until p t)

-- that byte and what follows it
abbrev pub onward : (ℕ → Bool) → Text → Text
onward p [] = []
onward p (b ∷ t) = cond (p b) (b ∷ t) (onward p t)

-- whether a text is empty or begins with a byte that passes
abbrev pub stops : (ℕ → Bool) → Text → Bool
stops p [] = true
stops p (b ∷ t) = p b
