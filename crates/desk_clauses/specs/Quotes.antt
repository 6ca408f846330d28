-- A text read with quotes (OSGi Core 3.2.4): what stands outside them, and the text cut there.
use Rattle.std.specs.Prelude.{ℕ, Bool, true, false, cond, ◌&&◌, ◌==◌, List, [], ◌∷◌, ◌++◌}
use Rattle.desk_base.specs.Names.{Text}
use Rattle.desk_clauses.specs.declared.quotes.Quoting.{Quoting}
use Rattle.desk_clauses.specs.declared.quotes.Quoting.TheVariants.{Outside, Quoted, Escaped}

-- behind a byte: a quote begins and ends with `"`, and inside it a backslash takes the next byte with it
abbrev pub next : Quoting → ℕ → Quoting
next Outside b = cond (b == 34) Quoted Outside
next Quoted b = cond (b == 34) Outside (cond (b == 92) Escaped Quoted)
next Escaped b = Quoted

abbrev pub is_outside : Quoting → Bool
is_outside Outside = true
is_outside Quoted = false
is_outside Escaped = false

-- whether each quote is closed
abbrev pub is_closed : Quoting → Text → Bool
is_closed at [] = is_outside at
is_closed at (b ∷ t) = is_closed (next at b) t

-- what stands before the first `mark` outside quotes
abbrev pub before_mark : ℕ → Quoting → Text → Text
before_mark mark at [] = []
before_mark mark at (b ∷ t) = cond (is_outside at && b == mark) [] (b ∷ before_mark mark (next at b) t)

-- that mark and what follows it
abbrev pub from_mark : ℕ → Quoting → Text → Text
from_mark mark at [] = []
from_mark mark at (b ∷ t) = cond (is_outside at && b == mark) (b ∷ t) (from_mark mark (next at b) t)

-- a byte before the first of some parts
abbrev pub onto_first : ℕ → List Text → List Text
onto_first b [] = (b ∷ []) ∷ []
onto_first b (p ∷ ps) = (b ∷ p) ∷ ps

-- a text cut at each `mark` outside quotes
abbrev pub cut : ℕ → Quoting → Text → List Text
cut mark at [] = [] ∷ []
cut mark at (b ∷ t) = cond (is_outside at && b == mark) ([] ∷ cut mark at t) (onto_first b (cut mark (next at b) t))

-- parts with a mark between each two
abbrev pub with_marks : ℕ → List Text → Text
with_marks mark [] = []
with_marks mark (p ∷ []) = p
with_marks mark (p ∷ q ∷ ps) = p ++ (mark ∷ with_marks mark (q ∷ ps))
