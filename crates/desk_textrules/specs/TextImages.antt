-- Texts whose sources are exchanged for their targets.
use Rattle.std.specs.Prelude.{◌≡◌, ℕ, zero, suc, ◌+◌, ◌-◌, cond, List, [], ◌∷◌, ◌++◌, length, take, Option, Some, None, Result, Ok, Err}
use Rattle.std.specs.Str.{bytes_eq}
use Rattle.desk_base.specs.Names.{Text}
use Rattle.desk_base.specs.declared.Changed.{Changed}
use Rattle.desk_patterns.specs.TextRules.{TextRule, Hit, longest}

-- a piece of a text: a byte that stays, or a source and the target that takes its place
pub data Piece : Type 0 where
  stays : ℕ → Piece
  exchanged : Text → Text → Piece

-- the piece at the front of a text, and those behind so many bytes more
abbrev pub cut_at : Option Hit → ℕ → Text → (ℕ → List Piece) → List Piece
cut_at None b t behind = stays b ∷ behind 0
cut_at (Some hit) b t behind = exchanged (take hit.taken (b ∷ t)) hit.target ∷ behind (hit.taken - 1)

-- the pieces of a text, from the front: where a source starts, the longest such source, and what follows is cut behind it;
-- else the byte. The first bytes, so many, are passed over
abbrev pub pieces_behind : List TextRule → ℕ → Text → List Piece
pieces_behind rules passed [] = []
pieces_behind rules (suc passed) (b ∷ t) = pieces_behind rules passed t
pieces_behind rules zero (b ∷ t) = cut_at (longest rules (b ∷ t)) b t (λ n. pieces_behind rules n t)

abbrev pub pieces : List TextRule → Text → List Piece
pieces rules = pieces_behind rules 0

-- the text that pieces give
abbrev pub written : List Piece → Text
written [] = []
written (stays b ∷ ps) = b ∷ written ps
written (exchanged source target ∷ ps) = target ++ written ps

-- how many sources are exchanged for a target that differs
abbrev pub count_changed : List Piece → ℕ
count_changed [] = 0
count_changed (stays b ∷ ps) = count_changed ps
count_changed (exchanged source target ∷ ps) = cond (bytes_eq target source) 0 1 + count_changed ps

-- where the first such source stands in a text whose pieces begin at a place
abbrev pub first_changed : ℕ → List Piece → Option ℕ
first_changed at [] = None
first_changed at (stays b ∷ ps) = first_changed (at + 1) ps
first_changed at (exchanged source target ∷ ps) = cond (bytes_eq target source) (first_changed (at + length source) ps) (Some at)

-- a text with each source exchanged
abbrev pub replaced : List TextRule → Text → Text
replaced rules text = written (pieces rules text)

-- the first place of a text at which rules exchange a source for another text
abbrev pub unsettled : List TextRule → Text → Option ℕ
unsettled rules text = first_changed 0 (pieces rules text)

abbrev pub unless_unsettled : Option ℕ → Changed → Result Changed ℕ
unless_unsettled None new = Ok new
unless_unsettled (Some at) new = Err at

-- the image of a text at a path with rules, whose target has rules too: by the rules of the path, or the first place of
-- that image at which the rules of the target would change it
abbrev pub text_image : List TextRule → List TextRule → Text → Result Changed ℕ
text_image here there text = unless_unsettled (unsettled there (replaced here text)) (record { bytes = replaced here text; changed = count_changed (pieces here text) })

-- a text that is its own image under rules, without an exchanged source
abbrev pub TextStays : List TextRule → Text → Type 0
TextStays rules text = text_image rules rules text ≡ Ok (record { bytes = text; changed = 0 })
