-- Pieces of a text.
use Rattle.std.specs.Prelude.{ℕ, List, [], ◌∷◌, ◌++◌, codes, decimal}
use Rattle.desk_base.specs.Names.{Text}
use Rattle.desk_base.specs.Shown.{shown}

-- pieces, one behind the other
abbrev pub joined : List Text → Text
joined [] = []
joined (piece ∷ pieces) = piece ++ joined pieces

-- two texts behind a piece
abbrev pub pair_pieces : Text → Text → Text → List Text
pair_pieces front first second = front ∷ shown first ∷ codes " " ∷ shown second ∷ codes "\n" ∷ []

-- a number behind what stands before it, at the end of a line
abbrev pub placed_pieces : Text → ℕ → List Text
placed_pieces front at = front ∷ decimal at ∷ codes "\n" ∷ []

-- two numbers, each behind what stands before it, at the end of a line
abbrev pub numbered_pieces : Text → ℕ → Text → ℕ → List Text
numbered_pieces front first middle second = front ∷ decimal first ∷ middle ∷ decimal second ∷ codes "\n" ∷ []
