-- The parts of a descriptor's text: the class names, and what stands between them.
use Rattle.std.specs.Prelude.{◌≡◌, ℕ, suc, Bool, true, false, ◌==◌, List, [], ◌∷◌, ◌++◌, if◌then◌else◌}
use Rattle.desk_names.specs.declared.parts.Part.{Part}
use Rattle.desk_names.specs.declared.parts.Part.TheVariants as parts
use Rattle.desk_base.specs.Names.{Text}
use Rattle.desk_names.specs.ClassNames.{package_of, simple_of, class_name}

-- what is no class name, or a class name by its package and simple name
pub data Piece : Type 0 where
  other : Text → Piece
  class : Text → Text → Piece

-- a class name as a part
abbrev pub class_piece : Text → Piece
class_piece name = Piece.class (package_of name) (simple_of name)

-- what is left of a text as a part, where anything is left
abbrev pub last_piece : Text → List Piece
last_piece [] = []
last_piece (b ∷ t) = Piece.other (b ∷ t) ∷ []

-- The parts of a text, the first of which begins with `seen`: a class name stands behind each `L` that stands in none, up
-- to the next `;`.
unfoldable pub cut : Bool → Text → Text → List Piece
cut inside seen [] = last_piece seen
cut false seen (b ∷ t) = if b == 76 then Piece.other (seen ++ b ∷ []) ∷ cut true [] t else cut false (seen ++ b ∷ []) t
cut true seen (b ∷ t) = if b == 59 then class_piece seen ∷ cut false (b ∷ []) t else cut true (seen ++ b ∷ []) t

-- the parts of a descriptor
abbrev pub pieces : Text → List Piece
pieces text = cut false [] text

-- the text of a part, with a class name spelled by f
abbrev pub piece_text : (Text → Text) → Piece → Text
piece_text f (Piece.other t) = t
piece_text f (Piece.class before last) = f (class_name before last)

-- the texts of parts joined, with each class name spelled by f
unfoldable pub joined : (Text → Text) → List Piece → Text
joined f [] = []
joined f (p ∷ ps) = piece_text f p ++ joined f ps

-- the class names among parts, in their order
unfoldable pub names_in : List Piece → List Text
names_in [] = []
names_in (Piece.other t ∷ ps) = names_in ps
names_in (Piece.class before last ∷ ps) = class_name before last ∷ names_in ps

-- two texts are the package and the simple name of the class name that they make
pub record IsCut (before last : Text) : Type 0 where
  pub package_is : package_of (class_name before last) ≡ before
  pub simple_is : simple_of (class_name before last) ≡ last

-- each class name among parts is cut at its last `/`
unfoldable pub AreCut : List Piece → Type 0
AreCut [] = Unit {0}
AreCut (Piece.other t ∷ ps) = AreCut ps
AreCut (Piece.class before last ∷ ps) = IsCut before last × AreCut ps

-- the first place of a byte in a text, or the text's length
unfoldable pub place_of : ℕ → Text → ℕ
place_of x [] = 0
place_of x (b ∷ t) = if b == x then 0 else suc (place_of x t)

-- a part as it is handed out
abbrev pub piece_of : Part → Piece
piece_of (parts.Other t) = Piece.other t.now
piece_of (parts.Class c) = Piece.class c.package.now c.simple.now
