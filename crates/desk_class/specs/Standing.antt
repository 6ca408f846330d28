-- The class names of a descriptor's text, as they stand there.
use Rattle.std.specs.Prelude.{Bool, true, false, ◌==◌, List, [], ◌∷◌, ◌++◌, if◌then◌else◌}
use Rattle.desk_base.specs.Names.{Text}

-- A class name stands behind each `L` that stands in none, up to the next `;`; of the first, `seen` stands in front.
unfoldable pub standing : Bool → Text → Text → List Text
standing inside seen [] = []
standing false seen (b ∷ t) = if b == 76 then standing true [] t else standing false [] t
standing true seen (b ∷ t) = if b == 59 then seen ∷ standing false [] t else standing true (seen ++ b ∷ []) t

-- the class names of a text
abbrev pub standing_in : Text → List Text
standing_in text = standing false [] text
