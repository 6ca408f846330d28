-- Texts that stand one behind the other in one block.
use Rattle.std.specs.Prelude.{◌≡◌, ℕ, ◌≤◌, ◌-◌, List, [], ◌∷◌, take, drop}
use Rattle.desk_base.specs.Names.{Text}

-- the texts between an offset and these ends, of which each is where the next text begins
abbrev pub cut_at : Text → ℕ → List ℕ → List Text
cut_at bytes from [] = []
cut_at bytes from (end ∷ ends) = take (end - from) (drop from bytes) ∷ cut_at bytes end ends

-- the ends don't fall, and the last is so many bytes from the start
abbrev pub AreEnds : ℕ → List ℕ → ℕ → Type 0
AreEnds from [] count = from ≡ count
AreEnds from (end ∷ ends) count = (from ≤ end) × AreEnds end ends count
