-- Texts of which no two are the same.
use Rattle.std.specs.Prelude.{◌≢◌, List, [], ◌∷◌}
use Rattle.desk_base.specs.Names.{Text}

-- a text isn't in the list
abbrev pub Misses : Text → List Text → Type 0
Misses t [] = Unit {0}
Misses t (u ∷ us) = (t ≢ u) × Misses t us

-- no text stands in the list twice
abbrev pub AllApart : List Text → Type 0
AllApart [] = Unit {0}
AllApart (t ∷ ts) = Misses t ts × AllApart ts
