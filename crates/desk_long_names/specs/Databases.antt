-- How a database file begins (the format of SQLite's files, "The Database Header").
use Rattle.std.specs.Prelude.{◌≡◌, ◌⊎◌, ◌++◌, [], ◌∷◌, Bool, IsTrue, codes}
use Rattle.desk_base.specs.Names.{Text}

-- the first 16 bytes
abbrev pub header : Text
header = codes "SQLite format 3" ++ 0 ∷ []

-- these bytes before the first is written, which is written last
abbrev pub unbegun : Text
unbegun = 0 ∷ codes "QLite format 3" ++ 0 ∷ []

-- the file is empty, or begins as a database
abbrev pub IsStart : Text → Type 0
IsStart start = (start ≡ []) ⊎ (start ≡ header)

-- it begins as one that is half made: all but the first byte is written, or that alone
abbrev pub IsHalfMade : Text → Type 0
IsHalfMade start = (start ≡ unbegun) ⊎ (start ≡ 0 ∷ [])

-- a file of these first bytes may be a database: one that is half made is one where its log is there
abbrev pub MayBegin : Text → Bool → Type 0
MayBegin start has_log = IsStart start ⊎ (IsTrue has_log × IsHalfMade start)
