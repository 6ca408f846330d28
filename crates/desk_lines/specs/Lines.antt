-- Texts as lines with their ends.
use Rattle.std.specs.Prelude.{ℕ, Bool, true, false, cond, not, ◌&&◌, ◌==◌, List, [], ◌∷◌, ◌++◌}
use Rattle.std.specs.List.{list_all}
use Rattle.desk_base.specs.Names.{Text, is_empty}
use Rattle.desk_lines.specs.declared.lines.LineEnd.{LineEnd}
use Rattle.desk_lines.specs.declared.lines.LineEnd.TheVariants as ends

-- the bytes of an end
abbrev pub end_bytes : LineEnd → Text
end_bytes ends.EndOfText = []
end_bytes ends.Lf = 10 ∷ []
end_bytes ends.Cr = 13 ∷ []
end_bytes ends.CrLf = 13 ∷ 10 ∷ []

-- a line: its bytes before its end, and how it ends
pub record Line : Type 0 where
  pub content : Text
  pub end : LineEnd

abbrev pub line : Text → LineEnd → Line
line content end = record { content = content; end = end }

-- the bytes of lines, one behind the other
abbrev pub joined : List Line → Text
joined [] = []
joined (l ∷ ls) = l.content ++ (end_bytes l.end ++ joined ls)

abbrev pub is_lf : LineEnd → Bool
is_lf ends.EndOfText = false
is_lf ends.Lf = true
is_lf ends.Cr = false
is_lf ends.CrLf = false

-- whether lines begin with the byte LF
abbrev pub begins_lf : List Line → Bool
begins_lf [] = false
begins_lf (l ∷ ls) = is_empty l.content && is_lf l.end

-- all but the first
abbrev pub rest : {A : Type 0} → List A → List A
rest [] = []
rest (x ∷ xs) = xs

-- a byte that is no line end, before lines
abbrev pub behind_byte : ℕ → List Line → List Line
behind_byte b [] = line (b ∷ []) ends.EndOfText ∷ []
behind_byte b (l ∷ ls) = line (b ∷ l.content) l.end ∷ ls

-- a CR and a LF directly behind it are one line end
abbrev pub behind_cr : List Line → List Line
behind_cr ls = cond (begins_lf ls) (line [] ends.CrLf ∷ rest ls) (line [] ends.Cr ∷ ls)

-- lines with one byte more before them
abbrev pub behind : ℕ → List Line → List Line
behind b ls = cond (b == 10) (line [] ends.Lf ∷ ls) (cond (b == 13) (behind_cr ls) (behind_byte b ls))

-- the lines of a text
abbrev pub lines : Text → List Line
lines [] = []
lines (b ∷ t) = behind b (lines t)

-- a text without CR and LF
abbrev pub is_one_line : Text → Bool
is_one_line = list_all (λ b. not (b == 10) && not (b == 13))

-- whether a line's end stands right before these lines
abbrev pub ends_well : Text → LineEnd → List Line → Bool
ends_well content ends.EndOfText ls = not (is_empty content) && is_empty ls
ends_well content ends.Lf ls = true
ends_well content ends.Cr ls = not (begins_lf ls)
ends_well content ends.CrLf ls = true

-- whether lines are those of their text
abbrev pub are_well_ended : List Line → Bool
are_well_ended [] = true
are_well_ended (l ∷ ls) = is_one_line l.content && (ends_well l.content l.end ls && are_well_ended ls)
