-- A header folded into lines of at most 72 bytes (JAR File Specification, "Line length"), between characters of UTF-8.
use Rattle.std.specs.Prelude.{ℕ, zero, suc, Bool, false, cond, not, ◌&&◌, ◌==◌, nat_le, List, [], ◌∷◌, ◌++◌, take, drop, length}
use Rattle.desk_base.specs.Names.{Text}
use Rattle.desk_lines.specs.declared.lines.LineEnd.{LineEnd}
use Rattle.desk_lines.specs.declared.lines.LineEnd.TheVariants as ends
use Rattle.desk_lines.specs.Lines.{Line, line}

-- a byte that continues a character of UTF-8
abbrev pub is_inner : ℕ → Bool
is_inner b = nat_le 128 b && nat_le b 191

abbrev pub begins_character : Text → Bool
begins_character [] = false
begins_character (b ∷ t) = not (is_inner b)

-- the last place, behind the first byte and at most at `limit`, where the next byte begins a character; 0 where there is none
abbrev pub last_start : ℕ → Text → ℕ
last_start zero t = 0
last_start (suc limit) t = cond (begins_character (drop (suc limit) t)) (suc limit) (last_start limit t)

abbrev pub cut_place : ℕ → Text → ℕ
cut_place limit t = cond (last_start limit t == 0) limit (last_start limit t)

-- a text cut into pieces: the first has at most `limit` bytes, each further one at most 71; there are at most `count` cuts
abbrev pub pieces : ℕ → ℕ → Text → List Text
pieces zero limit t = t ∷ []
pieces (suc count) limit t =
    cond (nat_le (length t) limit) (t ∷ []) (take (cut_place limit t) t ∷ pieces count 71 (drop (cut_place limit t) t))

-- a space before each of these pieces, and `between` behind each but the last
abbrev pub further_lines : LineEnd → LineEnd → List Text → List Line
further_lines between last [] = []
further_lines between last (p ∷ []) = line (32 ∷ p) last ∷ []
further_lines between last (p ∷ q ∷ ps) = line (32 ∷ p) between ∷ further_lines between last (q ∷ ps)

abbrev pub folded_lines : LineEnd → LineEnd → List Text → List Line
folded_lines between last [] = []
folded_lines between last (p ∷ []) = line p last ∷ []
folded_lines between last (p ∷ q ∷ ps) = line p between ∷ further_lines between last (q ∷ ps)

-- a text in lines
abbrev pub folded : LineEnd → LineEnd → Text → List Line
folded between last t = folded_lines between last (pieces (length t) 72 t)

-- the bytes of a text in lines, by the bytes of the two ends
abbrev pub folded_bytes : Text → Text → List Text → Text
folded_bytes between last [] = []
folded_bytes between last (p ∷ []) = p ++ last
folded_bytes between last (p ∷ q ∷ ps) = p ++ (between ++ (32 ∷ folded_bytes between last (q ∷ ps)))
