-- Texts as they are shown in a report.
use Rattle.std.specs.Prelude.{ℕ, Bool, not, ◌&&◌, ◌==◌, ◌+◌, ◌/◌, ◌%◌, nat_le, nat_lt, [], ◌∷◌, if◌then◌else◌}
use Rattle.std.specs.List.{flat_map}
use Rattle.desk_base.specs.Names.{Text}

-- a byte from 0x21 to 0x7E other than `\`
abbrev pub is_plain : ℕ → Bool
is_plain b = nat_le 33 b && (nat_le b 126 && not (b == 92))

-- a digit of base 16, in lower case
abbrev pub hex_digit : ℕ → ℕ
hex_digit n = if nat_lt n 10 then 48 + n else 87 + n

-- a plain byte stands for itself; another is `\` and two digits of base 16
abbrev pub shown_byte : ℕ → Text
shown_byte b = if is_plain b then b ∷ [] else 92 ∷ hex_digit (b / 16) ∷ hex_digit (b % 16) ∷ []

-- each byte in its order; the empty text is `\-`
abbrev pub shown : Text → Text
shown [] = 92 ∷ 45 ∷ []
shown (b ∷ t) = flat_map shown_byte (b ∷ t)
