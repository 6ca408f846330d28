-- The key and the value of a logical line.
use Rattle.std.specs.Prelude.{ℕ, Bool, true, false, ◌+◌, ◌-◌, ◌*◌, ◌==◌, ◌&&◌, ◌||◌, nat_le, zero, suc, [], ◌∷◌, ◌++◌, Option, Some, None, Result, Ok, Err, encode_utf8, if◌then◌else◌}
use Rattle.desk_base.specs.Names.{Text, is_digit}
use Rattle.desk_properties.specs.Lines.{Placed, Line, is_backslash, is_white, unindented}

-- `=` or `:`
abbrev pub is_sign_byte : ℕ → Bool
is_sign_byte b = b == 61 || b == 58

abbrev pub is_sign : Placed → Bool
is_sign p = is_sign_byte p.byte

-- a byte that ends the key where no backslash escapes it
abbrev pub is_key_end : Placed → Bool
is_key_end p = is_sign p || is_white p

-- the key as it is written; the flag says whether a backslash before the line escapes its first byte
abbrev pub written_key : Bool → Line → Line
written_key escaped [] = []
written_key true (p ∷ l) = p ∷ written_key false l
written_key false (p ∷ l) = if is_key_end p then [] else p ∷ written_key (is_backslash p) l

-- what stands behind the key
abbrev pub behind_key : Bool → Line → Line
behind_key escaped [] = []
behind_key true (p ∷ l) = behind_key false l
behind_key false (p ∷ l) = if is_key_end p then p ∷ l else behind_key (is_backslash p) l

-- a line without one sign at its front
abbrev pub unsigned : Line → Line
unsigned [] = []
unsigned (p ∷ l) = if is_sign p then l else p ∷ l

-- the value as it is written: white space, at most one sign and white space again stand between it and the key
abbrev pub written_value : Line → Line
written_value l = unindented (unsigned (unindented (behind_key false l)))

abbrev pub is_upper : ℕ → Bool
is_upper b = nat_le 65 b && nat_le b 70

abbrev pub is_lower : ℕ → Bool
is_lower b = nat_le 97 b && nat_le b 102

-- a digit of base 16, in upper or lower case
abbrev pub is_hex : ℕ → Bool
is_hex b = is_digit b || is_upper b || is_lower b

abbrev pub hex_value : ℕ → ℕ
hex_value b = if is_digit b then b - 48 else if is_upper b then b - 55 else b - 87

-- the number that so many hexadecimal digits at the front of a line make, behind the digits of a number; none where
-- fewer stand there
abbrev pub hex_number : ℕ → ℕ → Line → Option ℕ
hex_number number zero l = Some number
hex_number number (suc count) [] = None
hex_number number (suc count) (p ∷ l) =
    if is_hex p.byte then hex_number (16 * number + hex_value p.byte) count l else None

-- the number of a surrogate
abbrev pub is_surrogate : ℕ → Bool
is_surrogate n = nat_le 0xD800 n && nat_le n 0xDFFF

-- what a byte behind a backslash stands for
abbrev pub escaped : ℕ → ℕ
escaped b = if b == 116 then 9 else if b == 110 then 10 else if b == 114 then 13 else if b == 102 then 12 else b

-- what an escape stands for, and how many bytes behind the backslash belong to it
pub record Escape : Type 0 where
  pub text : Text
  pub size : ℕ

-- the character of a number, whose four digits stand behind `\u`
abbrev pub escape_of_number : Option ℕ → Option Escape
escape_of_number None = None
escape_of_number (Some n) = if is_surrogate n then None else Some (record { text = encode_utf8 n; size = 5 })

-- the escape whose backslash stands before a line; none where it is faulty
abbrev pub escape_of : Line → Option Escape
escape_of [] = Some (record { text = []; size = 0 })
escape_of (p ∷ l) =
    if p.byte == 117 then escape_of_number (hex_number 0 4 l) else Some (record { text = escaped p.byte ∷ []; size = 1 })

-- a text before another, which may be a fault
abbrev pub before : {F : Type 0} → Text → Result Text F → Result Text F
before text (Ok more) = Ok (text ++ more)
before text (Err fault) = Err fault

-- what a key or value stands for as it is written, or the place of its first faulty escape; the first bytes, so many,
-- belong to an escape before them
abbrev pub unescaped : ℕ → Line → Result Text ℕ
unescaped skipped [] = Ok []
unescaped (suc skipped) (p ∷ l) = unescaped skipped l
unescaped zero (p ∷ l) =
    if is_backslash p
    then elim (escape_of l) [ Some escape ↦ before escape.text (unescaped escape.size l) | None ↦ Err p.at ]
    else before (p.byte ∷ []) (unescaped 0 l)
