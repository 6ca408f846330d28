-- Modified UTF-8 (JVMS 4.4.7). A longer spelling of a shorter form is accepted.
use Rattle.std.specs.Prelude.{◌≡◌, ℕ, ◌+◌, ◌<◌, ◌≤◌, Bool, true, ◌&&◌, nat_le, Option, Some, None, [], ◌∷◌, if◌then◌else◌, slice_index}
use Rattle.desk_base.specs.Names.{Text}

-- 0x01 to 0x7F, which is a form by itself
abbrev pub is_single : ℕ → Bool
is_single a = nat_le 1 a && nat_le a 127

-- the bytes of a text from one place up to another are forms by themselves
abbrev pub AreSingle : Text → ℕ → ℕ → Type 0
AreSingle text from end = (k : ℕ) → from ≤ k → k < end → is_single (slice_index text k) ≡ true

-- 10xxxxxx, which stands behind the first byte of a form
abbrev pub is_continuation : ℕ → Bool
is_continuation b = nat_le 128 b && nat_le b 191

-- 110xxxxx and one continuation
abbrev pub is_pair : ℕ → ℕ → Bool
is_pair a b = (nat_le 192 a && nat_le a 223) && is_continuation b

-- 1110xxxx and two continuations
abbrev pub is_triple : ℕ → ℕ → ℕ → Bool
is_triple a b c = (nat_le 224 a && nat_le a 239) && (is_continuation b && is_continuation c)

-- the place of the first byte that begins no form, where the text's first byte stands at a place; none where the text is
-- forms one behind the other
unfoldable pub bad_from : ℕ → Text → Option ℕ
bad_from at [] = None
bad_from at (a ∷ []) = if is_single a then None else Some at
bad_from at (a ∷ b ∷ []) =
    if is_single a then bad_from (at + 1) (b ∷ [])
    else if is_pair a b then None
    else Some at
bad_from at (a ∷ b ∷ c ∷ t) =
    if is_single a then bad_from (at + 1) (b ∷ c ∷ t)
    else if is_pair a b then bad_from (at + 2) (c ∷ t)
    else if is_triple a b c then bad_from (at + 3) t
    else Some at

-- the offset of the first byte of a text that begins no form
abbrev pub bad_form : Text → Option ℕ
bad_form = bad_from 0

-- how many bytes the form at the front of a text takes; 0 where its first byte begins none
abbrev pub form_size : Text → ℕ
form_size [] = 0
form_size (a ∷ []) = if is_single a then 1 else 0
form_size (a ∷ b ∷ []) = if is_single a then 1 else if is_pair a b then 2 else 0
form_size (a ∷ b ∷ c ∷ t) = if is_single a then 1 else if is_pair a b then 2 else if is_triple a b c then 3 else 0
