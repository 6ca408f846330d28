-- What uses want, each by the image of its text where that is another.
use Rattle.std.specs.Prelude.{◌≡◌, ◌≢◌, ◌<◌, ◌^◌, ℕ, zero, suc, nat_lt, Bool, false, List, map, length, slice_get, Option, Some, None}
use denote.Ref.{Bor}
use Rattle.desk_base.specs.Names.{Text}
use Rattle.desk_base.specs.Entries.{Pool, text_at, utf8_at}
use Rattle.desk_base.specs.declared.kinds.Used.{Used}
use Rattle.desk_format.specs.Split.{Want}
use Rattle.desk_new_pool.specs.declared.wants.WantedText.{WantedText}

-- the image of a number: that at the place before it, and none where there is no such place
abbrev pub numbered : {A : Type 0} → List A → ℕ → Option A
numbered images zero = None
numbered images (suc place) = slice_get images place

-- a use with the image of a number
abbrev pub with_image : List (Bor Text) → Used → ℕ → WantedText
with_image images u n = record { used = u; image = numbered images n }

-- an image where there is one, and else the text itself
abbrev pub image_or : Text → Option (Bor Text) → Text
image_or own None = own
image_or own (Some t) = t.now

abbrev pub want_of : Pool → WantedText → Want
want_of pool w = record { index = w.used.index; text = image_or (text_at pool w.used.index) w.image }

abbrev pub wants_of : Pool → List WantedText → List Want
wants_of pool ws = map (want_of pool) ws

-- an image that is there is not the text itself
abbrev pub Differs : Text → Option (Bor Text) → Type 0
Differs own None = Unit {0}
Differs own (Some t) = t.now ≢ own

-- The use names a Utf8 of at most 65,535 bytes, and its image is given where it is another text.
pub record IsWanted (pool : Pool) (w : WantedText) : Type 0 where
  pub names : (t : Text) × (utf8_at pool w.used.index ≡ Some t)
  pub short : length (text_at pool w.used.index) < 2 ^ 16
  pub differs : Differs (text_at pool w.used.index) w.image

-- an image that a Utf8 can't hold
abbrev pub image_is_long : Option (Bor Text) → Bool
image_is_long None = false
image_is_long (Some t) = nat_lt 65535 (length t.now)
