-- Names that were put into a set lately.
use Rattle.std.specs.Prelude.{◌≡◌, ℕ, Bool, true, List, Option, Some, slice_get}
use denote.Ref.{Bor}
use Rattle.desk_base.specs.Names.{Text}

-- each that is kept at a place passes a test
abbrev pub AreRecent : List (Option (Bor (List ℕ))) → (Text → Bool) → Type 0
AreRecent recent test = (i : ℕ) (kept : Bor (List ℕ)) → slice_get recent i ≡ Some (Some kept) → test kept.now ≡ true
