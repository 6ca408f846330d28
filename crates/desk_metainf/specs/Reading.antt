-- The provider name in a line, and the line with it exchanged.
use Rattle.std.specs.Prelude.{◌≡◌, ◌≤◌, ℕ, ◌+◌, ◌-◌, Bool, not, ◌++◌, length, take, drop}
use Rattle.std.specs.Str.{bytes_eq}
use Rattle.desk_base.specs.Names.{Text}
use Rattle.desk_lines.specs.Cuts.{until}
use Rattle.desk_lines.specs.Blanks.{leading_blanks}
use Rattle.desk_metainf.specs.Services.{is_hash, provider}

-- the provider name of a line's content stands from the one place up to the other
pub record IsProviderAt (content : Text) (from to : ℕ) : Type 0 where
  pub from_is : from ≡ length (leading_blanks (until is_hash content))
  pub to_is : to ≡ from + length (provider content)
  pub in_order : from ≤ to
  pub inside : to ≤ length content

-- a content with the bytes between two places exchanged for their image
abbrev pub exchanged : (Text → Text) → ℕ → ℕ → Text → Text
exchanged image from to content = take from content ++ (image (take (to - from) (drop from content)) ++ drop to content)

-- whether that image differs from them
abbrev pub is_exchanged : (Text → Text) → ℕ → ℕ → Text → Bool
is_exchanged image from to content = not (bytes_eq (image (take (to - from) (drop from content))) (take (to - from) (drop from content)))
