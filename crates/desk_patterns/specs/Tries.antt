-- How far a pattern and a path were gone through.
use Rattle.std.specs.Prelude.{◌≡◌, ◌≤◌, ℕ, ◌+◌, ◌*◌, ◌-◌, Bool, true, false, ◌||◌, length, drop, Option, Some, None}
use Rattle.desk_base.specs.Names.{Text}
use Rattle.desk_patterns.specs.Patterns.{fits, any_end}
use Rattle.desk_patterns.specs.declared.patterns.Retry.{Retry}
use Rattle.desk_patterns.specs.declared.patterns.Try.{Try}

-- whether the pattern behind the last star fits the path from a later place on
abbrev pub fits_later : Text → Text → Option Retry → Bool
fits_later pattern path None = false
fits_later pattern path (Some last) = any_end (fits (drop last.pattern pattern)) (drop (last.path + 1) path)

abbrev pub IsRetry : Text → Try → Option Retry → Type 0
IsRetry pattern at None = Unit {0}
IsRetry pattern at (Some last) = (last.pattern ≤ length pattern) × (last.path ≤ at.path)

-- the pattern fits where what is left of it fits what is left of the path, or where it fits from a later place on; and
-- whatever begins later can begin with the star that was passed last
pub record IsTry (pattern path : Text) (at : Try) : Type 0 where
  pub pattern_inside : at.pattern ≤ length pattern
  pub path_inside : at.path ≤ length path
  pub retry_inside : IsRetry pattern at at.retry
  pub same : fits pattern path ≡ (fits (drop at.pattern pattern) (drop at.path path) || fits_later pattern path at.retry)
  pub covered : fits_later pattern path at.retry ≡ true → any_end (fits (drop at.pattern pattern)) (drop (at.path + 1) path) ≡ true

-- how many places are left for a retry
abbrev pub retries_left : Text → Option Retry → ℕ
retries_left path None = length path + 1
retries_left path (Some last) = length path - last.path

-- falls with each step
abbrev pub room : Text → Text → Try → ℕ
room pattern path at = retries_left path at.retry * (length pattern + length path + 2) + (length pattern - at.pattern) + (length path - at.path)
