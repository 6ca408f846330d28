-- The first path that is too long, path by path.
use Rattle.std.proofs.Common.{◌≡◌, ◌<◌, ◌≤◌, ℕ, ◌+◌, true, false, List, length, Option, Some, None, sym, ap, ◌∙◌, drop, get_or}
use Rattle.std.specs.Prelude.{◌&&◌, if◌then◌else◌}
use Rattle.std.proofs.lemmas.List.{drop_all}
use Rattle.desk_base.specs.Names.{Text}
use Rattle.desk_intake.specs.Limits.{first_long, is_short, itself}
use Rattle.desk_intake.proofs.Taking.{left_at}

-- a path that is short is passed over
pub short_on : (paths : List Text) (i : ℕ) (path : Text) (all : Option Text) → i < length paths → path ≡ get_or paths i path → is_short path ≡ true → first_long itself (drop i paths) ≡ all → first_long itself (drop (i + 1) paths) ≡ all
short_on paths i path all lt is e h =
    sym (ap (first_long itself) (left_at paths i path lt is) ∙ ap (λ b. if b && b then first_long itself (drop (i + 1) paths) else Some path) e) ∙ h

-- any other is the first that is too long
pub long_here : (paths : List Text) (i : ℕ) (path : Text) (all : Option Text) → i < length paths → path ≡ get_or paths i path → is_short path ≡ false → first_long itself (drop i paths) ≡ all → Some path ≡ all
long_here paths i path all lt is e h =
    sym (ap (first_long itself) (left_at paths i path lt is) ∙ ap (λ b. if b && b then first_long itself (drop (i + 1) paths) else Some path) e) ∙ h

-- where none is left there is none
pub none_long : (paths : List Text) (i : ℕ) (all : Option Text) → length paths ≤ i → first_long itself (drop i paths) ≡ all → None ≡ all
none_long paths i all end h = sym (ap (first_long itself) (drop_all i paths end)) ∙ h
