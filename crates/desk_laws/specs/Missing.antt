-- The law of the texts that a new pool appends.
use Rattle.std.specs.Prelude.{◌≡◌, Bool, false, not, ◌&&◌, ◌||◌, List, [], ◌∷◌}
use Rattle.std.specs.Str.{bytes_eq}
use Rattle.std.specs.Ordering.{nat_cmp}
use Rattle.std.specs.Cmp.Lexicographic.{slice_cmp}
use Rattle.std.specs.declared.cmp.Ordering.TheVariants.{Less}
use Rattle.desk_base.specs.Names.{Text}
use Rattle.desk_base.specs.Entries.{Pool}
use Rattle.desk_base.specs.declared.kinds.Used.{Used}
use Rattle.desk_format.specs.Resolved.{Images}
use Rattle.desk_format.specs.Split.{Want, holds, kept, has_text}
use Rattle.desk_format.specs.NewPool.{wants, added}

-- a text stands before the first of others in byte order
abbrev pub Before : Text → List Text → Type 0
Before t [] = Unit {0}
Before t (s ∷ ss) = slice_cmp nat_cmp t s ≡ Less

-- texts in byte order, each once
abbrev pub IsAscending : List Text → Type 0
IsAscending [] = Unit {0}
IsAscending (t ∷ ts) = Before t ts × IsAscending ts

-- whether some use wants a text
abbrev pub is_wanted : List Want → Text → Bool
is_wanted [] t = false
is_wanted (w ∷ ws) t = bytes_eq w.text t || is_wanted ws t

-- The appended texts ascend, and are exactly those that some use wants and no entry keeps.
pub record AreMissing (im : Images) (old : Pool) (us : List Used) : Type 0 where
  pub ascending : IsAscending (added im old us)
  pub exact : (t : Text) → holds (added im old us) t ≡ (is_wanted (wants im old us) t && not (has_text t (kept (wants im old us) 1 old)))

abbrev pub MissingTexts : Type 0
MissingTexts = (im : Images) (old : Pool) (us : List Used) → AreMissing im old us
