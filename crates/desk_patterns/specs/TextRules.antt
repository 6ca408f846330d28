-- Rules that exchange texts.
use Rattle.std.specs.Prelude.{◌≡◌, ◌<◌, ℕ, false, nat_eq, nat_lt, zero, suc, List, [], ◌∷◌, length, Option, Some, None, if◌then◌else◌}
use Rattle.std.specs.List.{starts_with}
use Rattle.std.specs.Cmp.Lexicographic.{slice_cmp}
use Rattle.std.specs.Ordering.{nat_cmp}
use Rattle.std.specs.declared.cmp.Ordering.TheVariants.{Less}
use Rattle.desk_base.specs.Names.{Text, is_empty}

-- a source, and its target
abbrev pub TextRule : Type 0
TextRule = Text × Text

-- so many bytes are exchanged for a target
pub record Hit : Type 0 where
  pub taken : ℕ
  pub target : Text

-- what a rule exchanges at the front of a text
abbrev pub hit_of : TextRule → Text → Option Hit
hit_of rule text = if starts_with nat_eq text rule.0 then Some (record { taken = length rule.0; target = rule.1 }) else None

-- the hit that takes more bytes
abbrev pub longer : Option Hit → Option Hit → Option Hit
longer None other = other
longer (Some hit) None = Some hit
longer (Some hit) (Some other) = if nat_lt hit.taken other.taken then Some other else Some hit

-- the longest source at the front of a text, and its target
abbrev pub longest : List TextRule → Text → Option Hit
longest [] text = None
longest (rule ∷ rules) text = longer (hit_of rule text) (longest rules text)

-- the source of the rule at a place
abbrev pub source_at : List TextRule → ℕ → Text
source_at [] place = []
source_at (rule ∷ rules) zero = rule.0
source_at (rule ∷ rules) (suc place) = source_at rules place

-- each rule has a source
abbrev pub HaveSources : List TextRule → Type 0
HaveSources rules = (place : ℕ) → place < length rules → is_empty (source_at rules place) ≡ false

-- a source stands behind those of rules in byte order
abbrev pub StandsBehind : List TextRule → Text → Type 0
StandsBehind rules source = (place : ℕ) → place < length rules → slice_cmp nat_cmp (source_at rules place) source ≡ Less
