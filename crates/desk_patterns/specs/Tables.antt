-- Text rules as they are searched: in byte order of their sources, each with the longest other source that starts its own.
use Rattle.std.specs.Prelude.{◌≡◌, ◌≤◌, ◌<◌, ◌-◌, ℕ, Bool, true, false, ◌==◌, nat_eq, zero, suc, List, [], ◌∷◌, length, slice_index, if◌then◌else◌}
use Rattle.std.specs.List.{starts_with}
use Rattle.std.specs.Cmp.Lexicographic.{slice_cmp}
use Rattle.std.specs.Ordering.{nat_cmp, is_gt}
use Rattle.std.specs.declared.cmp.Ordering.TheVariants.{Less}
use Rattle.desk_base.specs.Names.{Text}
use Rattle.desk_patterns.specs.TextRules.{TextRule, source_at, HaveSources}
use Rattle.desk_patterns.specs.FirstBytes.{is_first}

-- the sources stand in byte order, each once
abbrev pub Rise : List TextRule → Type 0
Rise rules = (i j : ℕ) → i < j → j < length rules → slice_cmp nat_cmp (source_at rules i) (source_at rules j) ≡ Less

-- whether a source starts a text
abbrev pub starts : Text → Text → Bool
starts text source = starts_with nat_eq text source

-- whether a source stands behind a text in byte order
abbrev pub is_behind : Text → Text → Bool
is_behind text source = is_gt (slice_cmp nat_cmp source text)

-- none of so many rules has a source behind a text
abbrev pub NotBehind : List TextRule → Text → ℕ → Type 0
NotBehind rules text count = (k : ℕ) → k < count → is_behind text (source_at rules k) ≡ false

-- the sources before low don't stand behind a text, and those from high on do
pub record IsCut (rules : List TextRule) (text : Text) (low high : ℕ) : Type 0 where
  pub order : low ≤ high
  pub within : high ≤ length rules
  pub before : NotBehind rules text low
  pub behind : (k : ℕ) → high ≤ k → k < length rules → is_behind text (source_at rules k) ≡ true

-- how many first bytes two texts share
abbrev pub shared : Text → Text → ℕ
shared [] t = 0
shared (b ∷ s) [] = 0
shared (b ∷ s) (c ∷ t) = if b == c then suc (shared s t) else 0

-- how many first bytes a text shares with the last of so many sources; 0 where there is none
pub record IsSharedBefore (rules : List TextRule) (text : Text) (count bytes : ℕ) : Type 0 where
  pub none : count ≡ 0 → bytes ≡ 0
  pub some : 0 < count → bytes ≡ shared (source_at rules (count - 1)) text

-- how many first bytes a text shares with the source at a place; 0 where there is none
pub record IsSharedAt (rules : List TextRule) (text : Text) (place bytes : ℕ) : Type 0 where
  pub none : length rules ≤ place → bytes ≡ 0
  pub some : place < length rules → bytes ≡ shared (source_at rules place) text

-- the target of the rule at a place
unfoldable pub target_at : List TextRule → ℕ → Text
target_at [] place = []
target_at (rule ∷ rules) zero = rule.1
target_at (rule ∷ rules) (suc place) = target_at rules place

-- one more than the place of the last of so many rules whose source starts a text; 0 where there is none
abbrev pub last_start : Text → List TextRule → ℕ → ℕ
last_start text rules zero = 0
last_start text rules (suc count) = if starts text (source_at rules count) then suc count else last_start text rules count

-- `shorter` says for each rule which of those before it is the last whose source starts its own
pub record IsTable (rules : List TextRule) (shorter : List ℕ) : Type 0 where
  pub sources : HaveSources rules
  pub rising : Rise rules
  pub shorter_count : length shorter ≡ length rules
  pub shorter_are : (place : ℕ) → place < length rules → slice_index shorter place ≡ last_start (source_at rules place) rules place

-- the first byte of a text that has one
abbrev pub first_byte : Text → ℕ
first_byte [] = 0
first_byte (b ∷ t) = b

-- and `firsts` says which bytes the sources begin with
pub record IsTextTable (rules : List TextRule) (shorter : List ℕ) (firsts : List Bool) : Type 0 where
  pub table : IsTable rules shorter
  pub firsts_count : length firsts ≡ 256
  pub firsts_are : (place : ℕ) → place < length rules → is_first firsts (first_byte (source_at rules place)) ≡ true
