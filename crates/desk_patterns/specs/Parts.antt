-- Where the source and the target of each rule stand in the texts of all.
use Rattle.std.specs.Prelude.{◌<◌, ◌≤◌, ℕ, ◌-◌, List, map, length, take, drop, slice_index}
use Rattle.desk_base.specs.Names.{Text}
use Rattle.desk_patterns.specs.Seen.{KeptRule}
use Rattle.desk_patterns.specs.declared.kept_rules.Part.{Part}

-- the bytes of a text from one place up to another
abbrev pub text_between : Text → ℕ → ℕ → Text
text_between texts from to = take (to - from) (drop from texts)

abbrev pub rule_seen : Text → Part → KeptRule
rule_seen texts part = record { source = text_between texts part.start part.middle; target = text_between texts part.middle part.end; shorter = part.shorter }

abbrev pub kept_seen : Text → List Part → List KeptRule
kept_seen texts = map (rule_seen texts)

-- a part of a text
pub record IsPart (texts : Text) (start middle end : ℕ) : Type 0 where
  pub source : start ≤ middle
  pub target : middle ≤ end
  pub within : end ≤ length texts

-- each rule has its part
abbrev pub AreParts : Text → List Part → Type 0
AreParts texts parts = (place : ℕ) → place < length parts → IsPart texts (slice_index (map (λ part. part.start) parts) place) (slice_index (map (λ part. part.middle) parts) place) (slice_index (map (λ part. part.end) parts) place)
