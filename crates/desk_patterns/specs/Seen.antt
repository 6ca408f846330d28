-- What contracts see of a hit, and of rules.
use Rattle.std.specs.Prelude.{◌≡◌, ◌≤◌, ◌<◌, ◌+◌, ℕ, List, map, length, drop, Option, Some, None}
use Rattle.desk_base.specs.Names.{Text}
use Rattle.desk_patterns.specs.TextRules.{Hit, TextRule, longest}
use Rattle.desk_patterns.specs.declared.text_rules.TextHit.{TextHit}
use Rattle.desk_patterns.specs.declared.text_rules.TextPlace.{TextPlace}

-- a rule, and one more than the place of the longest other source that starts its own
pub record KeptRule : Type 0 where
  pub source : Text
  pub target : Text
  pub shorter : ℕ

abbrev pub hit_seen : Option TextHit → Option Hit
hit_seen None = None
hit_seen (Some hit) = Some (record { taken = hit.taken; target = hit.target.now })

abbrev pub rules_seen : List KeptRule → List TextRule
rules_seen = map (λ rule. (rule.source, rule.target))

-- for each rule, where the last before it stands whose source starts its own
abbrev pub shorter_seen : List KeptRule → List ℕ
shorter_seen = map (λ rule. rule.shorter)

-- from one place of a text up to another, no source starts
abbrev pub NoHits : List TextRule → Text → ℕ → ℕ → Type 0
NoHits rules text from to = (k : ℕ) → from ≤ k → k < to → longest rules (drop k text) ≡ None

-- a place of a text, from one on, before which no source starts
pub record IsStart (rules : List TextRule) (text : Text) (from at : ℕ) : Type 0 where
  pub low : from ≤ at
  pub high : at ≤ length text
  pub before : NoHits rules text from at

-- the first place of a text, from one on, at which a source stands, and the longest that does
pub record IsPlaceFrom (rules : List TextRule) (text : Text) (from : ℕ) (place : TextPlace) : Type 0 where
  pub low : from ≤ place.at
  pub before : NoHits rules text from place.at
  pub hit : hit_seen (Some place.hit) ≡ longest rules (drop place.at text)
  pub some : 0 < place.hit.taken
  pub inside : place.at + place.hit.taken ≤ length text
