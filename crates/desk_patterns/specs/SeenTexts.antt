-- What contracts see of patterns with text rules.
use Rattle.std.specs.Prelude.{◌≡◌, ◌<◌, ℕ, List, [], map, length, slice_index, slice_index_or, Option, Some, None}
use Rattle.desk_patterns.specs.TextRules.{TextRule}
use Rattle.desk_patterns.specs.PatternTexts.{PatternText, FileTexts}
use Rattle.desk_patterns.specs.declared.pattern_texts.PatternPlace.{PatternPlace}
use Rattle.desk_patterns.specs.declared.pattern_texts.PathTexts.{PathTexts}

-- a pattern with the rules of its file
abbrev pub text_seen : List (List TextRule) → PatternPlace → PatternText
text_seen files entry = (entry.pattern, slice_index_or files entry.file [])

abbrev pub texts_seen : List (List TextRule) → List PatternPlace → List PatternText
texts_seen files = map (text_seen files)

-- each pattern names a place of the files
abbrev pub ArePlaces : List (List TextRule) → List PatternPlace → Type 0
ArePlaces files patterns = (k : ℕ) → k < length patterns → slice_index (map (λ entry. entry.file) patterns) k < length files

-- and what stands for rules that are missing has none
pub record IsPatternTexts (files : List (List TextRule)) (patterns : List PatternPlace) (none : List TextRule) : Type 0 where
  pub places : ArePlaces files patterns
  pub missing : none ≡ []

abbrev pub both_seen : Option PathTexts → Option FileTexts
both_seen None = None
both_seen (Some texts) = Some (record { here = texts.here.now; there = texts.there.now })
