-- Files of text rules that were read, each once.
use Rattle.std.specs.Prelude.{◌≡◌, ◌<◌, ◌≤◌, ℕ, List, [], take, length, slice_index_or, Some, Ok}
use Rattle.std.specs.Map.{lookup}
use Rattle.std.specs.Str.{bytes_eq}
use Rattle.desk_base.specs.Names.{Text}
use Rattle.desk_patterns.specs.TextRules.{TextRule}
use Rattle.desk_patterns.specs.SeenTexts.{text_seen}
use Rattle.desk_patterns.specs.declared.pattern_texts.PatternPlace.{PatternPlace}
use Rattle.desk_rules.specs.Files.{Files}
use Rattle.desk_rules.specs.TextFiles.{rule_texts, pattern_text}

-- the rules of a file stand at a place
pub record StandsAt (files : Files) (name : Text) (rules : List (List TextRule)) (place : ℕ) : Type 0 where
  pub within : place < length rules
  pub there : rule_texts files name ≡ Ok (slice_index_or rules place [])

-- `places` says where the rules of files stand
pub record IsLoaded (files : Files) (places : List (Text × ℕ)) (rules : List (List TextRule)) : Type 0 where
  pub each : (name : Text) (place : ℕ) → lookup (bytes_eq name) places ≡ Some place → StandsAt files name rules place

-- the first of some rules are those that there were
pub record GoesOn (old new : List (List TextRule)) : Type 0 where
  pub more : length old ≤ length new
  pub front : take (length old) new ≡ old

-- the place of a file's rules, behind those that there were
pub record IsPlaceOf (files : Files) (name : Text) (old : List (List TextRule)) (places : List (Text × ℕ)) (new : List (List TextRule)) (place : ℕ) : Type 0 where
  pub loaded : IsLoaded files places new
  pub goes_on : GoesOn old new
  pub stands : StandsAt files name new place

-- a pattern and the place of its rules, behind those that there were
pub record IsPatternAt (files : Files) (key value : Text) (old : List (List TextRule)) (places : List (Text × ℕ)) (new : List (List TextRule)) (pattern : PatternPlace) : Type 0 where
  pub loaded : IsLoaded files places new
  pub goes_on : GoesOn old new
  pub within : pattern.file < length new
  pub read : pattern_text files (key, value) ≡ Ok (text_seen new pattern)
