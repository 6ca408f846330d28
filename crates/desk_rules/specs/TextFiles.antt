-- The patterns with text rules that a rule folder holds.
use Rattle.std.specs.Prelude.{◌≡◌, List, [], ◌∷◌, Result, Ok, Err, ⊤, is_some, map, if◌then◌else◌}
use Rattle.std.specs.FinMap as finite
use Rattle.std.specs.Map.{lookup}
use Rattle.std.specs.Str.{bytes_eq}
use Rattle.desk_base.specs.Names.{Text}
use Rattle.desk_properties.specs.Properties.{Entry}
use Rattle.desk_entries.specs.Entries.{text_name_of, text_rule_check}
use Rattle.desk_entries.specs.declared.faults.EntryFault.{EntryFault}
use Rattle.desk_patterns.specs.TextRules.{TextRule}
use Rattle.desk_patterns.specs.PatternTexts.{PatternText}
use Rattle.desk_rules.specs.Files.{Files, text_name}
use Rattle.desk_rules.specs.Reads.{◌>>=◌, entries_in, in_order, fault_at, where_ok, all_in}
use Rattle.desk_rules.specs.declared.RuleFault.{RuleFault}
use Rattle.desk_rules.specs.declared.RuleFault.TheVariants.{MissingText}

-- the file that a pattern names, which must be there
abbrev pub named : Files → Text → Result Text EntryFault → Result Text RuleFault
named files key (Err fault) = Err (fault_at text_name key fault)
named files key (Ok name) = if is_some (finite.get files name) then Ok name else Err (MissingText key name)

abbrev pub named_by : Files → Text → Text → Result Text RuleFault
named_by files key value = named files key (text_name_of key value)

abbrev pub one_more : {X : Type 0} → Result X RuleFault → Result (List X) RuleFault → Result (List X) RuleFault
one_more (Err fault) rest = Err fault
one_more (Ok x) (Err fault) = Err fault
one_more (Ok x) (Ok xs) = Ok (x ∷ xs)

-- what comes of items in turn, or the first fault
abbrev pub collect : {A X : Type 0} → (A → Result X RuleFault) → List A → Result (List X) RuleFault
collect f [] = Ok []
collect f (a ∷ others) = one_more (f a) (collect f others)

-- the files that patterns name, in turn, or the first fault
abbrev pub named_entry : Files → Entry → Result Text RuleFault
named_entry files e = named_by files e.0 e.1

abbrev pub named_all : Files → List Entry → Result (List Text) RuleFault
named_all files = collect (named_entry files)

-- names as the keys of entries without values
abbrev pub as_entries : List Text → List Entry
as_entries names = map (λ (name : Text). (name, [])) names

-- entries whose keys are these names
abbrev pub HoldsNames : List Entry → List Text → Type 0
HoldsNames entries names = (q : Text) → lookup (bytes_eq q) entries ≡ lookup (bytes_eq q) (as_entries names)

-- the files that patterns name are these, and stand in a map
pub record IsNamed (files : Files) (es : List Entry) (entries : List Entry) : Type 0 where
  pub names : List Text
  pub read : named_all files es ≡ Ok names
  pub held : HoldsNames entries names

-- names in byte order, each once
abbrev pub by_name : List Text → List Text
by_name names = map (λ (e : Entry). e.0) (in_order (as_entries names))

-- a text rule
abbrev pub text_rule_entry : Text → Text → Result TextRule EntryFault
text_rule_entry key value = where_ok (text_rule_check key) (key, value)

-- the rules of a file
abbrev pub rule_texts : Files → Text → Result (List TextRule) RuleFault
rule_texts files name = all_in files name text_rule_entry

-- the first fault of files of rules
abbrev pub checked_texts : Files → List Text → Result ⊤ RuleFault
checked_texts files [] = Ok tt
checked_texts files (name ∷ names) = rule_texts files name >>= (λ _. checked_texts files names)

-- a pattern, and the rules of the file that it names
abbrev pub pattern_text : Files → Entry → Result PatternText RuleFault
pattern_text files e = named_by files e.0 e.1 >>= (λ name. rule_texts files name >>= (λ rules. Ok (e.0, rules)))

abbrev pub pattern_texts : Files → List Entry → Result (List PatternText) RuleFault
pattern_texts files = collect (pattern_text files)

-- the patterns in the order in which their keys first stand, each with its rules; the keys are looked at in byte order,
-- then the files that they name in byte order of their names
abbrev pub texts_in : Files → Result (List PatternText) RuleFault
texts_in files = do
  entries ← entries_in files text_name
  names ← named_all files (in_order entries)
  checked ← checked_texts files (by_name names)
  pattern_texts files entries

-- the files that the patterns name have no fault, and what is left is to put their rules beside the patterns
pub record AfterCheck (files : Files) : Type 0 where
  pub read : (entries : List Entry) → entries_in files text_name ≡ Ok entries → texts_in files ≡ pattern_texts files entries
