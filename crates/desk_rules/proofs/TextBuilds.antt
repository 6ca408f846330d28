-- What follows each step of reading the text rules.
use Rattle.std.proofs.Common.{◌≡◌, List, Result, Ok, map, sym, ap, ◌∙◌}
use Rattle.desk_base.specs.Names.{Text}
use Rattle.desk_properties.specs.Properties.{Entry}
use Rattle.desk_patterns.specs.PatternTexts.{PatternText}
use Rattle.desk_rules.specs.Files.{Files, text_name}
use Rattle.desk_rules.specs.Reads.{◌>>=◌, entries_in, in_order}
use Rattle.desk_rules.specs.TextFiles.{named_all, by_name, checked_texts, pattern_texts, texts_in, IsNamed}
use Rattle.desk_rules.specs.Builds.{IsFaultOf}
use Rattle.desk_rules.specs.declared.RuleFault.{RuleFault}
use Rattle.desk_rules.specs.declared.BuildFault.{BuildFault}
use Rattle.desk_rules.specs.declared.BuildFault.TheVariants.{Rules, Memory}
use Rattle.desk_rules.proofs.Faults.{fault_first, fault_next, ok_next}
use Rattle.desk_rules.proofs.TextTurns.{names_in_order}

-- what was read twice is the same
pub read_again : {A : Type 0} (r : Result A RuleFault) (a b : A) → r ≡ Ok a → r ≡ Ok b → a ≡ b
read_again r a b h k = cc

module _ (files : Files) where
  abbrev after_names : List Entry → List Text → Result (List PatternText) RuleFault
  after_names entries names = checked_texts files (by_name names) >>= (λ checked. pattern_texts files entries)

  abbrev after_entries : List Entry → Result (List PatternText) RuleFault
  after_entries entries = named_all files (in_order entries) >>= after_names entries

  module _ (entries : List Entry) (read_entries : entries_in files text_name ≡ Ok entries) (sorted : List Entry) (sorted_is : sorted ≡ in_order entries) where
    pub named_refused : (e : BuildFault) → IsFaultOf (named_all files sorted) e → IsFaultOf (texts_in files) e
    named_refused (Rules fault) h = fault_next (entries_in files text_name) entries after_entries (Rules fault) read_entries (fault_first (named_all files (in_order entries)) (after_names entries) (Rules fault) (ap (named_all files) (sym sorted_is) ∙ h))
    named_refused Memory h = tt

    module _ (held : List Entry) (is : IsNamed files sorted held) (in_turn : List Entry) (in_turn_is : in_turn ≡ in_order held) where
      read_names : named_all files (in_order entries) ≡ Ok is.names
      read_names = ap (named_all files) (sym sorted_is) ∙ is.read

      names_are : checked_texts files (by_name is.names) ≡ checked_texts files (map (λ e. e.0) in_turn)
      names_are = ap (checked_texts files) (sym (names_in_order held in_turn is.names is.held in_turn_is))

      pub checked_refused : (e : BuildFault) → IsFaultOf (checked_texts files (map (λ e. e.0) in_turn)) e → IsFaultOf (texts_in files) e
      checked_refused (Rules fault) h =
          fault_next (entries_in files text_name) entries after_entries (Rules fault) read_entries
          (fault_next (named_all files (in_order entries)) is.names (after_names entries) (Rules fault) read_names
          (fault_first (checked_texts files (by_name is.names)) (λ checked. pattern_texts files entries) (Rules fault) (names_are ∙ h)))
      checked_refused Memory h = tt

      pub texts_read : checked_texts files (map (λ e. e.0) in_turn) ≡ Ok tt → (again : List Entry) → entries_in files text_name ≡ Ok again → texts_in files ≡ pattern_texts files again
      texts_read checked again read =
          ok_next (entries_in files text_name) entries after_entries read_entries
          ∙ ok_next (named_all files (in_order entries)) is.names (after_names entries) read_names
          ∙ ok_next (checked_texts files (by_name is.names)) tt (λ checked. pattern_texts files entries) (names_are ∙ checked)
          ∙ ap (pattern_texts files) (read_again (entries_in files text_name) entries again read_entries read)
