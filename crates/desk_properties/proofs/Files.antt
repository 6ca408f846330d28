-- A property file as a whole.
use Rattle.std.proofs.Common.{◌≡◌, ℕ, ◌<◌, ◌≤◌, Bool, true, false, cond, ◌==◌, List, [], ◌∷◌, length, Result, Ok, Err, refl, sym, ap, ◌∙◌, arith}
use Rattle.std.specs.Str.{IsUtf8, is_utf8}
use Rattle.std.specs.Str.Lossy.{utf8_valid_len}
use Rattle.std.specs.Cmp.Lexicographic.{pointwise}
use Rattle.std.proofs.lemmas.Str.{IsUtf8-from_is_utf8}
use Rattle.indexmap.specs.IndexMap.{insert_entry}
use Rattle.desk_base.specs.Names.{Text}
use Rattle.desk_properties.specs.Lines.{Line, unindented, is_skipped, is_continued, with_continued, logical_lines}
use Rattle.desk_properties.specs.Properties.{Entry, entries_from, entries_of, gathered, text_properties, properties, IsPropError}
use Rattle.desk_properties.specs.Reading.{natural_from, natural_line_from, natural_behind, line_from, lines_behind, lines_from, is_passed, IsUnindented, IsNextLine, IsEntryRead, IsEntryFault}
use Rattle.desk_properties.specs.declared.PropFault.{PropFault}
use Rattle.desk_properties.specs.declared.PropFault.TheVariants.{NotUtf8, Escape}
use Rattle.desk_properties.specs.declared.PropError.{PropError}
use Rattle.desk_properties.specs.declared.PropError.TheVariants.{Fault, Memory}
use Rattle.std.proofs.lemmas.Bool.{eqb-true}
use Rattle.desk_properties.proofs.Parts.{lt_from}
use Rattle.desk_properties.proofs.Logical.{continued_unindented}
use Rattle.desk_properties.proofs.Places.{natural_parts, last_at}

pub not_utf8 : (bytes : Text) → (IsUtf8 bytes → ⊥) → is_utf8 bytes ≡ false
not_utf8 bytes h = elim (is_utf8 bytes) as (λ (x : Bool). is_utf8 bytes ≡ x → x ≡ false) [ true ↦ λ e. absurd (h (IsUtf8-from_is_utf8 bytes e)) | false ↦ λ _. refl ] refl

-- the entries of the lines up to an offset were gathered
pub record IsReadSoFar (file : Text) (done : List Entry) (at : ℕ) : Type 0 where
  pub inside : at ≤ length file
  pub rest : gathered done (entries_of (lines_from file at)) ≡ text_properties file

pub read_none : (file : Text) → IsReadSoFar file [] 0
unfolding lines_from natural_from
read_none file = record { inside = omega arith; rest = refl }

-- the logical lines from an offset on, as those from where its white space ends
lines_parts : (file : Text) (at start : ℕ) → IsUnindented file at start → lines_from file at ≡ cond (is_passed (natural_line_from file start)) (logical_lines false (natural_behind file start)) (line_from file start ∷ lines_behind file start)
unfolding lines_from line_from lines_behind
lines_parts file at start white =
    let l : Line = natural_line_from file at in
    ap (logical_lines false) (natural_parts file at)
    ∙ ap (λ (ls : List Line). cond (is_skipped l) (logical_lines false ls) (with_continued (unindented l) ls ∷ logical_lines (is_continued l) ls)) (sym white.behind)
    ∙ ap (λ (x : Bool). cond (is_skipped l) (logical_lines false (natural_behind file start)) (with_continued (unindented l) (natural_behind file start) ∷ logical_lines x (natural_behind file start))) (sym (continued_unindented l))
    ∙ ap (λ (m : Line). cond (is_passed m) (logical_lines false (natural_behind file start)) (with_continued m (natural_behind file start) ∷ logical_lines (is_continued m) (natural_behind file start))) (sym white.line)

pub read_passed : (file : Text) (done : List Entry) (at start next : ℕ) → IsReadSoFar file done at → IsUnindented file at start → is_passed (natural_line_from file start) ≡ true → IsNextLine file start next → IsReadSoFar file done next
read_passed file done at start next so white passed line = record {
  inside = line.inside;
  rest = ap (λ (ls : List Line). gathered done (entries_of ls)) (line.lines ∙ sym (lines_parts file at start white ∙ ap (λ (x : Bool). cond x (logical_lines false (natural_behind file start)) (line_from file start ∷ lines_behind file start)) passed)) ∙ so.rest;
}

lines_entry : (file : Text) (at start : ℕ) → IsUnindented file at start → is_passed (natural_line_from file start) ≡ false → lines_from file at ≡ line_from file start ∷ lines_behind file start
lines_entry file at start white passed = lines_parts file at start white ∙ ap (λ (x : Bool). cond x (logical_lines false (natural_behind file start)) (line_from file start ∷ lines_behind file start)) passed

gathered_more : (done : List Entry) (entry : Entry) (r : Result (List Entry) ℕ) → gathered done (entries_from (Ok entry) r) ≡ gathered (insert_entry (pointwise ◌==◌) done entry.0 entry.1) r
gathered_more done entry (Ok entries) = refl
gathered_more done entry (Err at) = refl

pub read_more : (file : Text) (done new : List Entry) (at start : ℕ) (key value : Text) (next : ℕ) → IsReadSoFar file done at → IsUnindented file at start → is_passed (natural_line_from file start) ≡ false → IsEntryRead file start key value next → new ≡ insert_entry (pointwise ◌==◌) done key value → IsReadSoFar file new next
read_more file done new at start key value next so white passed read e = record {
  inside = read.inside;
  rest = ap (λ (ls : List Entry). gathered ls (entries_of (lines_from file next))) e
      ∙ ap (λ (ls : List Line). gathered (insert_entry (pointwise ◌==◌) done key value) (entries_of ls)) read.lines
      ∙ sym (gathered_more done (key, value) (entries_of (lines_behind file start)))
      ∙ sym (ap (λ (r : Result Entry ℕ). gathered done (entries_from r (entries_of (lines_behind file start)))) read.entry_is)
      ∙ sym (ap (λ (ls : List Line). gathered done (entries_of ls)) (lines_entry file at start white passed))
      ∙ so.rest;
}

abbrev properties_case : Text → Bool → Result (List Entry) PropFault
properties_case file true = text_properties file
properties_case file false = Err (NotUtf8 (utf8_valid_len file))

properties_of : (file : Text) (x : Bool) → is_utf8 file ≡ x → properties file ≡ properties_case file x
properties_of file x e = (elim (is_utf8 file) as (λ (y : Bool). elim y as (λ _. Result (List Entry) PropFault) [ true ↦ text_properties file | false ↦ Err (NotUtf8 (utf8_valid_len file)) ] ≡ properties_case file y) [ true ↦ refl | false ↦ refl ]) ∙ ap (properties_case file) e

pub read_end : (file : Text) (done : List Entry) (at : ℕ) → is_utf8 file ≡ true → IsReadSoFar file done at → length file ≤ at → properties file ≡ Ok done
unfolding lines_from
read_end file done at well so past =
    let none : lines_from file at ≡ [] = ap (logical_lines false) (natural_parts file at) ∙ ap (λ (l : Line). logical_lines false (l ∷ natural_behind file at)) (last_at file at past).line ∙ ap (logical_lines false) (last_at file at past).behind in
    properties_of file true well ∙ sym so.rest ∙ ap (λ (ls : List Line). gathered done (entries_of ls)) none

pub read_fault : (file : Text) (done : List Entry) (at start : ℕ) (error : PropError) → is_utf8 file ≡ true → IsReadSoFar file done at → IsUnindented file at start → is_passed (natural_line_from file start) ≡ false → IsEntryFault file start error → IsPropError file error
read_fault file done at start (Fault (Escape place)) well so white passed fault =
    properties_of file true well ∙ sym so.rest ∙ ap (λ (ls : List Line). gathered done (entries_of ls)) (lines_entry file at start white passed) ∙ ap (λ (r : Result Entry ℕ). gathered done (entries_from r (entries_of (lines_behind file start)))) fault
read_fault file done at start (Fault (NotUtf8 place)) well so white passed fault = absurd fault
read_fault file done at start Memory well so white passed fault = tt

pub within_passed : (file : Text) (at : ℕ) → at ≤ length file → is_passed (natural_line_from file at) ≡ false → at < length file
within_passed file at h go = elim (at == length file) as (λ (x : Bool). (at == length file) ≡ x → at < length file) [
  | true ↦ λ e. absurd (passed (sym (ap is_passed (last_at file at (omega (arith, eqb-true at (length file) e))).line) ∙ go))
  | false ↦ λ e. lt_from at (length file) h e
] refl
  where
    passed : true ≡ false → ⊥
    passed k = cc
