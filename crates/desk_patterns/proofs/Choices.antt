-- Choices of a selection, and patterns with text rules, one after the other.
use mathlib.Core.Bool.{and-false, and-true}
use Rattle.std.proofs.Common.{◌≡◌, ℕ, ◌+◌, ◌<◌, ◌≤◌, Bool, true, false, cond, not, ◌&&◌, ◌||◌, List, [], ◌∷◌, length, drop, get_or, Some, None, refl, sym, ap, ◌∙◌, add-one, arith}
use Rattle.std.specs.List.{list_any}
use Rattle.std.proofs.lemmas.List.{drop_all}
use Rattle.desk_base.specs.Names.{Text}
use Rattle.desk_patterns.specs.Patterns.{fits}
use Rattle.desk_patterns.specs.Selections.{Choice, selects, includes, excludes}
use Rattle.desk_patterns.specs.SeenChoices.{choices_seen}
use Rattle.desk_patterns.specs.declared.selections.Choice.{Choice as KeptChoice}
use Rattle.desk_patterns.specs.TextRules.{TextRule}
use Rattle.desk_patterns.specs.PatternTexts.{PatternText, texts_of}
use Rattle.desk_patterns.specs.SeenTexts.{text_seen, texts_seen, ArePlaces}
use Rattle.desk_patterns.specs.declared.pattern_texts.PatternPlace.{PatternPlace}
use Rattle.desk_patterns.proofs.Lists.{item_there, seen_there, map_length}

any_seen : (p : Choice → Bool) (items : List KeptChoice) → list_any p (choices_seen items) ≡ list_any (λ choice. p (choice.pattern, choice.excludes)) items
any_seen p [] = refl
any_seen p (c ∷ items) = ap (λ (x : Bool). p (c.pattern, c.excludes) || x) (any_seen p items)

abbrev selected : Bool → Bool → Bool → Bool
selected some fitting excluded = (not some || fitting) && not excluded

parts : (items : List KeptChoice) (path : Text) (some fitting excluded : Bool) → some ≡ list_any (λ choice. not choice.excludes) items → fitting ≡ list_any (λ choice. not choice.excludes && fits choice.pattern path) items → excluded ≡ list_any (λ choice. choice.excludes && fits choice.pattern path) items → selects (choices_seen items) path ≡ selected some fitting excluded
parts items path some fitting excluded a b c =
    ap (λ (x : Bool). selected x (list_any (includes path) (choices_seen items)) (list_any (excludes path) (choices_seen items))) (any_seen (λ choice. not choice.1) items ∙ sym a)
    ∙ ap (λ (x : Bool). selected some x (list_any (excludes path) (choices_seen items))) (any_seen (includes path) items ∙ sym b)
    ∙ ap (λ (x : Bool). selected some fitting x) (any_seen (excludes path) items ∙ sym c)

pub select_excluded : (items : List KeptChoice) (path : Text) (excluded : Bool) → excluded ≡ list_any (λ choice. choice.excludes && fits choice.pattern path) items → excluded ≡ true → false ≡ selects (choices_seen items) path
select_excluded items path excluded c e = sym (parts items path _ _ excluded refl refl c ∙ ap (selected (list_any (λ choice. not choice.excludes) items) (list_any (λ choice. not choice.excludes && fits choice.pattern path) items)) e ∙ and-false _)

pub select_included : (items : List KeptChoice) (path : Text) (some fitting excluded : Bool) → some ≡ list_any (λ choice. not choice.excludes) items → fitting ≡ list_any (λ choice. not choice.excludes && fits choice.pattern path) items → excluded ≡ list_any (λ choice. choice.excludes && fits choice.pattern path) items → excluded ≡ false → some ≡ true → fitting ≡ selects (choices_seen items) path
select_included items path some fitting excluded a b c e s = sym (parts items path some fitting excluded a b c ∙ ap (selected some fitting) e ∙ ap (λ (x : Bool). selected x fitting false) s ∙ and-true fitting)

pub select_all : (items : List KeptChoice) (path : Text) (some excluded : Bool) → some ≡ list_any (λ choice. not choice.excludes) items → excluded ≡ list_any (λ choice. choice.excludes && fits choice.pattern path) items → excluded ≡ false → some ≡ false → true ≡ selects (choices_seen items) path
select_all items path some excluded a c e s = sym (parts items path some _ excluded a refl c ∙ ap (selected some (list_any (λ choice. not choice.excludes && fits choice.pattern path) items)) e ∙ ap (λ (x : Bool). selected x (list_any (λ choice. not choice.excludes && fits choice.pattern path) items) false) s)

text_there : (files : List (List TextRule)) (items : List PatternPlace) (n : ℕ) (x : PatternPlace) → n < length items → x ≡ get_or items n x → drop n (texts_seen files items) ≡ text_seen files x ∷ drop (n + 1) (texts_seen files items)
text_there files items n x h e = item_there {B = PatternText} (text_seen files) items n x h e ∙ ap (λ (m : ℕ). text_seen files x ∷ drop m (texts_seen files items)) (sym (add-one n))

pub texts_more : (files : List (List TextRule)) (items : List PatternPlace) (path : Text) (n : ℕ) (x : PatternPlace) → n < length items → x ≡ get_or items n x → fits x.pattern path ≡ false → texts_of (drop n (texts_seen files items)) path ≡ texts_of (texts_seen files items) path → texts_of (drop (n + 1) (texts_seen files items)) path ≡ texts_of (texts_seen files items) path
texts_more files items path n x h e miss so = sym (ap (λ (ts : List PatternText). texts_of ts path) (text_there files items n x h e) ∙ ap (λ (y : Bool). cond y (Some (get_or files x.file [])) (texts_of (drop (n + 1) (texts_seen files items)) path)) miss) ∙ so

pub texts_found : (files : List (List TextRule)) (items : List PatternPlace) (path : Text) (n : ℕ) (x : PatternPlace) → n < length items → x ≡ get_or items n x → fits x.pattern path ≡ true → texts_of (drop n (texts_seen files items)) path ≡ texts_of (texts_seen files items) path → Some (get_or files x.file []) ≡ texts_of (texts_seen files items) path
texts_found files items path n x h e hit so = sym (ap (λ (ts : List PatternText). texts_of ts path) (text_there files items n x h e) ∙ ap (λ (y : Bool). cond y (Some (get_or files x.file [])) (texts_of (drop (n + 1) (texts_seen files items)) path)) hit) ∙ so

pub texts_none : (files : List (List TextRule)) (items : List PatternPlace) (path : Text) (n : ℕ) → length items ≤ n → texts_of (drop n (texts_seen files items)) path ≡ texts_of (texts_seen files items) path → None ≡ texts_of (texts_seen files items) path
texts_none files items path n h so = sym (ap (λ (ts : List PatternText). texts_of ts path) (drop_all n (texts_seen files items) (omega (arith, map_length {B = PatternText} (text_seen files) items)))) ∙ so

-- the place that a pattern names
pub place_there : (files : List (List TextRule)) (items : List PatternPlace) (n : ℕ) (x : PatternPlace) → ArePlaces files items → n < length items → x ≡ get_or items n x → x.file < length files
place_there files items n x places h e = omega (arith, places n h, seen_there (λ (p : PatternPlace). p.file) items n x 0 h e)
