-- Lists, cut at commas.
use Rattle.std.proofs.Common.{◌≡◌, ◌<◌, ◌+◌, ℕ, Bool, true, false, cond, ◌==◌, List, [], ◌∷◌, ◌++◌, length, take, drop, Some, None, get_or, refl, sym, ap, ap₂, ◌∙◌, arith, append-nil, take_all}
use Rattle.std.specs.List.{slice_split, onto_first}
use Rattle.std.proofs.lemmas.List.{drop_more}
use Rattle.std.proofs.lemmas.Bool.{eqb-true}
use Rattle.desk_base.specs.Names.{Text}
use Rattle.desk_base.proofs.Lists.{none_behind}
use Rattle.desk_lines.specs.Cuts.{until, onward}
use Rattle.desk_lines.proofs.Cuts.{until_length, take_until, drop_until, until-onward}
use Rattle.desk_clauses.specs.Cuts.{IsFirstItem}

abbrev is_comma : ℕ → Bool
is_comma b = b == 44

abbrev items_behind : Text → List Text
items_behind [] = []
items_behind (b ∷ t) = slice_split is_comma t

cut_items : (t : Text) → slice_split is_comma t ≡ until is_comma t ∷ items_behind (onward is_comma t)
cut_items [] = refl
cut_items (b ∷ t) = elim (b == 44) as (λ (c : Bool). cond c ([] ∷ slice_split is_comma t) (onto_first b (slice_split is_comma t)) ≡ cond c [] (b ∷ until is_comma t) ∷ items_behind (cond c (b ∷ t) (onward is_comma t))) [
  | true ↦ refl
  | false ↦ ap (onto_first b) (cut_items t)
]

onward_none : (t : Text) → until is_comma t ≡ t → onward is_comma t ≡ []
onward_none t h = none_behind (until is_comma t) (onward is_comma t) (until-onward is_comma t ∙ sym h)

pub item_alone : (list : Text) → ((k : ℕ) → k < length list → is_comma (get_or list k 0) ≡ false) → IsFirstItem list list None
item_alone list none =
    let size : length list ≡ length (until is_comma list) = until_length is_comma list (length list) (omega arith) none (λ h. absurd (omega arith)) in
    let same : until is_comma list ≡ list = sym (take_until is_comma list) ∙ ap (λ (n : ℕ). take n list) (sym size) ∙ take_all (length list) list (omega arith) in
    record {
      parts = cut_items list ∙ ap₂ (λ (x y : Text). x ∷ items_behind y) same (onward_none list same);
      whole = sym (append-nil list);
    }

pub item_first : (list : Text) (at : ℕ) → at < length list → ((k : ℕ) → k < at → is_comma (get_or list k 0) ≡ false) → is_comma (get_or list at 0) ≡ true → IsFirstItem list (take at list) (Some (drop (at + 1) list))
item_first list at within none there =
    let size : at ≡ length (until is_comma list) = until_length is_comma list at (omega arith) none (λ h. there) in
    let front : until is_comma list ≡ take at list = sym (take_until is_comma list) ∙ ap (λ (n : ℕ). take n list) (sym size) in
    let comma : get_or list at 0 ≡ 44 = eqb-true (get_or list at 0) 44 there in
    let back : onward is_comma list ≡ 44 ∷ drop (at + 1) list =
    sym (drop_until is_comma list) ∙ ap (λ (n : ℕ). drop n list) (sym size) ∙ drop_more list at 0 within ∙ ap (λ (b : ℕ). b ∷ drop (at + 1) list) comma in
    record {
      parts = cut_items list ∙ ap₂ (λ (x y : Text). x ∷ items_behind y) front back;
      whole = sym (until-onward is_comma list) ∙ ap₂ (λ (x y : Text). x ++ y) front back;
    }
