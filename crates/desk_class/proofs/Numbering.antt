-- Numbers of texts, when a text gets one.
use Rattle.std.proofs.Common.{◌≡◌, ℕ, Bool, true, false, cond, List, Some, None, refl, sym, ap, ◌∙◌, ◌⊎◌, inl, inr, bytes_eq, Bor, slice_get}
use Rattle.std.specs.BTreeMap.{BTreeMap}
use Rattle.std.proofs.lemmas.Slice.Eq.{bytes_eq-Decides}
use Rattle.desk_base.specs.Names.{Text}
use Rattle.desk_class.specs.declared.numbers.TextNumbers.{TextNumbers}
use Rattle.desk_class.specs.Numbers.{IsNumbering, number_at, number_in}

abbrev Map : Type 0
Map = BTreeMap (Bor (List ℕ)) ℕ

keeps_by : (old new : Map) (s t : Text) (i n : ℕ) (same : Bool) → bytes_eq s t ≡ same → number_at old s ≡ None → number_at new t ≡ cond same (Some i) (number_at old t) → number_at old t ≡ Some n → number_at new t ≡ Some n
keeps_by old new s t i n true p none put h =
    let is : s ≡ t = (bytes_eq-Decides s t).0 p in
    let no : number_at old t ≡ None = sym (ap (number_at old) is) ∙ none in
    absurd cc
keeps_by old new s t i n false p none put h = put ∙ h

pub put_keeps : (old new : Map) (s : Text) (i : ℕ) → number_at old s ≡ None → ((t : Text) → number_at new t ≡ cond (bytes_eq s t) (Some i) (number_at old t)) → (t : Text) (n : ℕ) → number_at old t ≡ Some n → number_at new t ≡ Some n
put_keeps old new s i none put t n h = keeps_by old new s t i n (bytes_eq s t) refl none (put t) h

comes_by : (old new : Map) (s t : Text) (i n : ℕ) (same : Bool) → bytes_eq s t ≡ same → number_at new t ≡ cond same (Some i) (number_at old t) → number_at new t ≡ Some n → (number_at old t ≡ Some n) ⊎ ((t ≡ s) × (n ≡ i))
comes_by old new s t i n true p put h =
    let is : s ≡ t = (bytes_eq-Decides s t).0 p in
    let some : Some n ≡ Some i = sym h ∙ put in
    let number : n ≡ i = cc in
    inr (sym is, number)
comes_by old new s t i n false p put h = inl (sym put ∙ h)

pub put_comes : (old new : Map) (s : Text) (i : ℕ) → ((t : Text) → number_at new t ≡ cond (bytes_eq s t) (Some i) (number_at old t)) → (t : Text) (n : ℕ) → number_at new t ≡ Some n → (number_at old t ≡ Some n) ⊎ ((t ≡ s) × (n ≡ i))
put_comes old new s i put t n h = comes_by old new s t i n (bytes_eq s t) refl (put t) h

-- a numbering with one more text, or one more index
pub stays : (texts : ℕ → Text) (x y : TextNumbers) (t : Text) (index number : ℕ) → IsNumbering texts x → t ≡ texts index → number_in y t ≡ Some number
    → ((t : Text) (n : ℕ) → number_in x t ≡ Some n → number_in y t ≡ Some n)
    → ((u : Text) (n : ℕ) → number_in y u ≡ Some n → (number_in x u ≡ Some n) ⊎ ((u ≡ t) × (n ≡ index)))
    → ((i n : ℕ) → slice_get y.by_index.items i ≡ Some (Some n) → (slice_get x.by_index.items i ≡ Some (Some n)) ⊎ ((i ≡ index) × (n ≡ number)))
    → IsNumbering texts y
stays texts x y t index number h is numbered keeps comes kept = record {
  texts = λ u n p. elim (comes u n p) [ inl q ↦ h.texts u n q | inr q ↦ ap texts q.1 ∙ sym is ∙ sym q.0 ];
  kept = λ i n p. elim (kept i n p) [ inl q ↦ keeps (texts i) n (h.kept i n q) | inr q ↦ ap (λ (j : ℕ). number_in y (texts j)) q.0 ∙ ap (number_in y) (sym is) ∙ numbered ∙ ap (λ (m : ℕ). Some m) (sym q.1) ];
}
