-- What was looked for in vain isn't looked for again.
use Rattle.std.proofs.Common.{◌≡◌, Bool, true, false, not, cond, ◌&&◌, List, [], ◌∷◌, ◌++◌, Option, Some, None, Result, Ok, Err, OnOk, OnErr, IfSome, refl, sym, ap, subst, ◌∙◌, ◌⊎◌, inl, inr}
use Rattle.std.specs.Option.{option_copied}
use Rattle.std.specs.List.{find, list_any, list_all}
use Rattle.std.specs.Str.{bytes_eq}
use Rattle.std.specs.Ordering.{nat_cmp}
use Rattle.std.specs.BTreeMap.{is_at}
use Rattle.std.specs.Cmp.Lexicographic.{slice_cmp}
use Rattle.std.specs.BTreeSet.{BTreeSet, Updates, IsUnchanged, IsEmpty}
use Rattle.std.proofs.lemmas.Bool.{and_parts, and_from, both_ways, cases_Bool}
use Rattle.std.proofs.lemmas.List.{append_cancel_right}
use Rattle.std.proofs.lemmas.List.Folds.{list_all-append}
use Rattle.std.proofs.lemmas.Map.Text.{is_eq-slice_cmp}
use Rattle.std.proofs.lemmas.Slice.Eq.{bytes_eq-Decides}
use Rattle.desk_base.specs.Names.{Text, Package, segments, written, is_package, is_identifier, is_empty}
use Rattle.desk_packages.specs.Renames.{Renaming, changes}
use Rattle.desk_packages.proofs.Picks.{find_None}
use Rattle.desk_packages.proofs.Searched.{find_nothing}
use Rattle.desk_packages.proofs.Cuts.{segments_behind}
use Rattle.desk_packages.proofs.KeyLaws.{identifier_cuts}
use Rattle.desk_chains.specs.Gifts.{TextRef, holds, holds_gift, gift_text, IsGift, Tells}
use Rattle.desk_chains.proofs.Chains.{package_named}

-- ---- sets of texts

-- a text was put into a set
put_either : (old new : BTreeSet TextRef) (t : TextRef) (q : Text) → Updates (λ (x y : TextRef). slice_cmp nat_cmp x.now y.now) old new t true → holds new q ≡ true → (holds old q ≡ true) ⊎ (t.now ≡ q)
put_either old new t q u h =
    let now : holds new q ≡ cond (bytes_eq t.now q) true (holds old q) = u.0 (record { ref_ptr = (0, 0); now = q }) ∙ ap (λ (b : Bool). cond b true (holds old q)) (is_eq-slice_cmp t.now q) in
    elim (cases_Bool (bytes_eq t.now q)) [
      | inl same ↦ inr ((bytes_eq-Decides t.now q).0 same)
      | inr other ↦ inl (sym (now ∙ ap (λ (b : Bool). cond b true (holds old q)) other) ∙ h)
    ]

-- or couldn't be put
pub put_or_not : {E : Type 0} (r : Result Bool E) (old new : BTreeSet TextRef) (t : TextRef) (q : Text) → OnOk r (Updates (λ (x y : TextRef). slice_cmp nat_cmp x.now y.now) old new t true) → OnErr r (IsUnchanged old new) → holds new q ≡ true → (holds old q ≡ true) ⊎ (t.now ≡ q)
put_or_not (Ok b) old new t q put stays h = put_either old new t q put h
put_or_not (Err e) old new t q put stays h = inl (sym (ap (λ (ks : List TextRef). list_any (is_at (λ (k : TextRef). slice_cmp nat_cmp q k.now)) ks) stays) ∙ h)

pub empty_holds : (set : BTreeSet TextRef) (q : Text) → IsEmpty set → holds set q ≡ true → ⊥
empty_holds set q none h = both_ways (holds set q) (ap (λ (ks : List TextRef). list_any (is_at (λ (k : TextRef). slice_cmp nat_cmp q k.now)) ks) none) h

-- ---- what was looked for in vain

module _ {A B : Type 0} (gives : A → Text → Type 0) (leads : A → B → Bool) (ys : List B) where
  -- what gives one of the texts leads nowhere
  abbrev pub InVain : BTreeSet TextRef → Type 0
  InVain set = (y : A) (t : Text) → gives y t → holds set t ≡ true → find (leads y) ys ≡ None

  pub skipped : (set : BTreeSet TextRef) (x : A) (o : Option TextRef) → IfSome o (λ t. Tells gives leads x t.now) → holds_gift set (option_copied o) ≡ true → InVain set → None ≡ find (leads x) ys
  skipped set x None tells h vain = absurd cc
  skipped set x (Some t) tells h vain = sym (vain x t.now tells.given h)

  pub vain_more : (old new : BTreeSet TextRef) (x : A) (o : Option TextRef) → IfSome o (λ t. Tells gives leads x t.now) → None ≡ find (leads x) ys → ((q : Text) → holds new q ≡ true → (holds old q ≡ true) ⊎ (option_copied o ≡ Some q)) → InVain old → InVain new
  vain_more old new x None tells none put vain y t given h = elim (put t h) [
    | inl was ↦ vain y t given was
    | inr e ↦ absurd (cc e)
  ]
  vain_more old new x (Some u) tells none put vain y t given h = elim (put t h) [
    | inl was ↦ vain y t given was
    | inr e ↦
        let same : u.now ≡ t = cc e in
        find_nothing (leads y) ys (λ s js k.
        both_ways (leads x s) (find_None (leads x) ys s (sym none) js) (tells.alike y s (subst (λ (w : Text). gives y w) (sym same) given) k))
  ]

-- ---- what renames give

packages_same : (p q : Package) → is_package p ≡ true → is_package q ≡ true → written 46 p ≡ written 46 q → p ≡ q
packages_same p q hp hq e = sym (package_named p hp).1 ∙ ap (segments 46) e ∙ (package_named q hq).1

no_end : (p q : Package) → is_package p ≡ true → is_package q ≡ true → written 46 p ++ 46 ∷ [] ≡ written 46 q → ⊥
no_end [] q hp hq e = absurd cc
no_end (x ∷ xs) q hp hq e =
    let parts : q ≡ (x ∷ xs) ++ [] ∷ [] = sym (package_named q hq).1 ∙ ap (segments 46) (sym e) ∙ segments_behind 46 is_identifier (identifier_cuts 46 refl) x xs [] (and_parts (not (is_empty (x ∷ xs))) (list_all is_identifier (x ∷ xs)) hp).1 in
    let all : (list_all is_identifier (x ∷ xs) && list_all is_identifier ([] ∷ [])) ≡ true =
    sym (list_all-append is_identifier (x ∷ xs) ([] ∷ [])) ∙ ap (list_all is_identifier) (sym parts) ∙ (and_parts (not (is_empty q)) (list_all is_identifier q) hq).1 in
    let last : list_all is_identifier ([] ∷ []) ≡ true = (and_parts (list_all is_identifier (x ∷ xs)) (list_all is_identifier ([] ∷ [])) all).1 in
    absurd (cc last)

tell : (b c : Bool) (p q : Package) → is_package p ≡ true → is_package q ≡ true → gift_text b p ≡ gift_text c q → (p ≡ q) × (b ≡ c)
tell true true p q hp hq e = (packages_same p q hp hq (append_cancel_right (written 46 p) (written 46 q) (46 ∷ []) e), refl)
tell false false p q hp hq e = (packages_same p q hp hq e, refl)
tell true false p q hp hq e = absurd (no_end p q hp hq e)
tell false true p q hp hq e = absurd (no_end q p hq hp (sym e))

same_gift : (x y : Renaming) (t : Text) → IsGift x t → IsGift y t → (x.target ≡ y.target) × (x.below ≡ y.below)
same_gift x y t a b = tell x.below y.below x.target y.target (and_parts (is_package x.source) (is_package x.target) a.formed).1 (and_parts (is_package y.source) (is_package y.target) b.formed).1 (sym a.told ∙ b.told)

-- a rename that changes leads where its target, and whether packages below it are given too, lead
pub gift_told : {S : Type 0} (P : S → Bool) (F : Bool → Package → S → Bool) (r : Renaming) (o : Option TextRef) → IfSome o (λ t. IsGift r t.now) → IfSome o (λ t. Tells IsGift (λ (q : Renaming) (s : S). changes q && P s && F q.below q.target s) r t.now)
gift_told P F r None h = h
gift_told P F r (Some t) h = record {
  given = h;
  alike = λ y s hy k.
      let same = same_gift y r t.now hy h in
      let p = and_parts (changes y && P s) (F y.below y.target s) k in
      and_from (changes r && P s) (F r.below r.target s)
      (and_from (changes r) (P s) h.moves (and_parts (changes y) (P s) p.0).1)
      (ap (λ (b : Bool). F b r.target s) (sym same.1) ∙ ap (λ (w : Package). F y.below w s) (sym same.0) ∙ p.1);
}
