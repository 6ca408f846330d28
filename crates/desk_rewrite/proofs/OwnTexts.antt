-- Uses whose texts are their own images, and the class in which each is.
use Rattle.std.proofs.Common.{◌≡◌, ℕ, ◌+◌, Bool, true, false, not, cond, List, [], ◌∷◌, Option, Some, None, Ok, inl, inr, refl, ap, ap₂, sym, ◌∙◌, bytes_eq, count_by, All, arith}
use Rattle.std.specs.List.{AllByRecursion}
use Rattle.std.specs.Prelude.{is_some, nat_eq}
use Rattle.desk_base.specs.Names.{Text}
use Rattle.std.proofs.lemmas.Bool.{eqb-true}
use Rattle.std.proofs.lemmas.List.Elements.{All-cons, All-nil}
use Rattle.std.proofs.lemmas.List.Sums.{sum_by-cons}
use Rattle.std.proofs.lemmas.Slice.Eq.{bytes_eq-Decides}
use Rattle.desk_base.specs.Entries.{Pool, text_at}
use Rattle.desk_base.specs.declared.kinds.Role.{Role}
use Rattle.desk_base.specs.declared.kinds.Used.{Used}
use Rattle.desk_format.specs.Classes.{Class, class_uses, entries_at, list_in, read_class, uses_in}
use Rattle.desk_format.specs.Laws.{IsBytes}
use Rattle.desk_format.specs.NewPool.{wants}
use Rattle.desk_format.specs.Resolved.{Images, image}
use Rattle.desk_class.specs.Parts.{pool_in}
use Rattle.desk_laws.proofs.Bodies.{all_named}
use Rattle.desk_laws.proofs.Stable.{Own}
use Rattle.desk_rewrite.specs.Counts.{is_odd_use, is_renamed, renamed_count, odd_count}
use Rattle.desk_class.specs.Answers.{Keeps, answer_at}
use Rattle.desk_rules.specs.Images.{IsImage}
use Rattle.desk_rewrite.specs.Tables.{role_of, text_role_of}
use Rattle.desk_rewrite.specs.Unchanged.{AreOwn, IsItself, odd_if_unchanged}
use Rattle.desk_rewrite.specs.declared.table.TextRole.{TextRole}
use Rattle.desk_rewrite.proofs.Parts.{IsFound, found}
use Rattle.desk_rewrite.proofs.Tables.{role_is}
use Rattle.desk_rewrite.proofs.Unchanged.{no_added, same_bytes, not_refused}
use Rattle.desk_rewrite.proofs.Wanting.{IsOwn, own_wants}

-- as it is counted
abbrev once : Bool → ℕ
once b = cond b 1 0

module _ (im : Images) (pool : Pool) where
  -- ---- one use

  itself : (u : Used) → IsOwn im pool u → true ≡ not (is_renamed im pool u)
  itself u e = sym (ap (λ (b : Bool). not (not b)) ((bytes_eq-Decides (image im u.role (text_at pool u.index)) (text_at pool u.index)).1 e))

  pub own_known : (u : Used) (noted : List (Option Bool)) → AreOwn im pool noted → answer_at noted u.index u.role ≡ Some true → true ≡ not (is_renamed im pool u)
  own_known u noted own e = itself u (own u.index u.role e)

  -- a text without another image is its own
  pub own_answer : (own made : Text) (answer : Option Text) → is_some answer ≡ false → IsImage own made answer → made ≡ own
  own_answer own made None e h = h
  own_answer own made (Some t) e h = absurd cc

  -- one text more is noted
  pub own_noted : (u : Used) (k : TextRole) (noted after : List (Option Bool)) → text_role_of u.role ≡ Some k → IsImage (text_at pool u.index) (image im (role_of k) (text_at pool u.index)) None → AreOwn im pool noted → Keeps noted u.index u.role true after
      → AreOwn im pool after
  own_noted u k noted after f h own keeps i r e =
      elim (keeps i r true e) [
        | inl before ↦ own i r before
        | inr now ↦
            ap₂ (λ (j : ℕ) (s : Role). image im s (text_at pool j)) now.0 now.1.0 ∙ ap (λ (s : Role). image im s (text_at pool u.index)) (role_is u.role k f) ∙ h
            ∙ ap (text_at pool) (sym now.0)
      ]

  -- ---- uses

  own_each : (us : List Used) → count_by (is_renamed im pool) us ≡ 0 → All (IsOwn im pool) us
  own_each [] none = All-nil (IsOwn im pool)
  own_each (u ∷ us) none = by (is_renamed im pool u) refl (sym (sum_by-cons (λ (v : Used). cond (is_renamed im pool v) 1 0) u us) ∙ none) (own_each us) where
    same_by : (b : Bool) → bytes_eq (image im u.role (text_at pool u.index)) (text_at pool u.index) ≡ b → not b ≡ false → IsOwn im pool u
    same_by true e f = (bytes_eq-Decides (image im u.role (text_at pool u.index)) (text_at pool u.index)).0 e
    same_by false e f = absurd cc

    by : (b : Bool) → is_renamed im pool u ≡ b → once b + count_by (is_renamed im pool) us ≡ 0 → (count_by (is_renamed im pool) us ≡ 0 → All (IsOwn im pool) us) → All (IsOwn im pool) (u ∷ us)
    by true e n rest = absurd (omega arith)
    by false e n rest = All-cons (IsOwn im pool) u us (same_by (bytes_eq (image im u.role (text_at pool u.index)) (text_at pool u.index)) refl e) (rest (omega (arith, n)))

-- ---- the class

pub itself_class : (im : Images) (bytes : List ℕ) (c : Class) → IsBytes bytes → read_class bytes ≡ Ok c → renamed_count im c ≡ 0 → IsItself im bytes c
itself_class im bytes c b e none =
    let f : IsFound bytes c = found bytes c b e in
    let own : AllByRecursion (Own c.pool) (wants im c.pool (class_uses c))
    = own_wants im c.pool (class_uses c) (all_named entries_at c.pool c.body f.printed.pool.linked f.printed.fits) (own_each im c.pool (class_uses c) none) in
    record { none = none; same = same_bytes im bytes c f own; none_added = no_added im bytes c f own; accepted = not_refused im bytes c f own }

-- A class whose odd uses are counted is one in which nothing changes.
pub record IsCounted (im : Images) (c : Class) (odd : ℕ) : Type 0 where
  pub none : renamed_count im c ≡ 0
  pub counts : odd ≡ odd_count c

pub counted_by : (im : Images) (c : Class) (odd : ℕ) → odd_if_unchanged im c ≡ Some odd → IsCounted im c odd
counted_by im c odd e = by (nat_eq (renamed_count im c) 0) refl e where
  by : (b : Bool) → nat_eq (renamed_count im c) 0 ≡ b → cond b (Some (odd_count c)) None ≡ Some odd → IsCounted im c odd
  by true z e = record { none = eqb-true (renamed_count im c) 0 z; counts = cc }
  by false z e = absurd cc

-- ---- as the code has it

module _ (im : Images) (bytes : List ℕ) (c : Class) (reads : read_class bytes ≡ Ok c) where
  -- whether nothing changes, of the pool and the uses of a class that was read
  pub renamed_is : (pool : Pool) (us : List Used) (own : Bool) → pool ≡ pool_in bytes → us ≡ uses_in bytes → own ≡ nat_eq (count_by (is_renamed im pool) us) 0 → nat_eq (renamed_count im c) 0 ≡ own
  renamed_is pool us own p u e =
      sym (e ∙ ap₂ (λ (q : Pool) (vs : List Used). nat_eq (count_by (is_renamed im q) vs) 0) (p ∙ ap (list_in (λ (d : Class). d.pool)) reads) (u ∙ ap (list_in class_uses) reads))

  -- how many odd uses are counted where nothing changes
  pub odd_counted : (pool : Pool) (us : List Used) (odd : ℕ) → pool ≡ pool_in bytes → us ≡ uses_in bytes → nat_eq (renamed_count im c) 0 ≡ true → odd ≡ count_by (is_odd_use pool) us → Some odd ≡ odd_if_unchanged im c
  odd_counted pool us odd p u none e =
      let same : odd ≡ odd_count c = e ∙ ap₂ (λ (q : Pool) (vs : List Used). count_by (is_odd_use q) vs) (p ∙ ap (list_in (λ (d : Class). d.pool)) reads) (u ∙ ap (list_in class_uses) reads) in
      ap (λ (n : ℕ). Some n) same ∙ sym (ap (λ (b : Bool). cond b (Some (odd_count c)) None) none)

pub none_renamed_in : (im : Images) (c : Class) → nat_eq (renamed_count im c) 0 ≡ true → renamed_count im c ≡ 0
none_renamed_in im c e = eqb-true (renamed_count im c) 0 e
