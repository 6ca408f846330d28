-- The least index of each text that is sought, from the last text to the first.
use Rattle.std.proofs.Common.{◌≡◌, ℕ, suc, ◌+◌, ◌-◌, ◌<◌, ◌≤◌, Bool, true, false, cond, List, length, get_or, drop, Option, Some, None, refl, ap, ap₂, sym, ◌∙◌, bytes_eq, arith}
use denote.Ref.{Bor}
use Rattle.std.specs.Ordering.{nat_cmp}
use Rattle.std.specs.Cmp.Lexicographic.{slice_cmp}
use Rattle.std.specs.BTreeMap as tree
use Rattle.std.specs.BTreeMap.{BTreeMap}
use Rattle.std.proofs.lemmas.List.{drop_more}
use Rattle.std.proofs.lemmas.Map.Text.{btree_map_updates_str}
use Rattle.std.proofs.lemmas.Slice.Eq.{bytes_eq-Decides}
use Rattle.desk_base.specs.Names.{Text}
use Rattle.desk_format.specs.Split.{holds}
use Rattle.desk_new_pool.specs.Places.{is_slice, least, place_in}

least_at : (from q : ℕ) (texts : List (Option (Bor Text))) (t : Text) (x : Option (Bor Text)) → q < length texts → get_or texts q None ≡ x → least (from + q) (drop q texts) t ≡ cond (is_slice t x) (Some (from + q)) (least (from + (q + 1)) (drop (q + 1) texts) t)
least_at from q texts t x lt e =
    let next : suc (from + q) ≡ from + (q + 1) = omega arith in
    ap (λ (l : List (Option (Bor Text))). least (from + q) l t) (drop_more texts q None lt)
    ∙ ap (λ (y : Option (Bor Text)). cond (is_slice t y) (Some (from + q)) (least (suc (from + q)) (drop (q + 1) texts) t)) e
    ∙ ap (λ (n : ℕ). cond (is_slice t x) (Some (from + q)) (least n (drop (q + 1) texts) t)) next

-- one text before others that have least indices
least_before : (from p : ℕ) (texts : List (Option (Bor Text))) (t : Text) (x : Option (Bor Text)) → 0 < p → p ≤ length texts → get_or texts (p - 1) None ≡ x → least (from + (p - 1)) (drop (p - 1) texts) t ≡ cond (is_slice t x) (Some (from + (p - 1))) (least (from + p) (drop p texts) t)
least_before from p texts t x pos le is =
    let one : (p - 1) + 1 ≡ p = omega arith in
    least_at from (p - 1) texts t x (omega arith) is ∙ ap (λ (k : ℕ). cond (is_slice t x) (Some (from + (p - 1))) (least (from + k) (drop k texts) t)) one

other_by : (sought : List Text) (s t : Text) (same there : Bool) (i l : Option ℕ) → holds sought s ≡ false → bytes_eq s t ≡ same → holds sought t ≡ there → cond there l None ≡ cond there (cond same i l) None
other_by sought s t true true i l out e h = absurd (let is : holds sought s ≡ true = ap (holds sought) ((bytes_eq-Decides s t).0 e) ∙ h in cc (is, out))
other_by sought s t true false i l out e h = refl
other_by sought s t false there i l out e h = refl

put_by : (sought : List Text) (s t : Text) (same there : Bool) (i l : Option ℕ) → holds sought s ≡ true → bytes_eq s t ≡ same → holds sought t ≡ there → cond same i (cond there l None) ≡ cond there (cond same i l) None
put_by sought s t true true i l known e h = refl
put_by sought s t true false i l known e h = absurd (let is : holds sought s ≡ false = ap (holds sought) ((bytes_eq-Decides s t).0 e) ∙ h in cc (is, known))
put_by sought s t false there i l known e h = refl

-- what a map has of the texts from a place on, whose first index is `from`
abbrev Finds : List Text → ℕ → List (Option (Bor Text)) → ℕ → BTreeMap (Bor Text) ℕ → Type 0
Finds sought from texts p m = (t : Text) → place_in m t ≡ cond (holds sought t) (least (from + p) (drop p texts) t) None

module _ (sought : List Text) (m : BTreeMap (Bor Text) ℕ) (from p : ℕ) (texts : List (Option (Bor Text))) (pos : 0 < p) (le : p ≤ length texts) (h : Finds sought from texts p m) where
  -- an index with a text that is not sought
  pub place_other : (s : Bor Text) → get_or texts (p - 1) None ≡ Some s → holds sought s.now ≡ false → Finds sought from texts (p - 1) m
  place_other s is out t =
      h t ∙ other_by sought s.now t (bytes_eq s.now t) (holds sought t) (Some (from + (p - 1))) (least (from + p) (drop p texts) t) out refl refl
      ∙ ap (λ (o : Option ℕ). cond (holds sought t) o None) (sym (least_before from p texts t (Some s) pos le is))

  -- an index with a text that is, which the map then has
  pub place_put : (n : BTreeMap (Bor Text) ℕ) (v : ℕ) (s : Bor Text) → get_or texts (p - 1) None ≡ Some s → holds sought s.now ≡ true → v ≡ from + (p - 1)
      → tree.UpdatesBy (λ x y. slice_cmp nat_cmp x.now y.now) (λ k. slice_cmp nat_cmp s.now k.now) m n (Some v) → Finds sought from texts (p - 1) n
  place_put n v s is known val up t =
      btree_map_updates_str s.now m n (Some v) up t
      ∙ ap₂ (λ (k : ℕ) (x : Option ℕ). cond (bytes_eq s.now t) (Some k) x) val (h t)
      ∙ put_by sought s.now t (bytes_eq s.now t) (holds sought t) (Some (from + (p - 1))) (least (from + p) (drop p texts) t) known refl refl
      ∙ ap (λ (o : Option ℕ). cond (holds sought t) o None) (sym (least_before from p texts t (Some s) pos le is))
