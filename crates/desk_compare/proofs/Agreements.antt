-- What two entries of the same tag need to lead to the same value, and when they do.
use Rattle.std.proofs.Common.{◌≡◌, ◌<◌, ◌-◌, ℕ, Bool, true, false, ◌&&◌, nat_eq, cond, List, [], Option, Some, None, bytes_eq, refl, sym, ap, ap₂, ◌∙◌}
use Rattle.std.proofs.lemmas.Bool.{eq-eqb, eqb-true}
use Rattle.std.proofs.lemmas.Slice.Eq.{bytes_eq-Decides}
use Rattle.desk_base.specs.Names.{Text}
use Rattle.desk_base.specs.Entries.{Pool, tag_at, text_at}
use Rattle.desk_base.specs.declared.kinds.Tag.{Tag}
use Rattle.desk_base.specs.declared.kinds.Tag.TheVariants as tags
use Rattle.desk_pool.specs.Bodies.{operands_at, number_at}
use Rattle.desk_compare.specs.declared.values.Agreement.{Agreement}
use Rattle.desk_compare.specs.declared.values.Agreement.TheVariants.{Decided, One}
use Rattle.desk_compare.specs.Values.{EntryParts, with_texts, with_indices, with_number, parts_by, parts_at, first_of, second_of, bytes_or_none, tag_number, same_parts, same_within}
use Rattle.desk_compare.specs.Agreements.{agrees, index_pair, agreement_by, agreement_of}
use Rattle.desk_compare.proofs.Levels.{level_by}
use Rattle.desk_compare.proofs.SameValues.{at_nothing, same_tag}

no_bytes : bytes_eq [] [] ≡ true
no_bytes = (bytes_eq-Decides [] []).1 refl

same_number : (n : ℕ) → nat_eq n n ≡ true
same_number n = eq-eqb n n refl

module _ (n : ℕ) (left right : Pool) where
  -- two entries by their parts
  abbrev level : EntryParts → EntryParts → Bool
  level f g = same_parts f g && (same_within n left right f.first g.first && same_within n left right f.second g.second)

  one_text : (tag : Option Tag) (u v : Text) → level (with_texts tag u []) (with_texts tag v []) ≡ bytes_eq u v
  one_text tag u v =
      by (bytes_eq u v) where
        by : (c : Bool) → (nat_eq (tag_number tag) (tag_number tag) && (nat_eq 0 0 && (c && bytes_eq [] []))) && (same_within n left right 0 0 && same_within n left right 0 0) ≡ c
        by true = rw (same_number (tag_number tag), no_bytes, at_nothing left right n) refl
        by false = rw (same_number (tag_number tag)) refl

  two_texts : (tag : Option Tag) (u v d e : Text) → level (with_texts tag u d) (with_texts tag v e) ≡ (bytes_eq u v && bytes_eq d e)
  two_texts tag u v d e =
      by (bytes_eq u v) (bytes_eq d e) where
        by : (b c : Bool) → (nat_eq (tag_number tag) (tag_number tag) && (nat_eq 0 0 && (b && c))) && (same_within n left right 0 0 && same_within n left right 0 0) ≡ (b && c)
        by true true = rw (same_number (tag_number tag), at_nothing left right n) refl
        by true false = rw (same_number (tag_number tag)) refl
        by false c = rw (same_number (tag_number tag)) refl

  indices : (tag : Option Tag) (a b c d : ℕ) → level (with_indices tag a b) (with_indices tag c d) ≡ (same_within n left right a c && same_within n left right b d)
  indices tag a b c d = rw (same_number (tag_number tag)) refl

  numbered : (tag : Option Tag) (a b c d : ℕ) → level (with_number tag a b) (with_number tag c d) ≡ agrees n left right (cond (nat_eq a c) (One (index_pair b d)) (Decided false))
  numbered tag a b c d = by (nat_eq a c) (same_within n left right b d) refl where
    by : (e f : Bool) → f ≡ same_within n left right b d → (nat_eq (tag_number tag) (tag_number tag) && (e && (bytes_eq [] [] && bytes_eq [] []))) && (f && same_within n left right 0 0) ≡ agrees n left right (cond e (One (index_pair b d)) (Decided false))
    by true true h = rw (same_number (tag_number tag), at_nothing left right n) h
    by true false h = rw (same_number (tag_number tag)) h
    by false f h = rw (same_number (tag_number tag)) refl

  by_tag : (s t : ℕ → Text) (tag : Tag) (a b c d : ℕ) (u v : Text) (x y : List ℕ)
      → level (parts_by s (Some tag) a b u x) (parts_by t (Some tag) c d v y) ≡ agrees n left right (agreement_by s t tag a b c d u v x y)
  by_tag s t tags.Utf8 a b c d u v x y = one_text (Some tags.Utf8) u v
  by_tag s t tags.Integer a b c d u v x y = one_text (Some tags.Integer) x y
  by_tag s t tags.Float a b c d u v x y = one_text (Some tags.Float) x y
  by_tag s t tags.Long a b c d u v x y = one_text (Some tags.Long) x y
  by_tag s t tags.Double a b c d u v x y = one_text (Some tags.Double) x y
  by_tag s t tags.Class a b c d u v x y = one_text (Some tags.Class) (s a) (t c)
  by_tag s t tags.String a b c d u v x y = one_text (Some tags.String) (s a) (t c)
  by_tag s t tags.MethodType a b c d u v x y = one_text (Some tags.MethodType) (s a) (t c)
  by_tag s t tags.Module a b c d u v x y = one_text (Some tags.Module) (s a) (t c)
  by_tag s t tags.Package a b c d u v x y = one_text (Some tags.Package) (s a) (t c)
  by_tag s t tags.NameAndType a b c d u v x y = two_texts (Some tags.NameAndType) (s a) (t c) (s b) (t d)
  by_tag s t tags.Fieldref a b c d u v x y = indices (Some tags.Fieldref) a b c d
  by_tag s t tags.Methodref a b c d u v x y = indices (Some tags.Methodref) a b c d
  by_tag s t tags.InterfaceMethodref a b c d u v x y = indices (Some tags.InterfaceMethodref) a b c d
  by_tag s t tags.MethodHandle a b c d u v x y = numbered (Some tags.MethodHandle) a b c d
  by_tag s t tags.Dynamic a b c d u v x y = numbered (Some tags.Dynamic) a b c d
  by_tag s t tags.InvokeDynamic a b c d u v x y = numbered (Some tags.InvokeDynamic) a b c d

module _ (left right : Pool) (i j : ℕ) where
  parts_tagged : (pool : Pool) (k : ℕ) (o : Option Tag) → tag_at pool k ≡ o
      → parts_by (text_at pool) o (first_of (operands_at pool k)) (second_of (operands_at pool k)) (text_at pool k) (bytes_or_none (number_at pool k)) ≡ parts_at pool k
  parts_tagged pool k o h =
      ap (λ (x : Option Tag). parts_by (text_at pool) x (first_of (operands_at pool k)) (second_of (operands_at pool k)) (text_at pool k) (bytes_or_none (number_at pool k))) (sym h)

  -- two entries of a tag
  pub of_tag : (n : ℕ) (tag : Tag) → 0 < n → tag_at left i ≡ Some tag → tag_at right j ≡ Some tag → same_within n left right i j ≡ agrees (n - 1) left right (agreement_of left right tag i j)
  of_tag n tag h p q =
      level_by n left right i j _ _ h (parts_tagged left i (Some tag) p) (parts_tagged right j (Some tag) q)
      ∙ by_tag (n - 1) left right (text_at left) (text_at right) tag _ _ _ _ _ _ _ _

  -- no entries
  pub of_none : (n : ℕ) → 0 < n → tag_at left i ≡ None → tag_at right j ≡ None → same_within n left right i j ≡ true
  of_none n h p q =
      level_by n left right i j _ _ h (parts_tagged left i None p) (parts_tagged right j None q)
      ∙ one_text (n - 1) left right None [] [] ∙ no_bytes

  tag_kept : (s : ℕ → Text) (o : Option Tag) (a b : ℕ) (u : Text) (x : List ℕ) → (parts_by s o a b u x).tag ≡ o
  tag_kept s None a b u x = refl
  tag_kept s (Some tags.Utf8) a b u x = refl
  tag_kept s (Some _) a b u x = refl

  -- entries of two tags
  pub of_tags : (n : ℕ) → 0 < n → nat_eq (tag_number (tag_at left i)) (tag_number (tag_at right j)) ≡ false → same_within n left right i j ≡ false
  of_tags n h e =
      let f : EntryParts = parts_at left i in
      let g : EntryParts = parts_at right j in
      let p : f.tag ≡ tag_at left i = tag_kept (text_at left) (tag_at left i) _ _ _ _ in
      let q : g.tag ≡ tag_at right j = tag_kept (text_at right) (tag_at right j) _ _ _ _ in
      level_by n left right i j f g h refl refl
      ∙ ap (λ (b : Bool). (b && (nat_eq f.number g.number && (bytes_eq f.text g.text && bytes_eq f.descriptor g.descriptor))) && (same_within (n - 1) left right f.first g.first && same_within (n - 1) left right f.second g.second))
      (ap₂ (λ (x y : Option Tag). nat_eq (tag_number x) (tag_number y)) p q ∙ e)

  pub tags_same : nat_eq (tag_number (tag_at left i)) (tag_number (tag_at right j)) ≡ true → tag_at left i ≡ tag_at right j
  tags_same h = same_tag _ _ (eqb-true _ _ h)

  -- as the code has the tags
  module _ (o p : Option Tag) (first : o ≡ tag_at left i) (second : p ≡ tag_at right j) where
    tests : nat_eq (tag_number o) (tag_number p) ≡ nat_eq (tag_number (tag_at left i)) (tag_number (tag_at right j))
    tests = ap₂ (λ (x y : Option Tag). nat_eq (tag_number x) (tag_number y)) first second

    pub apart : (n : ℕ) → 0 < n → false ≡ nat_eq (tag_number o) (tag_number p) → same_within n left right i j ≡ false
    apart n h e = of_tags n h (sym (e ∙ tests))

    other_tag : (q : Option Tag) → true ≡ nat_eq (tag_number o) (tag_number p) → o ≡ q → tag_at right j ≡ q
    other_tag q e is = sym (tags_same (sym (e ∙ tests))) ∙ sym first ∙ is

    pub nowhere : (n : ℕ) → 0 < n → true ≡ nat_eq (tag_number o) (tag_number p) → o ≡ None → same_within n left right i j ≡ true
    nowhere n h e is = of_none n h (sym first ∙ is) (other_tag None e is)

    pub tagged : (n : ℕ) (tag : Tag) (a : Agreement) → 0 < n → true ≡ nat_eq (tag_number o) (tag_number p) → o ≡ Some tag → a ≡ agreement_of left right tag i j → same_within n left right i j ≡ agrees (n - 1) left right a
    tagged n tag a h e is found = of_tag n tag h (sym first ∙ is) (other_tag (Some tag) e is) ∙ ap (agrees (n - 1) left right) (sym found)
