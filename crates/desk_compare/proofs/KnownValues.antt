-- What two indices that lead to the same value have the same, too.
use Rattle.std.proofs.Common.{◌≡◌, ◌≤◌, ◌<◌, ℕ, zero, suc, Bool, true, false, ◌&&◌, ◌||◌, nat_eq, cond, List, [], length, get_or, replicate, Option, Some, None, bytes_eq, refl, sym, ap, ap₂, subst, ◌∙◌, arith}
use Rattle.std.specs.List.{All}
use Rattle.std.proofs.lemmas.Bool.{and_parts, and_from, ne_eqb}
use Rattle.std.proofs.lemmas.List.Elements.{All-get_or, All-replicate}
use Rattle.std.proofs.lemmas.Slice.Eq.{bytes_eq-Decides}
use Rattle.desk_base.specs.Names.{Text}
use Rattle.desk_base.specs.Entries.{Entry, utf8, Pool, entry_at, text_in, text_at}
use Rattle.desk_format.specs.Values.{Value, text, value_in, value_within}
use Rattle.desk_compare.specs.declared.known.IndexPair.{IndexPair}
use Rattle.desk_compare.specs.Values.{same_within, same_value, same_text}
use Rattle.desk_compare.specs.Known.{AreSame}
use Rattle.desk_compare.proofs.SameValues.{within_true, at_nothing}

-- ---- fewer levels

module _ (left right : Pool) where
  down : (n i j : ℕ) → same_within (suc n) left right i j ≡ true → same_within n left right i j ≡ true
  unfolding same_within
  down zero i j h = refl
  down (suc n) i j h =
      let a = and_parts _ _ h in
      let b = and_parts _ _ a.1 in
      and_from _ _ a.0 (and_from _ _ (down n _ _ b.0) (down n _ _ b.1))

  pub no_levels : (n i j : ℕ) → n ≡ 0 → true ≡ same_within n left right i j
  unfolding same_within
  no_levels n i j h = rw h refl

  pub within_known : (n i j : ℕ) → n ≤ 3 → same_value left right i j ≡ true → same_within n left right i j ≡ true
  unfolding same_within
  within_known zero i j h e = refl
  within_known (suc zero) i j h e = down 1 i j (down 2 i j e)
  within_known (suc (suc zero)) i j h e = down 2 i j e
  within_known (suc (suc (suc zero))) i j h e = e
  within_known (suc (suc (suc (suc n)))) i j h e = absurd (omega arith)

-- ---- texts

abbrev utf8_of : Value → Text
utf8_of (text s) = s
utf8_of _ = []

utf8_told : (v : ℕ → Value) (t : ℕ → Text) (e : Option Entry) → utf8_of (value_in v t e) ≡ text_in e
utf8_told v t None = refl
utf8_told v t (Some (utf8 s)) = refl
utf8_told v t (Some _) = refl

text_told : (pool : Pool) (i : ℕ) → utf8_of (value_within 3 pool i) ≡ text_at pool i
unfolding value_within
text_told pool i = utf8_told (value_within 2 pool) (text_at pool) (entry_at pool i)

module _ (left right : Pool) (i j : ℕ) where
  same_texts : same_value left right i j ≡ true → text_at left i ≡ text_at right j
  same_texts h = sym (text_told left i) ∙ ap utf8_of (within_true left right 3 i j h) ∙ text_told right j

  text_by : (n x y b : Bool) → x ≡ false → y ≡ false → b ≡ true → cond (n && (x || y)) (x && y) b ≡ true
  text_by true x y b p q h = rw (p, q) h
  text_by false x y b p q h = h

  -- two texts that are named, so that neither index is 0
  pub text_known : (n : Bool) → (i ≡ 0 → ⊥) → (j ≡ 0 → ⊥) → same_value left right i j ≡ true → same_text left right n i j ≡ true
  text_known n p q h = text_by n (nat_eq i 0) (nat_eq j 0) (bytes_eq (text_at left i) (text_at right j)) (ne_eqb i 0 p) (ne_eqb j 0 q) ((bytes_eq-Decides _ _).1 (same_texts h))

-- ---- kept pairs

pub none_known : (left right : Pool) (n : ℕ) → All (AreSame left right) (replicate n (record { left = 0; right = 0 }))
none_known left right n = All-replicate (AreSame left right) n (record { left = 0; right = 0 }) (at_nothing left right 3)

pub pair_known : (left right : Pool) (pairs : List IndexPair) (k i j : ℕ) (p : IndexPair) → All (AreSame left right) pairs → k < length pairs → p ≡ get_or pairs k p → p.left ≡ i → p.right ≡ j → same_value left right i j ≡ true
pair_known left right pairs k i j p all room is first second =
    ap₂ (same_value left right) (sym first) (sym second) ∙ subst (AreSame left right) (sym is) (All-get_or (AreSame left right) pairs k p room all)
