-- Lists of relative paths that strictly rise, as they grow at their end.
use Rattle.std.proofs.Common.{length, ◌≡◌, ℕ, List, [], ◌∷◌, ◌++◌, Bool, true, false, refl, ap, ◌∙◌, IsTrue, ◌<◌, ◌-◌, nat_lt, get_or, length-append, ◌+◌, arith}
use Rattle.std.specs.Prelude.{◌&&◌, IfSome, slice_get}
use Rattle.std.specs.List.{list_all}
use Rattle.std.specs.List.Sorted.{IsStrictlySortedBy}
use Rattle.std.specs.Ordering.{nat_cmp}
use Rattle.std.specs.Cmp.Lexicographic.{slice_cmp}
use Rattle.std.proofs.lemmas.Cmp.{nat_list_cmp_total}
use Rattle.std.proofs.lemmas.Option.{slice_get-get_or}
use Rattle.std.proofs.lemmas.Bool.Decides.{nat_tests}
use Rattle.std.proofs.lemmas.List.{get_or_append_left}
use Rattle.std.proofs.Math.Seq.{get_or-append_seam}
use Rattle.std.proofs.lemmas.Map.Keys.{sorted_from_all_adjacent, Less-from_sorted}
use Rattle.std.specs.declared.cmp.Ordering.TheVariants.{Less}
use Rattle.desk_base.specs.Names.{Text}
use Rattle.desk_base.specs.Paths.{is_relative_path}

-- a text behind the last of some that rise
pub rising_push : (xs : List Text) (x : Text) → IsStrictlySortedBy (slice_cmp nat_cmp) xs → IfSome (slice_get xs (length xs - 1)) (λ last. slice_cmp nat_cmp last x ≡ Less)
    → IsStrictlySortedBy (slice_cmp nat_cmp) (xs ++ x ∷ [])
rising_push xs x h last = sorted_from_all_adjacent nat_list_cmp_total (xs ++ x ∷ []) [] (λ k lt. by k lt (nat_lt (k + 1) (length xs)) refl) where
  last_below : (ys : List Text) (i : ℕ) (y : Text) → i < length ys → IfSome (slice_get ys i) (λ last. slice_cmp nat_cmp last y ≡ Less) → slice_cmp nat_cmp (get_or ys i []) y ≡ Less
  last_below ys i y lt h = let e = slice_get-get_or ys i [] lt in rw e at h

  by : (k : ℕ) → k + 1 < length (xs ++ x ∷ []) → (b : Bool) → nat_lt (k + 1) (length xs) ≡ b → slice_cmp nat_cmp (get_or (xs ++ x ∷ []) k []) (get_or (xs ++ x ∷ []) (k + 1) []) ≡ Less
  by k lt true e =
      let within : k + 1 < length xs = grind (arith, nat_tests, e) in
      let first : k < length xs = omega arith in
      ap (slice_cmp nat_cmp (get_or (xs ++ x ∷ []) k [])) (get_or_append_left xs (x ∷ []) [] (k + 1) within)
      ∙ ap (λ y. slice_cmp nat_cmp y (get_or xs (k + 1) [])) (get_or_append_left xs (x ∷ []) [] k first)
      ∙ Less-from_sorted (slice_cmp nat_cmp) xs k (k + 1) [] h (omega arith) within
  by k lt false e =
      let all : length (xs ++ x ∷ []) ≡ length xs + 1 = length-append xs (x ∷ []) in
      let end : k + 1 ≡ length xs = grind (arith, nat_tests, e, all) in
      let first : k < length xs = omega arith in
      let at : k ≡ length xs - 1 = omega arith in
      ap (λ i. slice_cmp nat_cmp (get_or (xs ++ x ∷ []) k []) (get_or (xs ++ x ∷ []) i [])) end
      ∙ ap (slice_cmp nat_cmp (get_or (xs ++ x ∷ []) k [])) (get_or-append_seam xs x [] [])
      ∙ ap (λ y. slice_cmp nat_cmp y x) (get_or_append_left xs (x ∷ []) [] k first ∙ ap (λ i. get_or xs i []) at)
      ∙ last_below xs (length xs - 1) x (omega arith) last

-- a relative path more
pub relative_push : (xs : List Text) (x : Text) → IsTrue (list_all is_relative_path xs) → is_relative_path x ≡ true → IsTrue (list_all is_relative_path (xs ++ x ∷ []))
relative_push [] x h e = ap (λ b. b && true) e
relative_push (y ∷ xs) x h e = by (is_relative_path y) (λ rest. relative_push xs x rest e) h where
  by : (b : Bool) → (list_all is_relative_path xs ≡ true → list_all is_relative_path (xs ++ x ∷ []) ≡ true) → (b && list_all is_relative_path xs) ≡ true → (b && list_all is_relative_path (xs ++ x ∷ [])) ≡ true
  by true rest h = rest h
  by false rest h = h
