-- Images that are seen, and names that share one.
use Rattle.std.proofs.Common.{◌≡◌, ◌⊎◌, inl, inr, ℕ, zero, suc, ◌+◌, ◌<◌, Bool, true, false, cond, not, ◌||◌, List, [], ◌∷◌, ◌++◌, map, length, get_or, Option, Some, None, is_some, MatchOption, option_map, refl, sym, ap, subst, ◌∙◌, arith}
use Rattle.std.specs.List.{AllByRecursion, find, list_any, Contains, IsDistinct}
use Rattle.std.specs.List.Sorted.{IsSorted, IsStrictlySortedBy, IsPermutation}
use Rattle.std.specs.Str.{bytes_eq}
use Rattle.std.specs.Ordering.{nat_cmp, is_eq, eq_by_cmp, match_ordering}
use Rattle.std.specs.Cmp.Lexicographic.{slice_cmp}
use Rattle.std.specs.BTreeSet.{BTreeSet, Updates, insert_key}
use Rattle.std.specs.declared.cmp.Ordering.{Ordering}
use Rattle.std.specs.declared.cmp.Ordering.TheVariants.{Less, Equal, Greater}
use Rattle.std.proofs.lemmas.Cmp.{nat_list_cmp_total, nat_list_eq_equiv}
use Rattle.std.proofs.lemmas.List.Sorted.{Contains-permutation, IsPermutation-sym}
use Rattle.std.proofs.lemmas.Map.Keys.{IsDistinct-IsPermutation, IsDistinct-from_sorted}
use Rattle.std.proofs.lemmas.Slice.Eq.{bytes_eq-Decides}
use Rattle.std.proofs.lemmas.Bool.{cases_order, and_parts, or_left, or_right, not-true, both_ways}
use Rattle.desk_base.specs.Names.{Text}
use Rattle.desk_base.proofs.Bools.{same_answer, cond_or}
use Rattle.desk_packages.specs.Keys.{RiseBy, IsNowhere, IsPlaceOf}
use Rattle.desk_packages.proofs.Picks.{In}
use Rattle.desk_packages.proofs.Searched.{in_at, find_nothing}
use Rattle.desk_rules.proofs.Ordered.{keys_rise}
use Rattle.desk_graph.specs.Application.{Pair, with_image, meets}
use Rattle.desk_graph.specs.Tables.{texts, holds, is_name, HoldsShared, IsKnownBy, meets_known}
use Rattle.desk_class.specs.Held.{put_all, ascending}
use Rattle.desk_class.specs.Marks.{marked_cmp}
use Rattle.desk_class.specs.MarkOrder.{same_of_tie, marked_tie}
use Rattle.desk_class.proofs.Ascending.{same_sorted, in_front, in_back, in_either, put_append, in_ascending, from_ascending, ascending_sorted, from_contains, to_contains}
use Rattle.desk_graph.proofs.Orders.{tested, from_tested}
use Rattle.desk_graph.proofs.Numbering.{less_itself, nowhere_named}

-- ---- the texts of a set

-- what is put among others, and what was there
inserted_old : (ks : List Text) (k q : Text) → In ks q → In (insert_key marked_cmp ks k) q
inserted_old [] k q h = absurd h
inserted_old (x ∷ xs) k q h = elim (marked_cmp k x) as (λ (o : Ordering). In (match_ordering o (k ∷ x ∷ xs) (x ∷ xs) (x ∷ insert_key marked_cmp xs k)) q) [
  | Less ↦ inr h
  | Equal ↦ h
  | Greater ↦ elim h [ inl e ↦ inl e | inr b ↦ inr (inserted_old xs k q b) ]
]

inserted_new : (ks : List Text) (k : Text) → In (insert_key marked_cmp ks k) k
inserted_new [] k = inl refl
inserted_new (x ∷ xs) k = elim (marked_cmp k x) as (λ (o : Ordering). marked_cmp k x ≡ o → In (match_ordering o (k ∷ x ∷ xs) (x ∷ xs) (x ∷ insert_key marked_cmp xs k)) k) [
  | Less ↦ λ e. inl refl
  | Equal ↦ λ e. inl (sym (same_of_tie k x (ap is_eq e)))
  | Greater ↦ λ e. inr (inserted_new xs k)
] refl

inserted_only : (ks : List Text) (k q : Text) → In (insert_key marked_cmp ks k) q → In (ks ++ k ∷ []) q
inserted_only [] k q h = h
inserted_only (x ∷ xs) k q h = elim (marked_cmp k x) as (λ (o : Ordering). In (match_ordering o (k ∷ x ∷ xs) (x ∷ xs) (x ∷ insert_key marked_cmp xs k)) q → In ((x ∷ xs) ++ k ∷ []) q) [
  | Less ↦ λ h. elim h [ inl e ↦ in_back (x ∷ xs) (k ∷ []) q (inl e) | inr b ↦ in_front (x ∷ xs) (k ∷ []) q b ]
  | Equal ↦ λ h. in_front (x ∷ xs) (k ∷ []) q h
  | Greater ↦ λ h. elim h [ inl e ↦ inl e | inr b ↦ inr (inserted_only xs k q b) ]
] h

inserted_all : (ks : List Text) (k q : Text) → In (ks ++ k ∷ []) q → In (insert_key marked_cmp ks k) q
inserted_all ks k q h = elim (in_either ks (k ∷ []) q h) [
  | inl f ↦ inserted_old ks k q f
  | inr b ↦ elim b [ inl same ↦ subst (In (insert_key marked_cmp ks k)) same (inserted_new ks k) | inr none ↦ absurd none ]
]

module _ (old new : BTreeSet Text) (t : Text) where
  -- a text was put into a set
  pub put_holds : (q : Text) → Updates marked_cmp old new t true → holds new q ≡ (bytes_eq q t || holds old q)
  put_holds q u = u.0 q ∙ ap (λ (b : Bool). cond b true (holds old q)) (marked_tie t q ∙ nat_list_eq_equiv.symm t q) ∙ cond_or (bytes_eq q t) (holds old q)

  -- one more text
  pub put_texts : new.keys ≡ insert_key marked_cmp old.keys t → texts new ≡ put_all (texts old) (t ∷ [])
  put_texts e =
      ap ascending e
      ∙ same_sorted (slice_cmp nat_cmp) nat_list_cmp_total (ascending (insert_key marked_cmp old.keys t)) (ascending (old.keys ++ t ∷ [])) (ascending_sorted (insert_key marked_cmp old.keys t)) (ascending_sorted (old.keys ++ t ∷ []))
      (λ q h. in_ascending (old.keys ++ t ∷ []) q (inserted_only old.keys t q (from_ascending (insert_key marked_cmp old.keys t) q h)))
      (λ q h. in_ascending (insert_key marked_cmp old.keys t) q (inserted_all old.keys t q (from_ascending (old.keys ++ t ∷ []) q h)))
      ∙ put_append [] old.keys (t ∷ [])

-- the order of a set tests for a text
any_tie : (ks : List Text) (t : Text) → list_any (eq_by_cmp marked_cmp t) ks ≡ list_any (bytes_eq t) ks
any_tie [] t = refl
any_tie (k ∷ ks) t = ap (λ (b : Bool). b || list_any (eq_by_cmp marked_cmp t) ks) (marked_tie t k) ∙ ap (λ (b : Bool). bytes_eq t k || b) (any_tie ks t)

-- the test of a set is that of its texts
pub holds_is : (set : BTreeSet Text) (t : Text) → holds set t ≡ list_any (bytes_eq t) (texts set)
holds_is set t =
    any_tie set.keys t
    ∙ same_answer (list_any (bytes_eq t) set.keys) (list_any (bytes_eq t) (ascending set.keys))
    (λ e. tested (ascending set.keys) t (in_ascending set.keys t (from_tested set.keys t e)))
    (λ e. tested set.keys t (from_ascending set.keys t (from_tested (ascending set.keys) t e)))

-- texts that a set has in order stand there once
pub distinct_by : (e f : Text → Text → Bool) → ((x y : Text) → e x y ≡ f x y) → (ks : List Text) → IsDistinct e ks → IsDistinct f ks
unfolding IsDistinct
distinct_by e f same [] d = tt
distinct_by e f same (k ∷ ks) d = (all_by ks d.0, distinct_by e f same ks d.1)
  where
    all_by : (ys : List Text) → AllByRecursion (λ y. e k y ≡ false) ys → AllByRecursion (λ y. f k y ≡ false) ys
    all_by [] a = tt
    all_by (y ∷ ys) a = (sym (same k y) ∙ a.0, all_by ys a.1)

pub keys_apart : (ks : List Text) → IsStrictlySortedBy marked_cmp ks → IsDistinct bytes_eq ks
keys_apart ks ordered = distinct_by (eq_by_cmp marked_cmp) bytes_eq marked_tie ks (IsDistinct-from_sorted marked_cmp ks ordered)

-- ---- texts that were sorted

moved : (xs ys : List Text) (q : Text) → IsPermutation xs ys → In xs q → In ys q
moved xs ys q p h = from_contains ys q (Contains-permutation xs ys q p (to_contains xs q h))

pub sorted_texts : (ks xs : List Text) → IsDistinct bytes_eq ks → IsPermutation ks xs → IsSorted (slice_cmp nat_cmp) xs → xs ≡ ascending ks
sorted_texts ks xs apart p sorted =
    same_sorted (slice_cmp nat_cmp) nat_list_cmp_total xs (ascending ks) (keys_rise xs sorted (IsDistinct-IsPermutation bytes_eq nat_list_eq_equiv.symm ks xs p apart)) (ascending_sorted ks)
    (λ q h. in_ascending ks q (moved xs ks q (IsPermutation-sym ks xs p) h))
    (λ q h. moved ks xs q p (from_ascending ks q h))

-- ---- seen and shared

-- the image of a name is another text
abbrev pub Changes : Pair → Type 0
Changes k = bytes_eq k.1 k.0 ≡ false

-- of the first of these, each image of a name that changes is seen or is itself a name; and it is shared where it is a name, or
-- stands at two places
pub record Seen (known : List Pair) (n : ℕ) (seen shared : Text → Bool) : Type 0 where
  pub all : (i : ℕ) (d : Pair) → i < n → Changes (get_or known i d) → (seen (get_or known i d).1 || is_name known (get_or known i d).1) ≡ true
  pub named : (i : ℕ) (d : Pair) → i < n → Changes (get_or known i d) → is_name known (get_or known i d).1 ≡ true → shared (get_or known i d).1 ≡ true
  pub twice : (i j : ℕ) (d : Pair) → i < j → j < n → Changes (get_or known i d) → Changes (get_or known j d) → (get_or known i d).1 ≡ (get_or known j d).1 → shared (get_or known j d).1 ≡ true

last_or_before : (n i : ℕ) → i < n + 1 → (i < n) ⊎ (i ≡ n)
last_or_before n i h = grind arith

or_more : (a b c : Bool) → (b || c) ≡ true → ((a || b) || c) ≡ true
or_more true b c h = refl
or_more false b c h = h

or_first : (a b c : Bool) → a ≡ true → ((a || b) || c) ≡ true
or_first true b c h = refl
or_first false b c h = absurd cc

module _ (known : List Pair) (n : ℕ) (one : Pair) (is : (d : Pair) → get_or known n d ≡ one) (seen shared : Text → Bool) (s : Seen known n seen shared) where
  at_last : (i : ℕ) (d : Pair) → i ≡ n → get_or known i d ≡ one
  at_last i d last = ap (λ (k : ℕ). get_or known k d) last ∙ is d

  image_last : (i : ℕ) (d : Pair) → i ≡ n → (get_or known i d).1 ≡ one.1
  image_last i d last = ap (λ (p : Pair). p.1) (at_last i d last)

  -- a name that doesn't change
  pub left_out : bytes_eq one.1 one.0 ≡ true → Seen known (n + 1) seen shared
  left_out same = record {
    all = λ i d h c. elim (last_or_before n i h) [
      | inl before ↦ s.all i d before c
      | inr last ↦ absurd (stays i d last c)
    ];
    named = λ i d h c k. elim (last_or_before n i h) [
      | inl before ↦ s.named i d before c k
      | inr last ↦ absurd (stays i d last c)
    ];
    twice = λ i j d h k b c e. elim (last_or_before n j k) [
      | inl before ↦ s.twice i j d h before b c e
      | inr last ↦ absurd (stays j d last c)
    ];
  }
    where
      stays : (i : ℕ) (d : Pair) → i ≡ n → Changes (get_or known i d) → ⊥
      stays i d last c = both_ways (bytes_eq one.1 one.0) (ap (λ (p : Pair). bytes_eq p.1 p.0) (sym (at_last i d last)) ∙ c) same

  -- an image that was seen, or is a name
  pub again : (shared' : Text → Bool) → (seen one.1 || is_name known one.1) ≡ true → ((q : Text) → shared' q ≡ (bytes_eq q one.1 || shared q)) → Seen known (n + 1) seen shared'
  again shared' met put = record {
    all = λ i d h c. elim (last_or_before n i h) [
      | inl before ↦ s.all i d before c
      | inr last ↦ ap (λ (t : Text). seen t || is_name known t) (image_last i d last) ∙ met
    ];
    named = λ i d h c k. elim (last_or_before n i h) [
      | inl before ↦ put (get_or known i d).1 ∙ or_right _ _ (s.named i d before c k)
      | inr last ↦ put (get_or known i d).1 ∙ or_left _ _ ((bytes_eq-Decides (get_or known i d).1 one.1).1 (image_last i d last))
    ];
    twice = λ i j d h k b c e. elim (last_or_before n j k) [
      | inl before ↦ put (get_or known j d).1 ∙ or_right _ _ (s.twice i j d h before b c e)
      | inr last ↦ put (get_or known j d).1 ∙ or_left _ _ ((bytes_eq-Decides (get_or known j d).1 one.1).1 (image_last j d last))
    ];
  }

  -- an image that wasn't seen
  pub first_time : (seen' : Text → Bool) → (seen one.1 || is_name known one.1) ≡ false → ((q : Text) → seen' q ≡ (bytes_eq q one.1 || seen q)) → Seen known (n + 1) seen' shared
  first_time seen' new put = record {
    all = λ i d h c. elim (last_or_before n i h) [
      | inl before ↦ ap (λ (b : Bool). b || is_name known (get_or known i d).1) (put (get_or known i d).1) ∙ or_more (bytes_eq (get_or known i d).1 one.1) (seen (get_or known i d).1) (is_name known (get_or known i d).1) (s.all i d before c)
      | inr last ↦ ap (λ (b : Bool). b || is_name known (get_or known i d).1) (put (get_or known i d).1) ∙ or_first (bytes_eq (get_or known i d).1 one.1) (seen (get_or known i d).1) (is_name known (get_or known i d).1) ((bytes_eq-Decides (get_or known i d).1 one.1).1 (image_last i d last))
    ];
    named = λ i d h c k. elim (last_or_before n i h) [
      | inl before ↦ s.named i d before c k
      | inr last ↦ absurd (both_ways (seen one.1 || is_name known one.1) new (or_right _ _ (ap (is_name known) (sym (image_last i d last)) ∙ k)))
    ];
    twice = λ i j d h k b c e. elim (last_or_before n j k) [
      | inl before ↦ s.twice i j d h before b c e
      | inr last ↦
          let here : (get_or known i d).1 ≡ one.1 = e ∙ image_last j d last in
          absurd (both_ways (seen one.1 || is_name known one.1) new (ap (λ (t : Text). seen t || is_name known t) (sym here) ∙ s.all i d (omega arith) b))
    ];
  }

-- a name of a table
pub is_name_at : (known : List Pair) (j : ℕ) (d : Pair) (t : Text) → j < length known → (get_or known j d).0 ≡ t → is_name known t ≡ true
is_name_at known j d t h e = tested (map (λ (k : Pair). k.0) known) t (by known j h e)
  where
    by : (ks : List Pair) (j : ℕ) → j < length ks → (get_or ks j d).0 ≡ t → In (map (λ (k : Pair). k.0) ks) t
    by [] j h e = absurd (omega arith)
    by (k ∷ ks) zero h e = inl e
    by (k ∷ ks) (suc j) h e = inr (by ks j (omega arith) e)

-- what a search for a name finds
pub named_by : (known : List Pair) (name : Text) (o : Option ℕ) → MatchOption o (IsNowhere (λ (k : Pair). k.0) known name) (IsPlaceOf (λ (k : Pair). k.0) known name) → is_some o ≡ is_name known name
named_by known name (Some k) at = sym (is_name_at known k ([], []) name at.0 (at.1 ([], [])))
named_by known name None none = same_answer false (is_name known name) (λ e. absurd cc) (λ e.
    let at = in_at (map (λ (k : Pair). k.0) known) name (from_tested (map (λ (k : Pair). k.0) known) name e) in
    absurd (nowhere_named known name none at.0 [] at.1 (at.2 [])))

-- where all are looked at, each image that stands at two places is shared
pub all_shared : (known : List Pair) (seen shared : Text → Bool) → RiseBy (λ (k : Pair). k.0) known → Seen known (length known) seen shared → HoldsShared shared known
all_shared known seen shared rise s i j d h k e =
    by (bytes_eq (get_or known i d).1 (get_or known i d).0) (bytes_eq (get_or known j d).1 (get_or known j d).0) refl refl
  where
    within : i < length known
    within = omega arith

    by : (a b : Bool) → bytes_eq (get_or known i d).1 (get_or known i d).0 ≡ a → bytes_eq (get_or known j d).1 (get_or known j d).0 ≡ b → shared (get_or known j d).1 ≡ true
    by false false p q = s.twice i j d h k p q e
    by false true p q =
        let stays : (get_or known j d).1 ≡ (get_or known j d).0 = (bytes_eq-Decides (get_or known j d).1 (get_or known j d).0).0 q in
        ap shared (sym e) ∙ s.named i d within p (is_name_at known j d (get_or known i d).1 k (sym stays ∙ sym e))
    by true false p q =
        let stays : (get_or known i d).1 ≡ (get_or known i d).0 = (bytes_eq-Decides (get_or known i d).1 (get_or known i d).0).0 p in
        s.named j d k q (is_name_at known i d (get_or known j d).1 within (sym stays ∙ e))
    by true true p q =
        let one : (get_or known i d).1 ≡ (get_or known i d).0 = (bytes_eq-Decides (get_or known i d).1 (get_or known i d).0).0 p in
        let other : (get_or known j d).1 ≡ (get_or known j d).0 = (bytes_eq-Decides (get_or known j d).1 (get_or known j d).0).0 q in
        let same : (get_or known i d).0 ≡ (get_or known j d).0 = sym one ∙ e ∙ other in
        absurd (less_itself (get_or known j d).0 (ap (λ (t : Text). slice_cmp nat_cmp t (get_or known j d).0) (sym same) ∙ rise i j d h k))

-- ---- what a test of shared images says

-- a name whose image is not shared meets no other
pub unshared : (test : Text → Bool) (known : List Pair) (one : Pair) → HoldsShared test known → Contains known one → test one.1 ≡ false → find (meets_known one) known ≡ None
unshared test known one shared there none = find_nothing (meets_known one) known (λ other is meets_it.
    let parts = and_parts _ _ meets_it in
    let at = in_at known other is in
    let one_at : get_or known there.0 one ≡ one = there.2 in
    let other_at : get_or known at.0 one ≡ other = at.2 one in
    let same : one.1 ≡ other.1 = (bytes_eq-Decides one.1 other.1).0 parts.1 in
    elim (cases_order there.0 at.0) [
      | inl e ↦ apart other at.0 one_at other_at e parts.0
      | inr less ↦ elim less [
        | inl lt ↦
            let h : test (get_or known at.0 one).1 ≡ true = shared there.0 at.0 one lt at.1 (ap (λ (p : Pair). p.1) one_at ∙ same ∙ ap (λ (p : Pair). p.1) (sym other_at)) in
            both_ways (test one.1) none (ap test (same ∙ ap (λ (p : Pair). p.1) (sym other_at)) ∙ h)
        | inr gt ↦
            let h : test (get_or known there.0 one).1 ≡ true = shared at.0 there.0 one gt there.1 (ap (λ (p : Pair). p.1) other_at ∙ sym same ∙ ap (λ (p : Pair). p.1) (sym one_at)) in
            both_ways (test one.1) none (ap (λ (p : Pair). test p.1) (sym one_at) ∙ h)
      ]
    ])
  where
    apart : (other : Pair) (j : ℕ) → get_or known there.0 one ≡ one → get_or known j one ≡ other → there.0 ≡ j → not (bytes_eq one.0 other.0) ≡ true → ⊥
    apart other j a b e differs =
        let same_pair : one ≡ other = sym a ∙ ap (λ (k : ℕ). get_or known k one) e ∙ b in
        both_ways (bytes_eq one.0 other.0) (not-true (bytes_eq one.0 other.0) differs) ((bytes_eq-Decides one.0 other.0).1 (ap (λ (p : Pair). p.0) same_pair))

-- names with their images are met as the names are
pub meets_mapped : (f : Text → Text) (name : Text) (known : List Pair) → IsKnownBy f known → option_map (λ (k : Pair). k.0) (find (meets_known (with_image f name)) known) ≡ find (meets f name) (map (λ (k : Pair). k.0) known)
meets_mapped f name [] is = refl
meets_mapped f name (k ∷ ks) is =
    let here : k ≡ with_image f k.0 = cc in
    let behind : ks ≡ map (with_image f) (map (λ (k : Pair). k.0) ks) = cc in
    let test : meets_known (with_image f name) k ≡ meets f name k.0 = ap (meets_known (with_image f name)) here in
    ap (λ (b : Bool). option_map (λ (k : Pair). k.0) (cond b (Some k) (find (meets_known (with_image f name)) ks))) test
    ∙ by (meets f name k.0) (meets_mapped f name ks behind)
  where
    by : (b : Bool) → option_map (λ (k : Pair). k.0) (find (meets_known (with_image f name)) ks) ≡ find (meets f name) (map (λ (k : Pair). k.0) ks)
        → option_map (λ (k : Pair). k.0) (cond b (Some k) (find (meets_known (with_image f name)) ks)) ≡ cond b (Some k.0) (find (meets f name) (map (λ (k : Pair). k.0) ks))
    by true e = refl
    by false e = e
