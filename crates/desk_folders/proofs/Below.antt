-- The relative paths below a root: what they are, and that they strictly rise.
use Rattle.std.proofs.Common.{◌≡◌, ℕ, List, [], ◌∷◌, ◌++◌, Some, None, Option, Bool, true, false, cond, refl, sym, ap, ◌∙◌, take, suc, zero, IsTrue, map}
use Rattle.std.specs.Prelude.{T, ◌&&◌, ◌==◌, option_and_then, if◌then◌else◌}
use Rattle.std.specs.List.{filter_map, cons_option, list_all, AllByRecursion}
use Rattle.std.specs.List.Sorted.{IsStrictlySortedBy}
use Rattle.std.specs.Ordering.{nat_cmp, ordering_then}
use Rattle.std.specs.Cmp.Lexicographic.{slice_cmp}
use Rattle.std.proofs.lemmas.Cmp.{nat_cmp_total, tied_itself}
use Rattle.std.proofs.lemmas.Bool.{eqb-true, eq-eqb}
use Rattle.std.specs.declared.cmp.Ordering.TheVariants.{Less}
use Rattle.std.specs.FinMap as fin
use Rattle.std.specs.FinMap.Entries.{below_all, is_sorted}
use Rattle.std.specs.Str.{bytes_eq}
use Rattle.desk_base.specs.Names.{Text, slash}
use Rattle.desk_base.specs.Paths.{here, top, folder, full, is_relative_path}
use Rattle.desk_base.proofs.Orderings.{less_is}
use Rattle.desk_folders.specs.Contents.{Contents, behind, relative, below, paths_below}

-- what stands before a path below a root that is neither `.` nor `/`
pub folder-other : (root : Text) → bytes_eq root here ≡ false → bytes_eq root top ≡ false → folder root ≡ root ++ slash ∷ []
folder-other root e f = ap (λ b. if b then [] else if bytes_eq root top then top else root ++ slash ∷ []) e ∙ ap (λ b. if b then top else root ++ slash ∷ []) f

-- behind one text and then another is behind both joined
pub behind-append : (f g t : Text) → behind (f ++ g) t ≡ option_and_then (behind g) (behind f t)
behind-append [] g t = refl
behind-append (b ∷ f) g [] = refl
behind-append (b ∷ f) g (c ∷ t) = by (b == c) (behind-append f g t) where
  by : (same : Bool) → behind (f ++ g) t ≡ option_and_then (behind g) (behind f t) → cond same (behind (f ++ g) t) None ≡ option_and_then (behind g) (cond same (behind f t) None)
  by true e = e
  by false e = refl

some_same : (x y : Text) → Some x ≡ Some y → x ≡ y
some_same x y e = cc

-- what is behind a front makes the text with it
pub behind-is : (f t r : Text) → behind f t ≡ Some r → t ≡ f ++ r
behind-is [] t r e = some_same t r e
behind-is (b ∷ f) [] r e = absurd (cc)
behind-is (b ∷ f) (c ∷ t) r e = by (b == c) refl (behind-is f t r) e where
  by : (same : Bool) → (b == c) ≡ same → (behind f t ≡ Some r → t ≡ f ++ r) → cond same (behind f t) None ≡ Some r → c ∷ t ≡ b ∷ (f ++ r)
  by true is rest h = ap (λ x. x ∷ t) (sym (eqb-true b c is)) ∙ ap (λ x. b ∷ x) (rest h)
  by false is rest h = absurd (cc)

pub behind-front : (f r : Text) → behind f (f ++ r) ≡ Some r
behind-front [] r = refl
behind-front (b ∷ f) r = ap (λ same. cond same (behind f (f ++ r)) None) (eq-eqb b b refl) ∙ behind-front f r

-- a relative path below a root is one, and it is that path's
pub below-is : (root t p : Text) → below root t ≡ Some p → (t ≡ full root p) × (is_relative_path p ≡ true)
below-is root t p e = at (behind (folder root) t) refl e where
  tested : (r : Text) (b : Bool) → is_relative_path r ≡ b → behind (folder root) t ≡ Some r → (if b then Some r else None) ≡ Some p → (t ≡ full root p) × (is_relative_path p ≡ true)
  tested r true is h s = let same = some_same r p s in (behind-is (folder root) t r h ∙ ap (λ x. folder root ++ x) same, ap is_relative_path (sym same) ∙ is)
  tested r false is h s = absurd (cc)

  at : (o : Option Text) → behind (folder root) t ≡ o → option_and_then relative o ≡ Some p → (t ≡ full root p) × (is_relative_path p ≡ true)
  at None is h = absurd (cc)
  at (Some r) is h = tested r (is_relative_path r) refl is h

pub below-full : (root p : Text) → is_relative_path p ≡ true → below root (full root p) ≡ Some p
below-full root p is = ap (option_and_then relative) (behind-front (folder root) p) ∙ ap (λ b. if b then Some p else None) is

-- texts behind one front are ordered as they are without it
pub cmp-behind : (f p q : Text) → slice_cmp nat_cmp (f ++ p) (f ++ q) ≡ slice_cmp nat_cmp p q
cmp-behind [] p q = refl
cmp-behind (b ∷ f) p q = ap (λ o. ordering_then o (slice_cmp nat_cmp (f ++ p) (f ++ q))) (tied_itself nat_cmp_total b) ∙ cmp-behind f p q

-- each of these stands behind a text
abbrev pub AllBehind : Text → List Text → Type 0
AllBehind k = AllByRecursion (λ y. slice_cmp nat_cmp k y ≡ Less)

all_below : (root k p : Text) (ks : List Text) → k ≡ full root p → AllBehind k ks → AllBehind p (filter_map (below root) ks)
all_below root k p [] e h = tt
all_below root k p (x ∷ ks) e h = at (below root x) refl (all_below root k p ks e h.1) where
  at : (o : Option Text) → below root x ≡ o → AllBehind p (filter_map (below root) ks) → AllBehind p (cons_option o (filter_map (below root) ks))
  at None is rest = rest
  at (Some q) is rest =
      let same : x ≡ full root q = (below-is root x q is).0 in
      (sym (cmp-behind (folder root) p q) ∙ ap (λ y. slice_cmp nat_cmp (full root p) y) (sym same) ∙ ap (λ y. slice_cmp nat_cmp y x) (sym e) ∙ h.0, rest)

pub rising_below : (root : Text) (ks : List Text) → IsStrictlySortedBy (slice_cmp nat_cmp) ks → IsStrictlySortedBy (slice_cmp nat_cmp) (filter_map (below root) ks)
unfolding IsStrictlySortedBy
rising_below root [] h = tt
rising_below root (k ∷ ks) h = at (below root k) refl (rising_below root ks h.1) where
  at : (o : Option Text) → below root k ≡ o → IsStrictlySortedBy (slice_cmp nat_cmp) (filter_map (below root) ks) → IsStrictlySortedBy (slice_cmp nat_cmp) (cons_option o (filter_map (below root) ks))
  at None is rest = rest
  at (Some p) is rest = (all_below root k p ks (below-is root k p is).0 h.0, rest)

all_taken : (k : Text) (n : ℕ) (xs : List Text) → AllBehind k xs → AllBehind k (take n xs)
all_taken k zero xs h = tt
all_taken k (suc n) [] h = tt
all_taken k (suc n) (x ∷ xs) h = (h.0, all_taken k n xs h.1)

pub rising_take : (n : ℕ) (xs : List Text) → IsStrictlySortedBy (slice_cmp nat_cmp) xs → IsStrictlySortedBy (slice_cmp nat_cmp) (take n xs)
unfolding IsStrictlySortedBy
rising_take zero xs h = tt
rising_take (suc n) [] h = tt
rising_take (suc n) (x ∷ xs) h = (all_taken x n xs h.0, rising_take n xs h.1)

-- each path below a root is relative
pub relative_below : (root : Text) (ks : List Text) → list_all is_relative_path (filter_map (below root) ks) ≡ true
relative_below root [] = refl
relative_below root (k ∷ ks) = at (below root k) refl (relative_below root ks) where
  at : (o : Option Text) → below root k ≡ o → list_all is_relative_path (filter_map (below root) ks) ≡ true → list_all is_relative_path (cons_option o (filter_map (below root) ks)) ≡ true
  at None is rest = rest
  at (Some p) is rest = ap (λ b. b && list_all is_relative_path (filter_map (below root) ks)) (below-is root k p is).1 ∙ rest

pub relative_take : (n : ℕ) (xs : List Text) → list_all is_relative_path xs ≡ true → list_all is_relative_path (take n xs) ≡ true
relative_take zero xs h = refl
relative_take (suc n) [] h = refl
relative_take (suc n) (x ∷ xs) h = by (is_relative_path x) (relative_take n xs) h where
  by : (b : Bool) → (list_all is_relative_path xs ≡ true → list_all is_relative_path (take n xs) ≡ true) → (b && list_all is_relative_path xs) ≡ true → (b && list_all is_relative_path (take n xs)) ≡ true
  by true rest h = rest h
  by false rest h = h

-- both of two tests
both_pass : (a b : Bool) → T (a && b) → (a ≡ true) × T b
both_pass true b h = (refl, h)
both_pass false b h = absurd h

-- keys of entries, in their order
abbrev pub keys_of_entries : List (Text × Text) → List Text
keys_of_entries = map (λ e. e.0)

all_sorted : (k : Text) (es : List (Text × Text)) → T (below_all (slice_cmp nat_cmp) k es) → AllBehind k (keys_of_entries es)
all_sorted k [] h = tt
all_sorted k (e ∷ es) h = let both = both_pass _ _ h in (less_is _ both.0, all_sorted k es both.1)

both_T : (a b : Bool) → T (a && b) → T a × T b
both_T true b h = (tt, h)
both_T false b h = absurd h

rising_entries : (es : List (Text × Text)) → T (is_sorted (slice_cmp nat_cmp) es) → IsStrictlySortedBy (slice_cmp nat_cmp) (keys_of_entries es)
unfolding IsStrictlySortedBy
rising_entries [] h = tt
rising_entries (e ∷ es) h = let both = both_T _ _ h in (all_sorted e.0 es both.0, rising_entries es both.1)

-- the paths below a root stand in byte order, each once
pub paths_below-rise : (root : Text) (m : Contents) → IsStrictlySortedBy (slice_cmp nat_cmp) (paths_below root m)
paths_below-rise root m = rising_below root (fin.keys m) (rising_entries (fin.entries m) (fin.entries_sorted m))

-- each of them is a relative path
pub paths_below-relative : (root : Text) (m : Contents) → IsTrue (list_all is_relative_path (paths_below root m))
paths_below-relative root m = relative_below root (fin.keys m)
