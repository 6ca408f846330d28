-- The listing of a folder, from the ordered entries of a map.
use Rattle.std.proofs.Common.{Result, Ok, Err, OnOk, IfOk, ◌≡◌, ℕ, ◌+◌, ◌<◌, ◌≤◌, inl, inr, List, [], ◌∷◌, ◌++◌, Some, None, Option, Bool, true, false, refl, sym, ap, ◌∙◌, cond, length, take, drop, arith, nat_eq, map, append-nil, length-append, append_assoc, Bor, subst, get_or, IsTrue, take_all}
use Rattle.std.specs.Prelude.{◌&&◌, nat_le, All, Contains}
use Rattle.std.specs.Ordering.{nat_cmp}
use Rattle.std.specs.Cmp.Lexicographic.{slice_cmp}
use Rattle.std.proofs.lemmas.Cmp.{nat_list_cmp_total}
use Rattle.std.proofs.lemmas.Grind.{common_steps}
use Rattle.std.proofs.lemmas.Bool.Decides.{nat_tests}
use Rattle.std.proofs.lemmas.List.{length-take-le, take-append-le, take-append-drop, map-append}
use Rattle.std.proofs.lemmas.List.Elements.{filter_map-append, Contains-append_left, Contains-get_or}
use Rattle.std.specs.List.{list_all, cons_option, starts_with, AllByRecursion, filter_map}
use Rattle.std.specs.List.Sorted.{IsStrictlySortedBy}
use Rattle.std.specs.Map.{keys_of}
use Rattle.std.specs.declared.cmp.Ordering.TheVariants.{Less}
use Rattle.std.specs.FinMap.{entries, entries-insert, from_entries, empty, put, len-entries, len-empty}
use Rattle.desk_base.specs.Names.{Text}
use Rattle.desk_base.specs.Paths.{is_relative_path}
use Rattle.desk_folders.specs.Contents.{Contents, behind, below, IsListing, paths_below}
use Rattle.desk_folders.proofs.Below.{rising_take, relative_take, paths_below-rise, paths_below-relative}

pub behind_starts : (front text : List ℕ) → behind front text ≡ cond (starts_with nat_eq text front) (Some (drop (length front) text)) None
behind_starts [] text = refl
behind_starts (b ∷ front) [] = refl
behind_starts (b ∷ front) (c ∷ text) = tested (nat_eq b c) (starts_with nat_eq text front) _ _ _ (behind_starts front text) where
  tested : (same rest : Bool) (x : Option (List ℕ)) (y z : Option (List ℕ)) → x ≡ cond rest y z → cond same x z ≡ cond (same && rest) y z
  tested true rest x y z e = e
  tested false rest x y z e = refl

put_first : (e : Text × Text) (es : List (Text × Text)) → AllByRecursion (λ k. slice_cmp nat_cmp e.0 k ≡ Less) (keys_of es) → put (slice_cmp nat_cmp) e.0 e.1 es ≡ e ∷ es
put_first e [] h = refl
put_first e (f ∷ es) h = rw h.0 refl

no_items : (es : List (Text × Text)) → length es ≡ 0 → es ≡ []
no_items [] e = refl
no_items (x ∷ es) e = absurd (omega arith)

empty_of : entries (empty {X = Text} {R = slice_cmp nat_cmp}) ≡ []
empty_of = no_items _ (sym (len-entries empty) ∙ len-empty (slice_cmp nat_cmp) (Text))

-- the entries of a map of ordered entries are these
pub entries_ordered : (es : List (Text × Text)) → IsStrictlySortedBy (slice_cmp nat_cmp) (keys_of es) → entries (from_entries {R = slice_cmp nat_cmp} es) ≡ es
unfolding IsStrictlySortedBy
entries_ordered [] h = empty_of
entries_ordered (e ∷ es) h =
    entries-insert nat_list_cmp_total (from_entries es) e.0 e.1 ∙ ap (put (slice_cmp nat_cmp) e.0 e.1) (entries_ordered es h.1) ∙ put_first e es h.0

-- those taken from a list are of it
taken_of : {X : Type 0} (n : ℕ) (xs : List X) → All (Contains xs) (take n xs)
taken_of n xs k d lt = subst (λ ys. Contains ys (get_or (take n xs) k d)) (take-append-drop n xs) (Contains-append_left (take n xs) (drop n xs) _ (Contains-get_or (take n xs) k d lt))

-- the first of a list, one more than so many, are a listing of it
pub listing : (most : ℕ) (all : List Text) → IsListing most all (take (most + 1) all)
listing most all = by (nat_le (length all) most) refl where
  by : (b : Bool) → nat_le (length all) most ≡ b → IsListing most all (take (most + 1) all)
  by true e = inl (grind (arith, nat_tests, e), take_all (most + 1) all (grind (arith, nat_tests, e)))
  by false e = inr (grind (arith, nat_tests, e), length-take-le (most + 1) all (grind (arith, nat_tests, e)), taken_of (most + 1) all)

-- the paths below a root, from ordered entries
pub paths_ordered : (root : Text) (es : List (Text × Text)) → IsStrictlySortedBy (slice_cmp nat_cmp) (keys_of es) → paths_below root (from_entries es) ≡ filter_map (below root) (keys_of es)
paths_ordered root es h = ap (λ (fs : List (Text × Text)). filter_map (below root) (map (λ e. e.0) fs)) (entries_ordered es h)

-- the first paths below a root, from ordered entries
pub first_paths : (root : Text) (n : ℕ) (es : List (Text × Text)) (got : List Text) (m : Contents) → IsStrictlySortedBy (slice_cmp nat_cmp) (keys_of es)
    → got ≡ take n (filter_map (below root) (keys_of es)) → from_entries es ≡ m → got ≡ take n (paths_below root m)
first_paths root n es got m h e same = e ∙ ap (take n) (sym (paths_ordered root es h)) ∙ ap (λ x. take n (paths_below root x)) same

-- what the first paths below a root are
pub listed_paths : (root : Text) (most : ℕ) (got : List Text) (m : Contents) → got ≡ take (most + 1) (paths_below root m) → IsListing most (paths_below root m) got
listed_paths root most got m e = subst (IsListing most (paths_below root m)) (sym e) (listing most (paths_below root m))

pub listed_rise : (root : Text) (n : ℕ) (got : List Text) (m : Contents) → got ≡ take n (paths_below root m) → IsStrictlySortedBy (slice_cmp nat_cmp) got
listed_rise root n got m e = subst (IsStrictlySortedBy (slice_cmp nat_cmp)) (sym e) (rising_take n _ (paths_below-rise root m))

pub listed_relative : (root : Text) (n : ℕ) (got : List Text) (m : Contents) → got ≡ take n (paths_below root m) → IsTrue (list_all is_relative_path got)
listed_relative root n got m e = ap (list_all is_relative_path) e ∙ relative_take n _ (paths_below-relative root m)

filtered : {X : Type 0} (h : X → Option (Text)) (xs : List X) (x : X) → filter_map h (xs ++ x ∷ []) ≡ filter_map h xs ++ filter_map h (x ∷ [])
filtered h xs x = filter_map-append h xs (x ∷ [])

-- one path more, while there is room
pub one_path_more : (n : ℕ) (root : Text) (keys : List Text) (key rest : Text) (items new : List Text) → length items < n → Some rest ≡ below root key → items ≡ take n (filter_map (below root) keys)
    → new ≡ items ++ rest ∷ [] → new ≡ take n (filter_map (below root) (keys ++ key ∷ []))
one_path_more n root keys key rest items new room is e grown =
    let all = filter_map (below root) keys in
    let short : length all < n = grind (arith, common_steps, e) in
    let whole : items ≡ all = e ∙ take_all n all (omega arith) in
    let more : filter_map (below root) (keys ++ key ∷ []) ≡ all ++ rest ∷ [] = filtered (below root) keys key ∙ ap (λ o. all ++ cons_option o []) (sym is) in
    grown ∙ ap (λ xs. xs ++ rest ∷ []) whole ∙ sym (take_all n (all ++ rest ∷ []) (let k = length-append all (rest ∷ []) in omega arith)) ∙ ap (take n) (sym more)

-- a path that isn't behind the front
pub no_path_more : (n : ℕ) (root : Text) (keys : List Text) (key : Text) (items : List Text) → None ≡ below root key → items ≡ take n (filter_map (below root) keys)
    → items ≡ take n (filter_map (below root) (keys ++ key ∷ []))
no_path_more n root keys key items is e =
    let all = filter_map (below root) keys in
    e ∙ ap (take n) (sym (filtered (below root) keys key ∙ ap (λ o. all ++ cons_option o []) (sym is) ∙ append-nil all))

-- no room for more
pub no_room_more : (n : ℕ) (root : Text) (keys : List Text) (key : Text) (items : List Text) → n ≤ length items → items ≡ take n (filter_map (below root) keys)
    → items ≡ take n (filter_map (below root) (keys ++ key ∷ []))
no_room_more n root keys key items full e =
    let all = filter_map (below root) keys in
    let long : n ≤ length all = grind (arith, common_steps, e) in
    e ∙ sym (take-append-le n all (filter_map (below root) (key ∷ [])) long) ∙ ap (take n) (sym (filtered (below root) keys key))

abbrev pub key_of : Bor (Text) × Bor (Text) → Text
key_of e = e.0.now

pub over_more : (n : ℕ) (root : Text) (ys : List (Bor (Text) × Bor (Text))) (y : Bor (Text) × Bor (Text)) (items : List Text) → items ≡ take n (filter_map (below root) (map key_of ys ++ key_of y ∷ []))
    → items ≡ take n (filter_map (below root) (map key_of (ys ++ y ∷ [])))
over_more n root ys y items e = e ∙ ap (λ ks. take n (filter_map (below root) ks)) (sym (map-append key_of ys (y ∷ [])))

-- the keys that an iterator has left
abbrev pub keys_left : List (Text × Text) → List Text
keys_left = map (λ e. e.0)

-- one key more is yielded
pub yielded_more : (ys : List (Bor (Text) × Bor (Text))) (y : Bor (Text) × Bor (Text)) (left rest all : List (Text × Text)) → keys_left left ≡ key_of y ∷ keys_left rest
    → map key_of ys ++ keys_left left ≡ keys_left all → map key_of (ys ++ y ∷ []) ++ keys_left rest ≡ keys_left all
yielded_more ys y left rest all e h =
    ap (λ ks. ks ++ keys_left rest) (map-append key_of ys (y ∷ [])) ∙ append_assoc (map key_of ys) (key_of y ∷ []) (keys_left rest) ∙ ap (λ ks. map key_of ys ++ ks) (sym e) ∙ h

pub all_yielded : (ys : List (Bor (Text) × Bor (Text))) (left all es : List (Text × Text)) → left ≡ [] → map key_of ys ++ keys_left left ≡ keys_left all → all ≡ es → map key_of ys ≡ keys_left es
all_yielded ys left all es none h same = sym (append-nil (map key_of ys)) ∙ ap (λ l. map key_of ys ++ keys_left l) (sym none) ∙ h ∙ ap keys_left same

-- what holds of an answer with what holds beside it
pub both_ok : {T E O : Type 0} {P Q : T → Type 0} (r : Result T E) → ((x : T) → O → P x → Q x) → OnOk r O → IfOk r P → IfOk r Q
both_ok (Ok x) f o p = f x o p
both_ok (Err e) f o p = tt
