-- A path that is walked over, folder by folder.
use Rattle.std.proofs.Common.{◌≡◌, ◌≤◌, ◌<◌, ◌+◌, ◌-◌, ℕ, zero, suc, Bool, true, false, cond, not, ◌==◌, List, [], ◌∷◌, ◌++◌, length, take, drop, get_or, refl, sym, ap, ◌∙◌, arith, length-append, length-drop}
use Rattle.std.proofs.lemmas.Bool.{and_from, not_from_false, ne_eqb}
use Rattle.std.proofs.lemmas.List.{append_assoc, take-append-drop, drop-drop, take_more, get_or-drop, take_all, take_at, drop_at, length-take-le, take-append-le}
use Rattle.std.proofs.lemmas.List.Folds.{list_all-append}
use Rattle.std.proofs.lemmas.List.Splits.{slice_split_at, slice_split_none, join_with_byte-slice_split}
use Rattle.desk_base.specs.Names.{Text, written, front, is_whole, slash}
use Rattle.desk_base.proofs.Lists.{rest_at}
use Rattle.desk_base.proofs.Separated.{none_is, split_filled, front-push}
use Rattle.desk_packages.proofs.Cuts.{front_simple}
use Rattle.desk_paths.specs.Paths.{parts, folders, file_name, ends_root, root_count, root_length, cut, folder_text}
use Rattle.desk_paths.specs.Walks.{IsStep, IsCutAt}
use Rattle.desk_paths.specs.declared.places.Walk.{Walk}
use Rattle.desk_paths.proofs.Roots.{last_two}

-- ---- lists of folders

last_push : (b a : Text) (xs : List Text) (x : Text) → last_two b a (xs ++ x ∷ []) ≡ ((last_two b a xs).1, x)
last_push b a [] x = refl
last_push b a (y ∷ xs) x = last_push a y xs x

abbrev counted : ℕ → Bool → ℕ
counted n t = elim n as (λ (k : ℕ). ℕ) [ zero ↦ cond t 1 0 | suc m ↦ suc (suc m) ]

-- a further folder ends the root, or leaves it
count_push : (b a : Text) (xs : List Text) (x : Text) → root_count b a (xs ++ x ∷ []) ≡ cond (let two = last_two b a xs in ends_root two.0 two.1 x) (suc (length xs)) (root_count b a xs)
count_push b a [] x = refl
count_push b a (y ∷ xs) x =
    ap (λ (n : ℕ). counted n (ends_root b a y)) (count_push a y xs x) ∙ by_end (let two = last_two a y xs in ends_root two.0 two.1 x)
  where
    by_end : (t : Bool) → counted (cond t (suc (length xs)) (root_count a y xs)) (ends_root b a y) ≡ cond t (suc (suc (length xs))) (counted (root_count a y xs) (ends_root b a y))
    by_end true = refl
    by_end false = refl

-- no root is longer than its folders
pub count_within : (b a : Text) (xs : List Text) → root_count b a xs ≤ length xs
count_within b a [] = omega arith
count_within b a (x ∷ xs) =
    elim (root_count a x xs) as (λ (n : ℕ). root_count a x xs ≡ n → counted n (ends_root b a x) ≤ suc (length xs)) [
      | zero ↦ λ e. small (ends_root b a x)
      | suc m ↦ λ e. let h : root_count a x xs ≤ length xs = count_within a x xs in omega arith
    ] refl
  where
    small : (t : Bool) → cond t 1 0 ≤ suc (length xs)
    small true = omega arith
    small false = omega arith

pub folder_append : (xs ys : List Text) → folder_text (xs ++ ys) ≡ folder_text xs ++ folder_text ys
folder_append [] ys = refl
folder_append (x ∷ xs) ys = ap (λ (t : Text). x ++ slash ∷ t) (folder_append xs ys) ∙ sym (append_assoc x (slash ∷ folder_text xs) (folder_text ys))

pub folder_push : (xs : List Text) (x : Text) → folder_text (xs ++ x ∷ []) ≡ folder_text xs ++ (x ++ slash ∷ [])
folder_push xs x = folder_append xs (x ∷ [])

pub written_folders : (xs : List Text) (x : Text) → written slash (xs ++ x ∷ []) ≡ folder_text xs ++ x
written_folders [] x = refl
written_folders (y ∷ []) x = sym (append_assoc y (slash ∷ []) x)
written_folders (y ∷ z ∷ xs) x = ap (λ (t : Text). y ++ slash ∷ t) (written_folders (z ∷ xs) x) ∙ sym (append_assoc y (slash ∷ folder_text (z ∷ xs)) x)

-- ---- the walk

pub record IsWalked (path : Text) (w : Walk) (i : ℕ) : Type 0 where
  pub seen : List Text
  pub cut : parts path ≡ seen ++ parts (drop w.file_at path)
  pub last : last_two [] [] seen ≡ (w.earlier.now, w.before.now)
  pub file_is : w.file_at ≡ length (folder_text seen)
  pub rest_is : w.rest_at ≡ length (folder_text (take (root_length seen) seen))
  pub order : w.file_at ≤ i
  pub clear : is_whole slash (take (i - w.file_at) (drop w.file_at path)) ≡ true

pub walked_on : (path : Text) (w : Walk) (i : ℕ) → IsWalked path w i → i < length path → (get_or path i 0 ≡ slash → ⊥) → IsWalked path w (i + 1)
walked_on path w i so_far within other =
    let from = w.file_at in
    let order : w.file_at ≤ i = so_far.order in
    let next : (i + 1) - w.file_at ≡ (i - w.file_at) + 1 = omega arith in
    let there : w.file_at + (i - w.file_at) ≡ i = omega arith in
    let inside : i - w.file_at < length (drop w.file_at path) = omega (arith, length-drop w.file_at path) in
    let byte : get_or (drop from path) (i - from) 0 ≡ get_or path i 0 = get_or-drop from path (i - from) 0 ∙ ap (λ (n : ℕ). get_or path n 0) there in
    let longer : take ((i + 1) - from) (drop from path) ≡ take (i - from) (drop from path) ++ get_or path i 0 ∷ [] =
    ap (λ (n : ℕ). take n (drop from path)) next ∙ take_more (drop from path) (i - from) 0 inside ∙ ap (λ (b : ℕ). take (i - from) (drop from path) ++ b ∷ []) byte in
    record {
      seen = so_far.seen;
      cut = so_far.cut;
      last = so_far.last;
      file_is = so_far.file_is;
      rest_is = so_far.rest_is;
      order = omega arith;
      clear = ap (is_whole slash) longer ∙ list_all-append (λ b. not (b == slash)) (take (i - from) (drop from path)) (get_or path i 0 ∷ []) ∙ and_from _ _ so_far.clear (and_from _ _ (not_from_false _ (ne_eqb (get_or path i 0) slash other)) refl);
    }

pub walked_more : (path : Text) (w new : Walk) (i : ℕ) (folder : Text) → IsWalked path w i → i < length path → get_or path i 0 ≡ slash → folder ≡ take (i - w.file_at) (drop w.file_at path) → IsStep w folder (i + 1) new → IsWalked path new (i + 1)
walked_more path w new i folder so_far within found is step =
    let from = w.file_at in
    let order : w.file_at ≤ i = so_far.order in
    let seen = so_far.seen in
    let ahead : parts (drop from path) ≡ folder ∷ parts (drop (i + 1) path) =
    ap parts (rest_at path from i so_far.order within ∙ ap (λ (b : ℕ). take (i - from) (drop from path) ++ b ∷ drop (i + 1) path) found)
    ∙ slice_split_at (λ b. b == slash) (take (i - from) (drop from path)) slash (drop (i + 1) path) (none_is slash (take (i - from) (drop from path)) so_far.clear) refl
    ∙ ap (λ (t : Text). t ∷ parts (drop (i + 1) path)) (sym is) in
    let inside : i - w.file_at ≤ length (drop w.file_at path) = omega (arith, length-drop w.file_at path) in
    let size : length folder ≡ i - w.file_at = ap length is ∙ length-take-le (i - from) (drop from path) inside in
    let before : w.file_at ≡ length (folder_text seen) = so_far.file_is in
    let longer : length (folder_text (seen ++ folder ∷ [])) ≡ length (folder_text seen) + (length folder + 1) =
    ap length (folder_push seen folder) ∙ length-append (folder_text seen) (folder ++ slash ∷ [])
    ∙ ap (λ (n : ℕ). length (folder_text seen) + n) (length-append folder (slash ∷ [])) in
    let reached : i + 1 ≡ length (folder_text (seen ++ folder ∷ [])) = omega arith in
    let none : (i + 1) - (i + 1) ≡ 0 = omega arith in
    let fresh : new.file_at ≡ i + 1 = step.file_is in
    let two : last_two [] [] seen ≡ (w.earlier.now, w.before.now) = so_far.last in
    let ends = ends_root w.earlier.now w.before.now folder in
    let count : root_length (seen ++ folder ∷ []) ≡ cond ends (suc (length seen)) (root_length seen) =
    count_push [] [] seen folder ∙ ap (λ (p : Text × Text). cond (ends_root p.0 p.1 folder) (suc (length seen)) (root_length seen)) two in
    record {
      seen = seen ++ folder ∷ [];
      cut = so_far.cut ∙ ap (λ (ps : List Text). seen ++ ps) ahead ∙ sym (append_assoc seen (folder ∷ []) (parts (drop (i + 1) path))) ∙ ap (λ (n : ℕ). (seen ++ folder ∷ []) ++ parts (drop n path)) (sym fresh);
      last = last_push [] [] seen folder ∙ ap (λ (p : Text × Text). (p.1, folder)) two ∙ (λ k. (sym step.earlier_is k, sym step.before_is k));
      file_is = fresh ∙ reached;
      rest_is = step.rest_is ∙ by_end ends count reached so_far.rest_is;
      order = omega arith;
      clear = ap (λ (n : ℕ). is_whole slash (take ((i + 1) - n) (drop n path))) fresh ∙ ap (λ (n : ℕ). is_whole slash (take n (drop (i + 1) path))) none;
    }
  where
    by_end : (t : Bool) → root_length (so_far.seen ++ folder ∷ []) ≡ cond t (suc (length so_far.seen)) (root_length so_far.seen) → i + 1 ≡ length (folder_text (so_far.seen ++ folder ∷ [])) → w.rest_at ≡ length (folder_text (take (root_length so_far.seen) so_far.seen))
        → cond t (i + 1) w.rest_at ≡ length (folder_text (take (root_length (so_far.seen ++ folder ∷ [])) (so_far.seen ++ folder ∷ [])))
    by_end true count reached old =
        let size : length (so_far.seen ++ folder ∷ []) ≤ suc (length so_far.seen) = omega (arith, length-append so_far.seen (folder ∷ [])) in
        reached ∙ sym (ap (λ (n : ℕ). length (folder_text (take n (so_far.seen ++ folder ∷ [])))) count
        ∙ ap (λ (ps : List Text). length (folder_text ps)) (take_all (suc (length so_far.seen)) (so_far.seen ++ folder ∷ []) size))
    by_end false count reached old =
        old ∙ sym (ap (λ (n : ℕ). length (folder_text (take n (so_far.seen ++ folder ∷ [])))) count
        ∙ ap (λ (ps : List Text). length (folder_text ps)) (take-append-le (root_length so_far.seen) so_far.seen (folder ∷ []) (count_within [] [] so_far.seen)))

-- ---- a path by its folders

pub path_folders : (path : Text) → path ≡ folder_text (folders path) ++ file_name path
path_folders path =
    sym (join_with_byte-slice_split slash path)
    ∙ ap (written slash) (sym (front_simple (parts path) (split_filled slash path)))
    ∙ written_folders (folders path) (file_name path)

pub path_cut : (path : Text) → path ≡ folder_text (cut path).root ++ (folder_text (cut path).rest ++ (cut path).file)
unfolding cut
path_cut path =
    path_folders path
    ∙ ap (λ (ps : List Text). folder_text ps ++ file_name path) (sym (take-append-drop (root_length (folders path)) (folders path)))
    ∙ ap (λ (t : Text). t ++ file_name path) (folder_append (take (root_length (folders path)) (folders path)) (drop (root_length (folders path)) (folders path)))
    ∙ append_assoc (folder_text (take (root_length (folders path)) (folders path))) (folder_text (drop (root_length (folders path)) (folders path))) (file_name path)

-- the three parts of a path that is cut
slices : (path : Text) (rest_at file_at : ℕ) → rest_at ≡ length (folder_text (cut path).root) → file_at ≡ rest_at + length (folder_text (cut path).rest) → IsCutAt path rest_at file_at
slices path rest_at file_at start end =
    let c = cut path in
    let r = folder_text c.root in
    let s = folder_text c.rest in
    let whole : path ≡ r ++ (s ++ c.file) = path_cut path in
    let size : length path ≡ length r + (length s + length c.file) = ap length whole ∙ length-append r (s ++ c.file) ∙ ap (λ (n : ℕ). length r + n) (length-append s c.file) in
    let rest : drop rest_at path ≡ s ++ c.file = ap (drop rest_at) whole ∙ drop_at r (s ++ c.file) rest_at (sym start) in
    let gap : length s ≡ file_at - rest_at = omega arith in
    record {
      order = omega arith;
      within = omega arith;
      root_is = ap (take rest_at) whole ∙ take_at r (s ++ c.file) rest_at (sym start);
      folder_is = ap (take (file_at - rest_at)) rest ∙ take_at s c.file (file_at - rest_at) gap;
      file_is = ap (λ (n : ℕ). drop n path) end ∙ sym (drop-drop (length s) rest_at path) ∙ ap (drop (length s)) rest ∙ drop_at s c.file (length s) refl;
    }

-- where the walk ends
pub walked_all : (path : Text) (w : Walk) (i : ℕ) → IsWalked path w i → length path ≤ i → IsCutAt path w.rest_at w.file_at
unfolding cut
walked_all path w i so_far done =
    let from = w.file_at in
    let seen = so_far.seen in
    let all : take (i - from) (drop from path) ≡ drop from path = take_all (i - from) (drop from path) (omega (arith, length-drop from path)) in
    let last : parts path ≡ seen ++ drop from path ∷ [] =
    so_far.cut ∙ ap (λ (ps : List Text). seen ++ ps) (slice_split_none (λ b. b == slash) (drop from path) (none_is slash (drop from path) (ap (is_whole slash) (sym all) ∙ so_far.clear))) in
    let them : folders path ≡ seen = ap front last ∙ front-push seen (drop from path) in
    let n = root_length (folders path) in
    let rest : w.rest_at ≡ length (folder_text (take n (folders path))) = so_far.rest_is ∙ ap (λ (ps : List Text). length (folder_text (take (root_length ps) ps))) (sym them) in
    slices path w.rest_at w.file_at rest
    (so_far.file_is
    ∙ ap (λ (ps : List Text). length (folder_text ps)) (sym them ∙ sym (take-append-drop n (folders path)))
    ∙ ap length (folder_append (take n (folders path)) (drop n (folders path)))
    ∙ length-append (folder_text (take n (folders path))) (folder_text (drop n (folders path)))
    ∙ ap (λ (k : ℕ). k + length (folder_text (drop n (folders path)))) (sym rest))
