-- What sets of texts hold as they are filled.
use mathlib.Core.Bool.{or_assoc, or-true, or-false}
use Rattle.std.proofs.Common.{◌≡◌, ℕ, ◌+◌, ◌<◌, ◌≤◌, Bool, true, false, cond, ◌||◌, ◌&&◌, eqb, [], ◌∷◌, ◌++◌, length, take, get_or, refl, sym, ap, ◌∙◌, arith}
use Rattle.std.specs.List.{list_any}
use Rattle.std.specs.Str.{bytes_eq}
use Rattle.std.specs.BTreeSet.{BTreeSet, Updates}
use Rattle.std.proofs.lemmas.Bool.{false_from_ne_true}
use Rattle.std.proofs.lemmas.Bool.Decides.{nat_tests}
use Rattle.std.proofs.lemmas.Cmp.{nat_list_eq_equiv}
use Rattle.std.proofs.lemmas.List.{take_all, take_more, length-take-le}
use Rattle.std.proofs.lemmas.List.Folds.{list_any-append}
use Rattle.std.proofs.lemmas.Slice.Eq.{bytes_eq-Decides}
use Rattle.desk_base.specs.Names.{Text, slash}
use Rattle.desk_base.proofs.Bools.{cond_or}
use Rattle.desk_class.specs.Marks.{marked_cmp}
use Rattle.desk_class.specs.MarkOrder.{marked_tie}
use Rattle.desk_clashes.specs.Clashes.{is_folder}
use Rattle.desk_clashes.specs.Known.{holds, folders_of, HoldsFolders}
use Rattle.desk_clashes.proofs.Folders.{any_folder, folder_long, folder_shorter, folders_of-push}

eqb_at : (x : ℕ) → x ≡ slash → eqb x slash ≡ true
eqb_at x e = grind (arith, nat_tests)

eqb_not : (x : ℕ) → (x ≡ slash → ⊥) → eqb x slash ≡ false
eqb_not x n = grind (arith, nat_tests)

-- a folder's length is that of a front before a `/`
pub folder_at : (a b : Text) (r : Bool) → length a < length b → get_or b (length a) 0 ≡ slash → r ≡ bytes_eq (take (length a) b) a → r ≡ is_folder a b
folder_at a b r h e f = f ∙ ap (λ v. v && bytes_eq (take (length a) b) a) (sym (eqb_at (get_or b (length a) 0) e)) ∙ sym (folder_long a b h)

pub folder_not_at : (a b : Text) → length a < length b → (get_or b (length a) 0 ≡ slash → ⊥) → eqb (get_or b (length a) 0) slash ≡ is_folder a b
folder_not_at a b h n = eqb_not (get_or b (length a) 0) n ∙ sym (ap (λ v. v && bytes_eq (take (length a) b) a) (eqb_not (get_or b (length a) 0) n)) ∙ sym (folder_long a b h)

-- a text was put into a set
pub put_holds : (old new : BTreeSet Text) (t q : Text) → Updates marked_cmp old new t true → holds new q ≡ (bytes_eq q t || holds old q)
put_holds old new t q u = u.0 q ∙ ap (λ b. cond b true (holds old q)) (marked_tie t q ∙ nat_list_eq_equiv.symm t q) ∙ cond_or (bytes_eq q t) (holds old q)

folders_more : (t : Text) (i : ℕ) → i < length t → folders_of (take (i + 1) t) ≡ folders_of (take i t) ++ cond (eqb (get_or t i 0) slash) (take i t ∷ []) []
folders_more t i h = ap folders_of (take_more t i 0 h) ∙ folders_of-push (take i t) (get_or t i 0)

-- the folders of a front that ends at a place, from those of the front without its last byte
any_more : (p : Text → Bool) (t : Text) (i place : ℕ) → i + 1 ≡ place → place ≤ length t → list_any p (folders_of (take place t)) ≡ (list_any p (folders_of (take i t)) || (eqb (get_or t i 0) slash && p (take i t)))
any_more p t i place next within =
    ap (λ (n : ℕ). list_any p (folders_of (take n t))) (sym next)
    ∙ ap (list_any p) (folders_more t i (omega arith)) ∙ list_any-append p (folders_of (take i t)) (cond (eqb (get_or t i 0) slash) (take i t ∷ []) [])
    ∙ ap (λ v. list_any p (folders_of (take i t)) || v) (here (eqb (get_or t i 0) slash) (p (take i t)) refl) where
      here : (c r : Bool) → r ≡ p (take i t) → list_any p (cond c (take i t ∷ []) []) ≡ (c && p (take i t))
      here true true e = ap (λ v. v || false) (sym e) ∙ e
      here true false e = ap (λ v. v || false) (sym e) ∙ e
      here false r e = refl

-- a byte that is `/` ends a folder
more_at_slash : (p : Text → Bool) (t : Text) (i place : ℕ) → i + 1 ≡ place → place ≤ length t → get_or t i 0 ≡ slash → list_any p (folders_of (take place t)) ≡ (list_any p (folders_of (take i t)) || p (take i t))
more_at_slash p t i place next within e = any_more p t i place next within ∙ ap (λ v. list_any p (folders_of (take i t)) || (v && p (take i t))) (eqb_at (get_or t i 0) e)

-- no other byte does
pub skip_step : (p : Text → Bool) (t : Text) (i place : ℕ) → i + 1 ≡ place → place ≤ length t → (get_or t i 0 ≡ slash → ⊥) → list_any p (folders_of (take i t)) ≡ list_any p (folders_of (take place t))
skip_step p t i place next within n =
    sym (any_more p t i place next within ∙ ap (λ v. list_any p (folders_of (take i t)) || (v && p (take i t))) (eqb_not (get_or t i 0) n) ∙ or-false (list_any p (folders_of (take i t))))

-- a folder that passes the test
pub hit_step : (p : Text → Bool) (t : Text) (i place : ℕ) → i + 1 ≡ place → place ≤ length t → get_or t i 0 ≡ slash → p (take i t) ≡ true → list_any p (folders_of (take place t)) ≡ true
hit_step p t i place next within e f = more_at_slash p t i place next within e ∙ ap (λ v. list_any p (folders_of (take i t)) || v) f ∙ or-true (list_any p (folders_of (take i t)))

-- a folder that fails it
pub miss_step : (p : Text → Bool) (t : Text) (i place : ℕ) → i + 1 ≡ place → place ≤ length t → get_or t i 0 ≡ slash → p (take i t) ≡ false → list_any p (folders_of (take i t)) ≡ list_any p (folders_of (take place t))
miss_step p t i place next within e f =
    sym (more_at_slash p t i place next within e ∙ ap (λ v. list_any p (folders_of (take i t)) || v) f ∙ or-false (list_any p (folders_of (take i t))))

-- While the folders of a text are put into a set, the longest first, those of the front that ends at a place are left. What is
-- shorter than that place is held as at the start.
pub record IsPutting (start set : BTreeSet Text) (t : Text) (place : ℕ) : Type 0 where
  pub together : (q : Text) → (list_any (bytes_eq q) (folders_of (take place t)) || holds set q) ≡ (is_folder q t || holds start q)
  pub shorter : (q : Text) → length q < place → holds set q ≡ holds start q

-- none of the folders was put
pub none_put : (set : BTreeSet Text) (t : Text) (place : ℕ) → length t ≤ place → IsPutting set set t place
none_put set t place h = record {
  together = λ q. ap (λ (u : Text). list_any (bytes_eq q) (folders_of u) || holds set q) (take_all place t h) ∙ ap (λ b. b || holds set q) (any_folder q t);
  shorter = λ q l. refl;
}

-- a shorter text is another one
pub shorter_differs : (q t : Text) → length q < length t → bytes_eq q t ≡ false
shorter_differs q t l = false_from_ne_true (bytes_eq q t) (λ e. absurd (omega (arith, ap length ((bytes_eq-Decides q t).0 e))))

-- the next folder is put
pub folder_put : (start old new : BTreeSet Text) (t : Text) (i place : ℕ) → i + 1 ≡ place → place ≤ length t → get_or t i 0 ≡ slash → ((q : Text) → holds new q ≡ (bytes_eq q (take i t) || holds old q))
    → IsPutting start old t place → IsPutting start new t i
folder_put start old new t i place next within e added putting = record {
  together = λ q.
      ap (λ b. list_any (bytes_eq q) (folders_of (take i t)) || b) (added q)
      ∙ sym (or_assoc (list_any (bytes_eq q) (folders_of (take i t))) (bytes_eq q (take i t)) (holds old q))
      ∙ ap (λ b. b || holds old q) (sym (more_at_slash (bytes_eq q) t i place next within e))
      ∙ putting.together q;
  shorter = λ q l.
      added q ∙ ap (λ b. b || holds old q) (shorter_differs q (take i t) (omega (arith, length-take-le i t (omega arith)))) ∙ putting.shorter q (omega arith);
}

-- no folder ends here
pub none_here : (start set : BTreeSet Text) (t : Text) (i place : ℕ) → i + 1 ≡ place → place ≤ length t → (get_or t i 0 ≡ slash → ⊥) → IsPutting start set t place → IsPutting start set t i
none_here start set t i place next within n putting = record {
  together = λ q. ap (λ b. b || holds set q) (skip_step (bytes_eq q) t i place next within n) ∙ putting.together q;
  shorter = λ q l. putting.shorter q (omega arith);
}

covered : (a b c : Bool) → (a ≡ true → c ≡ true) → (b || c) ≡ ((a || b) || c)
covered true true c f = refl
covered true false c f = f refl
covered false b c f = refl

-- where the set holds the next folder, it holds all that is left
pub rest_held : (start old new : BTreeSet Text) (t : Text) (i place : ℕ) → i + 1 ≡ place → place ≤ length t → get_or t i 0 ≡ slash → ((q : Text) → holds new q ≡ (bytes_eq q (take i t) || holds old q))
    → IsPutting start old t place → HoldsFolders start → holds old (take i t) ≡ true → (q : Text) → holds new q ≡ (is_folder q t || holds start q)
rest_held start old new t i place next within e added putting closed held q =
    added q ∙ covered (list_any (bytes_eq q) (folders_of (take i t))) (bytes_eq q (take i t)) (holds old q) known
    ∙ ap (λ b. b || holds old q) (sym (more_at_slash (bytes_eq q) t i place next within e))
    ∙ putting.together q where
      long : length (take i t) ≡ i
      long = length-take-le i t (omega arith)

      known : list_any (bytes_eq q) (folders_of (take i t)) ≡ true → holds old q ≡ true
      known f =
          let inside : is_folder q (take i t) ≡ true = sym (any_folder q (take i t)) ∙ f in
          putting.shorter q (omega (arith, long, folder_shorter q (take i t) inside))
          ∙ closed (take i t) q (sym (putting.shorter (take i t) (omega (arith, long))) ∙ held) inside
