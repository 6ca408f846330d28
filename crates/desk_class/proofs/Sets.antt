-- Names that are added, one after the other.
use mathlib.Core.Bool.{or_assoc}
use Rattle.std.proofs.Common.{◌≡◌, ℕ, ◌+◌, ◌<◌, ◌≤◌, length, take, drop, get_or, Option, arith, drop-cons, add-one, Bool, ◌||◌, List, [], ◌∷◌, ◌++◌, refl, sym, ap, ap₂, subst, ◌∙◌, ◌⊎◌, inl, inr, Some, true}
use Rattle.std.specs.Ordering.{nat_cmp, eq_by_cmp}
use Rattle.std.specs.Cmp.Lexicographic.{slice_cmp}
use Rattle.std.proofs.lemmas.List.{length-append, take-append-le}
use Rattle.std.proofs.Math.Seq.{drop-append_seam, take-length}
use Rattle.desk_base.specs.Names.{Text}
use Rattle.desk_base.specs.declared.kinds.Role.{Role}
use Rattle.desk_base.specs.Descriptors.{as_is}
use Rattle.desk_base.specs.declared.kinds.Used.{Used}
use Rattle.desk_base.specs.Entries.{Pool, text_at}
use Rattle.desk_names.specs.ClassNames.{class_name}
use Rattle.desk_names.specs.Pieces.{Piece, names_in, joined}
use Rattle.desk_packages.proofs.Picks.{In}
use Rattle.desk_class.specs.Answers.{answer_at}
use Rattle.desk_class.specs.Held.{is_held, found_all, each_once, names_of, held_by}
use Rattle.desk_class.specs.Noted.{Notes, HoldsNone}
use Rattle.desk_class.proofs.Once.{found_append, found_old, found_in, absorbed}

pub is_held-append : (xs ys : List Text) (q : Text) → is_held (xs ++ ys) q ≡ (is_held xs q || is_held ys q)
is_held-append [] ys q = refl
is_held-append (x ∷ xs) ys q = ap (λ (b : Bool). eq_by_cmp (slice_cmp nat_cmp) q x || b) (is_held-append xs ys q) ∙ sym (or_assoc (eq_by_cmp (slice_cmp nat_cmp) q x) (is_held xs q) (is_held ys q))

-- ---- parts, one after the other

-- what was added, and what is to come, which is what is left of the text
pub record Adding (s : List Text) (ps : List Piece) (n : List Text) (rest : List Piece) (left : Text) : Type 0 where
  pub added : found_all n (names_in rest) ≡ found_all s (names_in ps)
  pub text : joined as_is rest ≡ left

pub adding_none : (s : List Text) (ps : List Piece) (text : Text) → joined as_is ps ≡ text → Adding s ps s ps text
adding_none s ps text e = record { added = refl; text = e }

-- what stands in front of the text that is left, by the part in front
pub record Front (t left : Text) : Type 0 where
  pub within : length t ≤ length left
  pub is : take (length t) left ≡ t

front_of : (t more left : Text) → t ++ more ≡ left → Front t left
front_of t more left e = record {
  within = omega (arith, ap length e, length-append t more);
  is = ap (take (length t)) (sym e) ∙ take-append-le (length t) t more (omega arith) ∙ take-length t;
}

pub other_front : (s n : List Text) (ps rest all : List Piece) (t left : Text) → all ≡ Piece.other t ∷ rest → Adding s ps n all left → Front t left
unfolding joined
other_front s n ps rest all t left e h = let h' : Adding s ps n (Piece.other t ∷ rest) left = subst (λ (l : List Piece). Adding s ps n l left) e h in front_of t (joined as_is rest) left h'.text

pub adding_other : (s n : List Text) (ps rest all : List Piece) (t left : Text) → all ≡ Piece.other t ∷ rest → Adding s ps n all left → Adding s ps n rest (drop (length t) left)
unfolding names_in joined
adding_other s n ps rest all t left e h =
    let h' : Adding s ps n (Piece.other t ∷ rest) left = subst (λ (l : List Piece). Adding s ps n l left) e h in
    record { added = h'.added; text = sym (ap (drop (length t)) (sym h'.text) ∙ drop-append_seam t (joined as_is rest)) }

pub class_front : (s n : List Text) (ps rest all : List Piece) (before last left : Text) → all ≡ Piece.class before last ∷ rest → Adding s ps n all left → Front (class_name before last) left
unfolding joined
class_front s n ps rest all before last left e h = let h' : Adding s ps n (Piece.class before last ∷ rest) left = subst (λ (l : List Piece). Adding s ps n l left) e h in front_of (class_name before last) (joined as_is rest) left h'.text

pub adding_class : (s n n' : List Text) (ps rest all : List Piece) (before last left : Text) → all ≡ Piece.class before last ∷ rest → n' ≡ found_all n (class_name before last ∷ []) → Adding s ps n all left → Adding s ps n' rest (drop (length (class_name before last)) left)
unfolding names_in joined
adding_class s n n' ps rest all before last left e more h =
    let h' : Adding s ps n (Piece.class before last ∷ rest) left = subst (λ (l : List Piece). Adding s ps n l left) e h in
    record {
      added = ap (λ (xs : List Text). found_all xs (names_in rest)) more ∙ h'.added;
      text = sym (ap (drop (length (class_name before last))) (sym h'.text) ∙ drop-append_seam (class_name before last) (joined as_is rest));
    }

pub adding_done : (s n : List Text) (ps rest : List Piece) (left : Text) → rest ≡ [] → Adding s ps n rest left → n ≡ found_all s (names_in ps)
unfolding names_in
adding_done s n ps rest left e h = let h' : Adding s ps n [] left = subst (λ (l : List Piece). Adding s ps n l left) e h in h'.added

-- ---- uses, one after the other

-- what was added of the first uses, and what is to come
abbrev pub Holding : Pool → List Used → ℕ → List Text → Type 0
Holding pool us i n = found_all n (held_by pool (drop i us)) ≡ each_once (held_by pool us)

holding_more : (pool : Pool) (us : List Used) (i : ℕ) (d : Used) (n n' : List Text) → i < length us → n' ≡ found_all n (names_of (get_or us i d).role (text_at pool (get_or us i d).index)) → Holding pool us i n → Holding pool us (i + 1) n'
holding_more pool us i d n n' lt more h =
    let next : drop i us ≡ get_or us i d ∷ drop (i + 1) us = drop-cons us i d lt ∙ rw add-one refl in
    let names : List Text = names_of (get_or us i d).role (text_at pool (get_or us i d).index) in
    ap (λ (xs : List Text). found_all xs (held_by pool (drop (i + 1) us))) more
    ∙ sym (found_append n names (held_by pool (drop (i + 1) us)))
    ∙ ap (λ (vs : List Used). found_all n (held_by pool vs)) (sym next) ∙ h

-- ---- texts that were looked at

-- the names of each entry in the role that is noted are there
abbrev pub AreHeld : Pool → List (Option Bool) → List Text → Type 0
AreHeld pool noted s = (i : ℕ) (r : Role) → answer_at noted i r ≡ Some true → (q : Text) → In (names_of r (text_at pool i)) q → In s q

-- one more use is noted, whose names are added
held_more : (pool : Pool) (noted noted' : List (Option Bool)) (s n : List Text) (used : Used) → Notes noted' noted used → n ≡ found_all s (names_of used.role (text_at pool used.index)) → AreHeld pool noted s → AreHeld pool noted' n
held_more pool noted noted' s n used is more h i r e q held =
    let names : List Text = names_of used.role (text_at pool used.index) in
    subst (λ (xs : List Text). In xs q) (sym more)
    (elim (is i r e) [
      | inl old ↦ found_old s names q (h i r old q held)
      | inr new ↦ found_in s names q (subst (λ (xs : List Text). In xs q) (ap₂ (λ (o : Role) (j : ℕ). names_of o (text_at pool j)) (sym new.1) new.0) held)
    ])

-- the names of a use that isn't looked at are there
held_again : (pool : Pool) (noted : List (Option Bool)) (s : List Text) (used : Used) → (answer_at noted used.index used.role ≡ Some true) ⊎ HoldsNone used.role → AreHeld pool noted s → s ≡ found_all s (names_of used.role (text_at pool used.index))
held_again pool noted s used (inl again) h = sym (absorbed s (names_of used.role (text_at pool used.index)) (h used.index used.role again))
held_again pool noted s used (inr none) h = sym (ap (found_all s) (none (text_at pool used.index)))

-- one more use, whose names are added
pub looked_more : (pool : Pool) (us : List Used) (i : ℕ) (d : Used) (noted noted' : List (Option Bool)) (s n : List Text) (text : Text) → i < length us → Notes noted' noted (get_or us i d)
    → text ≡ text_at pool (get_or us i d).index → n ≡ found_all s (names_of (get_or us i d).role text)
    → Holding pool us i s → AreHeld pool noted s → Holding pool us (i + 1) n × AreHeld pool noted' n
looked_more pool us i d noted noted' s n text lt notes is more held before =
    let all : n ≡ found_all s (names_of (get_or us i d).role (text_at pool (get_or us i d).index)) = more ∙ ap (λ (t : Text). found_all s (names_of (get_or us i d).role t)) is in
    (holding_more pool us i d s n lt all held, held_more pool noted noted' s n (get_or us i d) notes all before)

-- or whose names are there
pub looked_again : (pool : Pool) (us : List Used) (i : ℕ) (d : Used) (noted noted' : List (Option Bool)) (s : List Text) → i < length us → Notes noted' noted (get_or us i d)
    → (answer_at noted (get_or us i d).index (get_or us i d).role ≡ Some true) ⊎ HoldsNone (get_or us i d).role
    → Holding pool us i s → AreHeld pool noted s → Holding pool us (i + 1) s × AreHeld pool noted' s
looked_again pool us i d noted noted' s lt notes again held before = looked_more pool us i d noted noted' s s (text_at pool (get_or us i d).index) lt notes refl (held_again pool noted s (get_or us i d) again before) held before
