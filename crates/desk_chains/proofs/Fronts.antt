-- Whether a dotted name's front lies in a scope or reach, told from the bytes.
use Rattle.std.proofs.Common.{◌≡◌, ◌+◌, ℕ, Bool, true, false, not, ◌&&◌, ◌||◌, ◌==◌, [], ◌∷◌, ◌++◌, length, drop, get_or, nat_lt, refl, sym, ap, ◌∙◌, arith, length-append}
use Rattle.std.specs.List.{list_all, slice_split, starts_with}
use Rattle.std.proofs.lemmas.Bool.{and_parts, and_from, lt-ltb, ltb-true, eq-eqb, eqb-true}
use Rattle.std.proofs.lemmas.Bool.Decides.{Decides-eqb}
use Rattle.std.proofs.lemmas.List.{append-nil, append_assoc, drop_at, drop-drop, drop_more, get_or_at}
use Rattle.std.proofs.lemmas.List.Folds.{list_all-append}
use Rattle.std.proofs.lemmas.List.Splits.{slice_split_none}
use Rattle.std.proofs.lemmas.Slice.Eq.{starts_is}
use Rattle.desk_base.specs.Names.{Text, Package, segments, written, front, simple, is_empty, is_dotted, is_identifier, is_whole}
use Rattle.desk_base.proofs.Bools.{same_answer}
use Rattle.desk_base.proofs.Lists.{not_empty-push}
use Rattle.desk_base.proofs.Separated.{none_is, split_filled}
use Rattle.desk_packages.specs.Renames.{Renaming, covers, in_reach, in_scope, is_rename}
use Rattle.desk_chains.specs.Chains.{front_in_reach, front_in_scope}
use Rattle.desk_packages.specs.Keys.{goes_on}
use Rattle.desk_packages.proofs.Same.{same_is, same_from, begins_is, begins_from}
use Rattle.desk_packages.proofs.Cuts.{segments_behind, written-segments, front_simple}
use Rattle.desk_packages.proofs.Bytes.{identifier_whole}
use Rattle.desk_packages.proofs.KeyLaws.{identifier_cuts}
use Rattle.desk_packages.proofs.Lookup.{written_more}

-- what passes a test: the front does, and the last part
pub front_all : (test : Text → Bool) (ps : Package) → not (is_empty ps) ≡ true → list_all test ps ≡ true → (list_all test (front ps) ≡ true) × (test (simple ps) ≡ true)
front_all test ps filled h =
    let both : (list_all test (front ps) && list_all test (simple ps ∷ [])) ≡ true = sym (list_all-append test (front ps) (simple ps ∷ [])) ∙ ap (list_all test) (front_simple ps filled) ∙ h in
    ((and_parts _ _ both).0, (and_parts _ _ (and_parts _ _ both).1).0)

front-append : (p q : Package) → not (is_empty q) ≡ true → front (p ++ q) ≡ p ++ front q
front-append [] q h = refl
front-append (x ∷ []) [] h = absurd cc
front-append (x ∷ []) (y ∷ q) h = refl
front-append (x ∷ z ∷ p) q h = ap (λ (w : Package). x ∷ w) (front-append (z ∷ p) q h)

-- a text that is a start, a dot and more
goes_from : (below : Bool) (w more : Text) → (below || is_whole 46 more) ≡ true → goes_on below w (w ++ 46 ∷ more) ≡ true
goes_from below w more h =
    let lengths : length (w ++ 46 ∷ more) ≡ length w + length (46 ∷ more) = length-append w (46 ∷ more) in
    let behind : drop (length w + 1) (w ++ 46 ∷ more) ≡ more = sym (drop-drop 1 (length w) (w ++ 46 ∷ more)) ∙ ap (λ (t : Text). drop 1 t) (drop_at w (46 ∷ more) (length w) refl) in
    and_from _ _ (and_from _ _ (and_from _ _
    ((starts_is Decides-eqb (w ++ 46 ∷ more) w (starts_with ◌==◌ (w ++ 46 ∷ more) w) refl).1 (46 ∷ more) refl)
    (lt-ltb (length w) (length (w ++ 46 ∷ more)) (omega (arith, lengths))))
    (eq-eqb (get_or (w ++ 46 ∷ more) (length w) 0) 46 (get_or_at w 46 more 0 (length w) refl)))
    (ap (λ (t : Text). below || is_whole 46 t) behind ∙ h)

pub record GoesOn (below : Bool) (w t : Text) : Type 0 where
  pub more : Text
  pub is : t ≡ w ++ 46 ∷ more
  pub one : (below || is_whole 46 more) ≡ true

pub goes_is : (below : Bool) (w t : Text) → goes_on below w t ≡ true → GoesOn below w t
goes_is below w t h =
    let h3 = and_parts (starts_with ◌==◌ t w && nat_lt (length w) (length t) && get_or t (length w) 0 == 46) (below || is_whole 46 (drop (length w + 1) t)) h in
    let h2 = and_parts (starts_with ◌==◌ t w && nat_lt (length w) (length t)) (get_or t (length w) 0 == 46) h3.0 in
    let h1 = and_parts (starts_with ◌==◌ t w) (nat_lt (length w) (length t)) h2.0 in
    let begins : t ≡ w ++ drop (length w) t = (starts_is Decides-eqb t w (starts_with ◌==◌ t w) refl).0 h1.0 in
    let next : drop (length w) t ≡ get_or t (length w) 0 ∷ drop (length w + 1) t = drop_more t (length w) 0 (ltb-true (length w) (length t) h1.1) in
    let dotted : get_or t (length w) 0 ≡ 46 = eqb-true (get_or t (length w) 0) 46 h2.1 in
    record { more = drop (length w + 1) t; is = begins ∙ ap (λ (u : Text). w ++ u) (next ∙ ap (λ (b : ℕ). b ∷ drop (length w + 1) t) dotted); one = h3.1 }

written_behind : (p q : Package) → not (is_empty p) ≡ true → not (is_empty q) ≡ true → written 46 (p ++ q) ≡ written 46 p ++ 46 ∷ written 46 q
written_behind [] q h k = absurd cc
written_behind (x ∷ p) [] h k = absurd cc
written_behind (x ∷ p) (y ∷ q) h k = written_more 46 x p y q

module _ (p : Package) (filled : not (is_empty p) ≡ true) (formed : list_all is_identifier p ≡ true) (t : Text) (named : is_dotted t ≡ true) where
  spelled_out : (rest : Package) → front (segments 46 t) ≡ p ++ rest → t ≡ written 46 p ++ 46 ∷ written 46 (rest ++ simple (segments 46 t) ∷ [])
  spelled_out rest e =
      sym (written-segments 46 t)
      ∙ ap (written 46) (sym (front_simple (segments 46 t) (and_parts _ _ named).0) ∙ ap (λ (f : Package). f ++ simple (segments 46 t) ∷ []) e ∙ append_assoc p rest (simple (segments 46 t) ∷ []))
      ∙ written_behind p (rest ++ simple (segments 46 t) ∷ []) filled (not_empty-push rest (simple (segments 46 t)))

  told : (below : Bool) → covers below p (front (segments 46 t)) ≡ true → goes_on below (written 46 p) t ≡ true
  told true h = ap (goes_on true (written 46 p)) (spelled_out (drop (length p) (front (segments 46 t))) (begins_is (front (segments 46 t)) p h)) ∙ goes_from true (written 46 p) _ refl
  told false h =
      ap (goes_on false (written 46 p)) (spelled_out [] (sym (same_is p (front (segments 46 t)) h) ∙ sym (append-nil p)))
      ∙ goes_from false (written 46 p) (simple (segments 46 t)) (identifier_whole (simple (segments 46 t)) (front_all is_identifier (segments 46 t) (and_parts _ _ named).0 (and_parts _ _ named).1).1)

  segments_on : (x : Text) (xs : Package) (more : Text) → list_all is_identifier (x ∷ xs) ≡ true → t ≡ written 46 (x ∷ xs) ++ 46 ∷ more → front (segments 46 t) ≡ (x ∷ xs) ++ front (slice_split (λ b. b == 46) more)
  segments_on x xs more h e =
      ap (λ (u : Text). front (segments 46 u)) e
      ∙ ap front (segments_behind 46 is_identifier (identifier_cuts 46 refl) x xs more h)
      ∙ front-append (x ∷ xs) (slice_split (λ b. b == 46) more) (split_filled 46 more)

  front_on : (q : Package) → not (is_empty q) ≡ true → list_all is_identifier q ≡ true → (more : Text) → t ≡ written 46 q ++ 46 ∷ more → front (segments 46 t) ≡ q ++ front (slice_split (λ b. b == 46) more)
  front_on [] h k more e = absurd cc
  front_on (x ∷ xs) h k more e = segments_on x xs more k e

  back : (below : Bool) → goes_on below (written 46 p) t ≡ true → covers below p (front (segments 46 t)) ≡ true
  back true h =
      let g = goes_is true (written 46 p) t h in
      begins_from (front (segments 46 t)) p _ (front_on p filled formed g.more g.is)
  back false h =
      let g = goes_is false (written 46 p) t h in
      let alone : front (slice_split (λ b. b == 46) g.more) ≡ [] = ap front (slice_split_none (λ b. b == 46) g.more (none_is 46 g.more g.one)) in
      same_from p (front (segments 46 t)) (sym (front_on p filled formed g.more g.is ∙ ap (λ (f : Package). p ++ f) alone ∙ append-nil p))

  -- the front is covered exactly where the text goes on behind the start
  pub front_covered : (below : Bool) → goes_on below (written 46 p) t ≡ covers below p (front (segments 46 t))
  front_covered below = same_answer _ _ (back below) (told below)

pub reach_told : (r : Renaming) → is_rename r ≡ true → (t : Text) → is_dotted t ≡ true → goes_on r.below (written 46 r.target) t ≡ front_in_reach r t
reach_told r formed t named =
    let fine = and_parts _ _ (and_parts _ _ formed).1 in
    front_covered r.target fine.0 fine.1 t named r.below ∙ ap (λ (b : Bool). b && in_reach r (front (segments 46 t))) (sym named)

pub scope_told : (r : Renaming) → is_rename r ≡ true → (t : Text) → is_dotted t ≡ true → goes_on r.below (written 46 r.source) t ≡ front_in_scope r t
scope_told r formed t named =
    let fine = and_parts _ _ (and_parts _ _ formed).0 in
    front_covered r.source fine.0 fine.1 t named r.below ∙ ap (λ (b : Bool). b && in_scope r (front (segments 46 t))) (sym named)
