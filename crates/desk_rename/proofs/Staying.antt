-- Descriptors whose class names begin as no rename does stay.
use Rattle.std.proofs.Common.{◌≡◌, ℕ, zero, suc, ◌<◌, ◌≤◌, ◌+◌, Bool, true, false, cond, ◌==◌, List, [], ◌∷◌, ◌++◌, length, take, drop, map, refl, sym, ap, subst, ◌∙◌, inl, inr, arith, append_assoc}
use Rattle.std.specs.List.{list_all}
use Rattle.std.proofs.lemmas.Bool.{false_from_ne_true, cases_Bool}
use Rattle.memchr.specs.Find.{Nowhere, Passes, is_byte}
use Rattle.desk_base.specs.Names.{Text, Package, segments, written, front, simple, slash, is_whole}
use Rattle.desk_base.proofs.Separated.{split_filled}
use Rattle.desk_base.specs.Descriptors.{as_is}
use Rattle.desk_names.specs.ClassNames.{package_of, simple_of, class_name}
use Rattle.desk_names.specs.Pieces.{Piece, class_piece, last_piece, cut, pieces, piece_text, joined, names_in, place_of}
use Rattle.desk_names.proofs.Places.{name_first, other_first, all_name, all_other}
use Rattle.desk_names.proofs.Pieces.{joins_text}
use Rattle.desk_names.proofs.Scanned.{tree_of}
use Rattle.desk_packages.specs.Renames.{Renaming, is_rename, pkg}
use Rattle.desk_names.proofs.CutNames.{last_part_whole}
use Rattle.desk_packages.proofs.Cuts.{front_simple, written-segments}
use Rattle.desk_packages.proofs.Joined.{written_push}
use Rattle.desk_packages.proofs.Segments.{whole_alone, segments_whole}
use Rattle.desk_rules.specs.Firsts.{begins_as}
use Rattle.desk_rules.proofs.Beginnings.{none_for}
use Rattle.desk_rename.specs.Images.{repackaged, is_any_descriptor, desc}
use Rattle.desk_rename.specs.Drafts.{Fixed, IsFirstName}
use Rattle.desk_rename.proofs.Exchanges.{unchanged}
use Rattle.desk_rename.proofs.Differs.{fixed_from, some_kind}
use Rattle.desk_rename.proofs.Finished.{desc_is, desc_other}
use Rattle.desk_rename.proofs.Looked.{fixed_first, fixed_rest, joined_first}

-- ---- where a byte first stands

not_first : (a b : ℕ) (t : Text) (k : ℕ) → Nowhere (Passes (is_byte a) (b ∷ t)) 0 (suc k) → (b == a) ≡ false
not_first a b t k none = false_from_ne_true (b == a) (λ e. none 0 (omega arith) (omega arith) e)

behind : (a b : ℕ) (t : Text) (k : ℕ) → Nowhere (Passes (is_byte a) (b ∷ t)) 0 (suc k) → Nowhere (Passes (is_byte a) t) 0 k
behind a b t k none j low high p = none (suc j) (omega arith) (omega arith) p

pub placed : (a : ℕ) (t : Text) (k : ℕ) → k < length t → Nowhere (Passes (is_byte a) t) 0 k → Passes (is_byte a) t k → k ≡ place_of a t
unfolding place_of
placed a [] k h none p = absurd (omega arith)
placed a (b ∷ t) zero h none p = sym (ap (λ (c : Bool). cond c 0 (suc (place_of a t))) p)
placed a (b ∷ t) (suc k) h none p =
    ap suc (placed a t k (omega arith) (behind a b t k none) p) ∙ sym (ap (λ (c : Bool). cond c 0 (suc (place_of a t))) (not_first a b t k none))

pub nowhere : (a : ℕ) (t : Text) → Nowhere (Passes (is_byte a) t) 0 (length t) → length t ≤ place_of a t
unfolding place_of
nowhere a [] none = omega arith
nowhere a (b ∷ t) none =
    let later : length t ≤ place_of a t = nowhere a t (behind a b t (length t) none) in
    let here : cond (b == a) 0 (suc (place_of a t)) ≡ suc (place_of a t) = ap (λ (c : Bool). cond c 0 (suc (place_of a t))) (not_first a b t (length t) none) in
    omega arith

-- ---- the first class name

no_last : (t : Text) → names_in (last_piece t) ≡ []
unfolding names_in
no_last [] = refl
no_last (b ∷ t) = refl

only_other : (t u : Text) → names_in (Piece.other t ∷ last_piece u) ≡ []
unfolding names_in
only_other t u = no_last u

-- a text without an `L` has no class name
pub none_begun : (t : Text) → Nowhere (Passes (is_byte 76) t) 0 (length t) → names_in (pieces t) ≡ []
none_begun t none = ap names_in (all_other [] t (nowhere 76 t none)) ∙ no_last t

-- nor one without a `;` behind its first `L`
pub none_ended : (t left : Text) (k : ℕ) → k < length t → Nowhere (Passes (is_byte 76) t) 0 k → Passes (is_byte 76) t k → left ≡ drop (k + 1) t → Nowhere (Passes (is_byte 59) left) 0 (length left) → names_in (pieces t) ≡ []
none_ended t left k within none at is unended =
    ap names_in (other_first t k (placed 76 t k within none at) within ∙ ap (λ (u : Text). Piece.other (take (k + 1) t) ∷ cut true [] u) (sym is) ∙ ap (λ (ps : List Piece). Piece.other (take (k + 1) t) ∷ ps) (all_name [] left (nowhere 59 left unended)))
    ∙ only_other (take (k + 1) t) left

pub named_first : (t left : Text) (k n : ℕ) → k < length t → Nowhere (Passes (is_byte 76) t) 0 k → Passes (is_byte 76) t k → left ≡ drop (k + 1) t → n < length left → Nowhere (Passes (is_byte 59) left) 0 n → Passes (is_byte 59) left n → (name more : Text) → name ≡ take n left → more ≡ drop n left → IsFirstName t name more
named_first t left k n within none at is inside unended ends name more name_is more_is = record {
  before = take (k + 1) t;
  parts = other_first t k (placed 76 t k within none at) within ∙ ap (λ (u : Text). Piece.other (take (k + 1) t) ∷ cut true [] u) (sym is)
      ∙ ap (λ (ps : List Piece). Piece.other (take (k + 1) t) ∷ ps) (name_first left n (placed 59 left n inside unended ends) inside)
      ∙ ap (λ (u : Text). Piece.other (take (k + 1) t) ∷ class_piece u ∷ pieces (drop n left)) (sym name_is)
      ∙ ap (λ (u : Text). Piece.other (take (k + 1) t) ∷ class_piece name ∷ pieces u) (sym more_is);
}

-- ---- names that stay

front_begins : (rs : List Renaming) (p : Package) → begins_as rs p ≡ false → begins_as rs (front p) ≡ false
front_begins rs [] h = refl
front_begins rs (x ∷ []) h = refl
front_begins rs (x ∷ y ∷ p) h = h

-- a package that begins as no rename does is its own image
package_stays : (rs : List Renaming) → list_all is_rename rs ≡ true → (p : Package) → begins_as rs p ≡ false → pkg rs p ≡ p
package_stays rs formed p none = unchanged rs p (none_for rs formed p none)

-- and so is a name in such a package
name_stays : (rs : List Renaming) → list_all is_rename rs ≡ true → (name : Text) → begins_as rs (front (segments slash name)) ≡ false → repackaged rs name ≡ name
name_stays rs formed [] none = ap (λ (p : Package). written slash (p ++ [] ∷ [])) (package_stays rs formed [] refl)
name_stays rs formed (b ∷ t) none =
    ap (λ (p : Package). written slash (p ++ simple (segments slash (b ∷ t)) ∷ [])) (package_stays rs formed (front (segments slash (b ∷ t))) none)
    ∙ ap (written slash) (front_simple (segments slash (b ∷ t)) (split_filled slash (b ∷ t)))
    ∙ written-segments slash (b ∷ t)

-- a name without a `/` has no package
whole_stays : (rs : List Renaming) → list_all is_rename rs ≡ true → (name : Text) → is_whole slash name ≡ true → repackaged rs name ≡ name
whole_stays rs formed [] whole = name_stays rs formed [] refl
whole_stays rs formed (b ∷ t) whole = name_stays rs formed (b ∷ t) (ap (λ (p : Package). begins_as rs (front p)) (whole_alone slash b t whole))

written_back : (before : Package) (last : Text) (b : ℕ) (t : Text) → written slash before ≡ b ∷ t → (b ∷ t) ++ slash ∷ last ≡ written slash (before ++ last ∷ [])
written_back [] last b t e = absurd cc
written_back (x ∷ xs) last b t e = ap (λ (u : Text). u ++ slash ∷ last) (sym e) ∙ sym (written_push slash (x ∷ xs) last (omega arith) ∙ append_assoc (written slash (x ∷ xs)) (slash ∷ []) last)

-- a name with a package is the text that it was cut from
cut_back : (seen : Text) (b : ℕ) (t : Text) → package_of seen ≡ b ∷ t → class_name (b ∷ t) (simple_of seen) ≡ seen
unfolding package_of simple_of
cut_back [] b t e = absurd cc
cut_back (c ∷ seen) b t e =
    written_back (front (segments slash (c ∷ seen))) (simple (segments slash (c ∷ seen))) b t e
    ∙ ap (written slash) (front_simple (segments slash (c ∷ seen)) (split_filled slash (c ∷ seen)))
    ∙ written-segments slash (c ∷ seen)

simple_whole : (seen : Text) → is_whole slash (simple_of seen) ≡ true
unfolding simple_of
simple_whole seen = last_part_whole (segments slash seen) (segments_whole slash seen)

piece_stays : (rs : List Renaming) → list_all is_rename rs ≡ true → (seen : Text) → begins_as rs (segments slash seen) ≡ false → repackaged rs (class_name (package_of seen) (simple_of seen)) ≡ class_name (package_of seen) (simple_of seen)
piece_stays rs formed seen none =
    elim (package_of seen) as (λ (p : Text). package_of seen ≡ p → repackaged rs (class_name p (simple_of seen)) ≡ class_name p (simple_of seen)) [
      | [] ↦ λ e. whole_stays rs formed (simple_of seen) (simple_whole seen)
      | b ∷ t ↦ λ e. ap (repackaged rs) (cut_back seen b t e) ∙ name_stays rs formed seen (front_begins rs (segments slash seen) none) ∙ sym (cut_back seen b t e)
    ] refl

fixed_first_name : (f : Text → Text) (before name : Text) (rest : List Piece) → f (class_name (package_of name) (simple_of name)) ≡ class_name (package_of name) (simple_of name) → Fixed f rest → Fixed f (Piece.other before ∷ class_piece name ∷ rest)
unfolding Fixed
fixed_first_name f before name rest here behind = (here, behind)

-- ---- what stays of a descriptor

-- the class names behind the first are their own images, and so is the first
pub fixed_more : (rs : List Renaming) → list_all is_rename rs ≡ true → (text name more : Text) → IsFirstName text name more → begins_as rs (segments slash name) ≡ false → Fixed (repackaged rs) (pieces more) → Fixed (repackaged rs) (pieces text)
fixed_more rs formed text name more found none behind =
    subst (Fixed (repackaged rs)) (sym found.parts) (fixed_first_name (repackaged rs) found.before name (pieces more) (piece_stays rs formed name none) behind)

pub fixed_none : (f : Text → Text) (text : Text) → names_in (pieces text) ≡ [] → Fixed f (pieces text)
fixed_none f text none = fixed_from f (pieces text) (ap (map f) none ∙ sym none)

joined_nothing : (f : Text → Text) → joined f [] ≡ []
unfolding joined
joined_nothing f = refl

joined_fixed : (f : Text → Text) (ps : List Piece) → Fixed f ps → joined f ps ≡ joined as_is ps
joined_fixed f [] h = joined_nothing f ∙ sym (joined_nothing as_is)
joined_fixed f (p ∷ ps) h =
    joined_first f p ps ∙ ap (λ (t : Text). t ++ joined f ps) (fixed_first f p ps h) ∙ ap (λ (t : Text). piece_text as_is p ++ t) (joined_fixed f ps (fixed_rest f p ps h)) ∙ sym (joined_first as_is p ps)

-- a descriptor whose class names are their own images is its own image
pub desc_stays : (rs : List Renaming) (text : Text) → Fixed (repackaged rs) (pieces text) → desc rs text ≡ text
desc_stays rs text fixed = elim (cases_Bool (is_any_descriptor text)) [
  | inl any ↦
      let k = some_kind text any in
      let t = tree_of k.0 text k.1 in
      desc_is rs text any ∙ joined_fixed (repackaged rs) (pieces text) fixed ∙ joins_text k.0 text t.0 t.1
  | inr other ↦ desc_other rs text other
]
