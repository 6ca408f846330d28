-- Images of names keep their form, and are their own images.
use Rattle.std.proofs.Common.{◌≡◌, ℕ, Bool, true, false, cond, List, [], ◌∷◌, ◌++◌, length, drop, Option, Some, None, refl, sym, ap, ◌∙◌}
use Rattle.std.specs.List.{list_all}
use Rattle.std.proofs.lemmas.Bool.{and_parts, and_from}
use Rattle.std.proofs.lemmas.List.Folds.{list_all-append}
use Rattle.desk_base.specs.Names.{Text, Package, segments, written, front, simple, is_name, is_identifier}
use Rattle.desk_base.proofs.Lists.{not_empty-push}
use Rattle.desk_base.proofs.Separated.{front-push, simple-push}
use Rattle.desk_packages.specs.Renames.{Renaming, in_scope, pick, renamed_by, pkg, is_rename}
use Rattle.desk_chains.specs.Chains.{rename_then_rename, first_pair}
use Rattle.desk_rules.specs.Images.{refronted, name_image}
use Rattle.desk_packages.proofs.Same.{covers_is}
use Rattle.desk_packages.proofs.Picks.{Found, pick_Some, all_In}
pub use Rattle.desk_chains.proofs.Fronts.{front_all}
use Rattle.desk_rules.proofs.Twice.{pkg_twice}
use Rattle.desk_packages.proofs.Cuts.{Cuts, segments_written}

all_weaker : (test other : Text → Bool) → ((t : Text) → test t ≡ true → other t ≡ true) → (ps : Package) → list_all test ps ≡ true → list_all other ps ≡ true
all_weaker test other weaker [] h = refl
all_weaker test other weaker (p ∷ ps) h = and_from _ _ (weaker p (and_parts _ _ h).0) (all_weaker test other weaker ps (and_parts _ _ h).1)

both_all : (test : Text → Bool) (xs ys : Package) → list_all test xs ≡ true → list_all test ys ≡ true → list_all test (xs ++ ys) ≡ true
both_all test xs ys h k = list_all-append test xs ys ∙ and_from _ _ h k

rest_all : (test : Text → Bool) (xs ys : Package) → list_all test (xs ++ ys) ≡ true → list_all test ys ≡ true
rest_all test xs ys h = (and_parts _ _ (sym (list_all-append test xs ys) ∙ h)).1

-- a package whose segments pass a test that identifiers pass: those of its image do too
pub pkg_all : (part : Text → Bool) → ((t : Text) → is_identifier t ≡ true → part t ≡ true) → (rs : List Renaming) → list_all is_rename rs ≡ true → (p : Package) → list_all part p ≡ true → list_all part (pkg rs p) ≡ true
pkg_all part known rs renames p h =
    elim (pick rs p) as (λ (o : Option Renaming). pick rs p ≡ o → list_all part (renamed_by o p) ≡ true) [
      | None ↦ λ q. h
      | Some r ↦ λ q.
          let f : Found (λ (r : Renaming). in_scope r p) rs r = pick_Some rs p r q in
          let fine : is_rename r ≡ true = all_In is_rename rs r renames f.there in
          let target : list_all is_identifier r.target ≡ true = (and_parts _ _ (and_parts _ _ fine).1).1 in
          both_all part r.target (drop (length r.source) p) (all_weaker is_identifier part known r.target target)
          (rest_all part r.source (drop (length r.source) p) (rw (covers_is r.below r.source p f.passes) at h))
    ] refl

-- a test for the parts of names: identifiers pass, and what passes can be cut apart
pub record Parts (separator : ℕ) (part : Text → Bool) : Type 0 where
  pub known : (t : Text) → is_identifier t ≡ true → part t ≡ true
  pub cuts : Cuts separator part

-- the segments of a name's image
pub segments_image : (separator : ℕ) (part : Text → Bool) → Parts separator part → (rs : List Renaming) → list_all is_rename rs ≡ true → (t : Text) → is_name part separator t ≡ true
    → (list_all part (refronted rs (segments separator t)) ≡ true) × (segments separator (written separator (refronted rs (segments separator t))) ≡ refronted rs (segments separator t))
segments_image separator part parts rs renames t named =
    let split = front_all part (segments separator t) (and_parts _ _ named).0 (and_parts _ _ named).1 in
    let all : list_all part (refronted rs (segments separator t)) ≡ true =
    both_all part (pkg rs (front (segments separator t))) (simple (segments separator t) ∷ []) (pkg_all part parts.known rs renames (front (segments separator t)) split.0) (and_from _ _ split.1 refl) in
    (all, segments_written separator part parts.cuts (refronted rs (segments separator t)) all)

-- the image of a name is a name
pub name_image_named : (separator : ℕ) (part : Text → Bool) → Parts separator part → (rs : List Renaming) → list_all is_rename rs ≡ true → (t : Text) → is_name part separator t ≡ true → is_name part separator (written separator (refronted rs (segments separator t))) ≡ true
name_image_named separator part parts rs renames t named =
    let s = segments_image separator part parts rs renames t named in
    rw (s.1) (and_from _ _ (not_empty-push (pkg rs (front (segments separator t))) (simple (segments separator t))) s.0)

-- a settled package in front is exchanged once alone
refronted_twice : (rs : List Renaming) → first_pair rename_then_rename rs rs ≡ None → (ps : Package) → refronted rs (refronted rs ps) ≡ refronted rs ps
refronted_twice rs settled ps =
    rw (front-push (pkg rs (front ps)) (simple ps), simple-push (pkg rs (front ps)) (simple ps), pkg_twice rs settled (front ps)) refl

image_of_name : (separator : ℕ) (part : Text → Bool) (rs : List Renaming) (t : Text) → is_name part separator t ≡ true → name_image part separator rs t ≡ written separator (refronted rs (segments separator t))
image_of_name separator part rs t named = rw named refl

-- the image of a text is its own image
pub name_image_twice : (separator : ℕ) (part : Text → Bool) → Parts separator part → (rs : List Renaming) → list_all is_rename rs ≡ true → first_pair rename_then_rename rs rs ≡ None → (t : Text) → name_image part separator rs (name_image part separator rs t) ≡ name_image part separator rs t
name_image_twice separator part parts rs renames settled t =
    elim (is_name part separator t) as (λ (b : Bool). is_name part separator t ≡ b → let u = cond b (written separator (refronted rs (segments separator t))) t in name_image part separator rs u ≡ u) [
      | true ↦ λ named.
          let s = segments_image separator part parts rs renames t named in
          image_of_name separator part rs _ (name_image_named separator part parts rs renames t named)
          ∙ ap (λ (ps : Package). written separator (refronted rs ps)) s.1
          ∙ ap (written separator) (refronted_twice rs settled (segments separator t))
      | false ↦ λ other. rw other refl
    ] refl
