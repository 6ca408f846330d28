-- Images are their own images, and keep their form.
use Rattle.std.proofs.Common.{◌≡◌, ℕ, Bool, true, false, cond, not, ◌&&◌, ◌==◌, List, [], ◌∷◌, ◌++◌, refl, sym, ap, subst, ◌∙◌, inl, inr}
use Rattle.std.specs.Prelude.{if◌then◌else◌}
use Rattle.std.specs.List.{list_all}
use Rattle.std.proofs.lemmas.Bool.{and_parts, and_from, cases_Bool, or_left, or_right, false_from_ne_true, eqb-true}
use Rattle.desk_base.specs.Names.{Text, Package, segments, written, front, simple, is_part, is_name, is_class_name, is_empty, slash}
use Rattle.desk_base.specs.Descriptors.{Descriptor, DescriptorKind, IsDescriptor, is_descriptor, print, renamed}
use Rattle.desk_base.specs.Signatures.{Signature, SignatureKind, IsSignature, is_signature_identifier, print_signature, map_signature, most_nesting}
use Rattle.desk_base.specs.Referents.{begins_array}
use Rattle.desk_base.proofs.Separated.{front-push, simple-push, no_array}
use Rattle.desk_names.specs.Pieces.{Piece, pieces, joined, cut}
use Rattle.desk_names.specs.Laws.{HasNoDescriptor}
use Rattle.desk_names.specs.SignatureScan.{is_sound_signature}
use Rattle.desk_names.proofs.Scanned.{tree_of}
use Rattle.desk_names.proofs.Takes.{taken}
use Rattle.desk_names.proofs.Pieces.{prints_exchanged, kept_exchanged}
use Rattle.desk_names.proofs.SigPieces.{sig_taken}
use Rattle.desk_names.proofs.SigMapped.{sig_prints, sig_kept}
use Rattle.desk_names.proofs.SigSound.{signature_of}
use Rattle.desk_packages.specs.Renames.{Renaming, pkg}
use Rattle.desk_rules.specs.Images.{refronted}
use Rattle.desk_packages.proofs.Bytes.{identifier_part}
use Rattle.desk_packages.proofs.FilledImages.{pkg_filled}
use Rattle.desk_rules.proofs.Forms.{Parts, pkg_all, segments_image}
use Rattle.desk_rules.proofs.Laws.{class_parts}
use Rattle.desk_rename.specs.Images.{repackaged, class_image, is_any_descriptor, desc, cls, sig}
use Rattle.desk_rename.specs.Laws.{IsSettledRenames, PackageImages, IsClassImage, ClassImages, DescriptorImages, SignatureImages}
use Rattle.desk_rename.proofs.Exchanges.{package_cut}
use Rattle.desk_rename.proofs.Kept.{signature_parts, keeps_class_names, keeps_signature_names}
use Rattle.desk_rename.proofs.DescTrees.{renamed_twice, renamed_agree}
use Rattle.desk_rename.proofs.SigTrees.{signature_twice}
use Rattle.desk_rename.proofs.Differs.{some_kind}
use Rattle.desk_rename.proofs.Finished.{desc_is, desc_other, sig_is, sig_other, cls_array, cls_name}

-- ---- packages

pub package_laws : (rs : List Renaming) → IsSettledRenames rs → PackageImages rs
package_laws rs settled = record {
  again = λ t. ap (λ (p : Package). written slash (pkg rs p)) (package_cut rs settled.formed slash refl t) ∙ ap (written slash) (settled.packages (segments slash t));
  form = λ t named.
      let p = and_parts _ _ named in
      ap (λ (ps : Package). not (is_empty ps) && list_all is_part ps) (package_cut rs settled.formed slash refl t)
      ∙ and_from _ _ (pkg_filled rs settled.formed (segments slash t) p.0) (pkg_all is_part identifier_part rs settled.formed (segments slash t) p.1);
}

-- ---- names

-- the package of a name is exchanged once alone
once : (rs : List Renaming) → IsSettledRenames rs → (part : Text → Bool) → Parts slash part → (n : Text) → is_name part slash n ≡ true → repackaged rs (repackaged rs n) ≡ repackaged rs n
once rs settled part parts n named =
    let ps = segments slash n in
    let cut_again = (segments_image slash part parts rs settled.formed n named).1 in
    ap (λ (qs : Package). written slash (refronted rs qs)) cut_again
    ∙ ap (λ (q : Package). written slash (pkg rs q ++ simple (refronted rs ps) ∷ [])) (front-push (pkg rs (front ps)) (simple ps))
    ∙ ap (λ (q : Package). written slash (q ++ simple (refronted rs ps) ∷ [])) (settled.packages (front ps))
    ∙ ap (λ (t : Text). written slash (pkg rs (front ps) ++ t ∷ [])) (simple-push (pkg rs (front ps)) (simple ps))

-- the image of a class name, and of another text
pub class_named : (rs : List Renaming) (n : Text) → is_class_name n ≡ true → class_image rs n ≡ repackaged rs n
class_named rs n named = ap (λ (b : Bool). cond b (repackaged rs n) n) named

class_other : (rs : List Renaming) (n : Text) → is_class_name n ≡ false → class_image rs n ≡ n
class_other rs n other = ap (λ (b : Bool). cond b (repackaged rs n) n) other

class_once : (rs : List Renaming) → IsSettledRenames rs → (t : Text) → class_image rs (class_image rs t) ≡ class_image rs t
class_once rs settled t = elim (cases_Bool (is_class_name t)) [
  | inl named ↦
      let is : class_image rs t ≡ repackaged rs t = class_named rs t named in
      ap (class_image rs) is ∙ class_named rs (repackaged rs t) (keeps_class_names rs settled.formed t named) ∙ once rs settled is_part class_parts t named ∙ sym is
  | inr other ↦ ap (class_image rs) (class_other rs t other)
]

name_stays_name : (rs : List Renaming) → IsSettledRenames rs → (t : Text) → begins_array t ≡ false → begins_array (class_image rs t) ≡ false
name_stays_name rs settled t name = elim (cases_Bool (is_class_name t)) [
  | inl named ↦ ap begins_array (class_named rs t named) ∙ no_array (repackaged rs t) (keeps_class_names rs settled.formed t named)
  | inr other ↦ ap begins_array (class_other rs t other) ∙ name
]

class_is : (rs : List Renaming) → IsSettledRenames rs → (t : Text) → is_class_name t ≡ true → IsClassImage rs t (cls rs t)
class_is rs settled t named =
    let is : cls rs t ≡ repackaged rs t = cls_name rs t (no_array t named) ∙ class_named rs t named in
    let ps = segments slash t in
    let cut_again : segments slash (cls rs t) ≡ refronted rs ps = ap (segments slash) is ∙ (segments_image slash is_part class_parts rs settled.formed t named).1 in
    record {
      named = ap is_class_name is ∙ keeps_class_names rs settled.formed t named;
      package_is = ap front cut_again ∙ front-push (pkg rs (front ps)) (simple ps);
      last_is = ap simple cut_again ∙ simple-push (pkg rs (front ps)) (simple ps);
    }

-- ---- descriptors

any_of : (kind : DescriptorKind) (text : Text) → is_descriptor kind text ≡ true → is_any_descriptor text ≡ true
any_of DescriptorKind.field text h = or_left _ _ (or_left _ _ h)
any_of DescriptorKind.method text h = or_left _ _ (or_right _ _ h)
any_of DescriptorKind.return text h = or_right _ _ h

-- the image of a descriptor has the exchanged tree
pub desc_kept : (rs : List Renaming) → IsSettledRenames rs → (kind : DescriptorKind) (text : Text) (d : Descriptor) → IsDescriptor kind text d → IsDescriptor kind (desc rs text) (renamed (repackaged rs) d)
desc_kept rs settled kind text d r =
    let P : Text → Type 0 = λ t. IsDescriptor kind t (renamed (repackaged rs) d) in
    subst P (sym (desc_is rs text (any_of kind text (taken kind text d r)))) (kept_exchanged (repackaged rs) (keeps_class_names rs settled.formed) kind text d r)

desc_printed : (rs : List Renaming) → (kind : DescriptorKind) (text : Text) (d : Descriptor) → IsDescriptor kind text d → desc rs text ≡ print (renamed (repackaged rs) d)
desc_printed rs kind text d r = desc_is rs text (any_of kind text (taken kind text d r)) ∙ prints_exchanged (repackaged rs) kind text d r

desc_once : (rs : List Renaming) → IsSettledRenames rs → (text : Text) → desc rs (desc rs text) ≡ desc rs text
desc_once rs settled text = elim (cases_Bool (is_any_descriptor text)) [
  | inl any ↦ of_kind (some_kind text any).0 (some_kind text any).1
  | inr other ↦ ap (desc rs) (desc_other rs text other)
]
  where
    f : Text → Text
    f = repackaged rs

    of_kind : (kind : DescriptorKind) → is_descriptor kind text ≡ true → desc rs (desc rs text) ≡ desc rs text
    of_kind kind h =
        let t = tree_of kind text h in
        desc_printed rs kind (desc rs text) (renamed (repackaged rs) t.0) (desc_kept rs settled kind text t.0 t.1)
        ∙ ap print (renamed_twice (repackaged rs) (repackaged rs) (repackaged rs) (λ n named. once rs settled is_part class_parts n named) t.0 t.1.formed)
        ∙ sym (desc_printed rs kind text t.0 t.1)

no_kind : (text : Text) → ((kind : DescriptorKind) → HasNoDescriptor kind text) → is_any_descriptor text ≡ false
no_kind text none = false_from_ne_true (is_any_descriptor text) (λ any.
    let k = some_kind text any in
    let t = tree_of k.0 text k.1 in
    none k.0 t.0 t.1)

desc_form : (rs : List Renaming) → IsSettledRenames rs → (kind : DescriptorKind) (text : Text) → is_descriptor kind text ≡ true → is_descriptor kind (desc rs text) ≡ true
desc_form rs settled kind text h =
    let t = tree_of kind text h in
    taken kind (desc rs text) (renamed (repackaged rs) t.0) (desc_kept rs settled kind text t.0 t.1)

pub descriptor_laws : (rs : List Renaming) → IsSettledRenames rs → DescriptorImages rs
descriptor_laws rs settled = record {
  tree = λ kind text d r.
      desc_printed rs kind text d r
      ∙ ap print (renamed_agree (repackaged rs) (cls rs) (λ n named. sym (cls_name rs n (no_array n named) ∙ class_named rs n named)) d r.formed);
  other = λ text none. desc_other rs text (no_kind text none);
  again = desc_once rs settled;
  form = desc_form rs settled;
}

-- ---- arrays

-- what begins with `[` has an image that does
begun : (f : Text → Text) (seen u : Text) → begins_array (joined f (cut false (91 ∷ seen) u)) ≡ true
unfolding joined cut
begun f seen [] = refl
begun f seen (b ∷ u) = elim (b == 76) as (λ (c : Bool). begins_array (joined f (if c then Piece.other ((91 ∷ seen) ++ b ∷ []) ∷ cut true [] u else cut false ((91 ∷ seen) ++ b ∷ []) u)) ≡ true) [
  | true ↦ refl
  | false ↦ begun f (seen ++ b ∷ []) u
]

begun_pieces : (f : Text → Text) (u : Text) → begins_array (joined f (pieces (91 ∷ u))) ≡ true
unfolding cut
begun_pieces f u = begun f [] u

array_stays : (rs : List Renaming) (t : Text) → begins_array t ≡ true → begins_array (desc rs t) ≡ true
array_stays rs [] array = absurd cc
array_stays rs (b ∷ u) array =
    let P : ℕ → Type 0 = λ c. begins_array (desc rs (c ∷ u)) ≡ true in
    subst P (sym (eqb-true b 91 array)) (elim (cases_Bool (is_any_descriptor (91 ∷ u))) [
      | inl any ↦ ap begins_array (desc_is rs (91 ∷ u) any) ∙ begun_pieces (repackaged rs) u
      | inr other ↦ ap begins_array (desc_other rs (91 ∷ u) other)
    ])

pub class_laws : (rs : List Renaming) → IsSettledRenames rs → ClassImages rs
class_laws rs settled = record {
  again = λ t. elim (cases_Bool (begins_array t)) [
    | inl array ↦
        let is : cls rs t ≡ desc rs t = cls_array rs t array in
        ap (cls rs) is ∙ cls_array rs (desc rs t) (array_stays rs t array) ∙ desc_once rs settled t ∙ sym is
    | inr name ↦
        let is : cls rs t ≡ class_image rs t = cls_name rs t name in
        ap (cls rs) is ∙ cls_name rs (class_image rs t) (name_stays_name rs settled t name) ∙ class_once rs settled t ∙ sym is
  ];
  named = class_is rs settled;
  array = λ t array. ap begins_array (cls_array rs t array) ∙ array_stays rs t array;
  array_form = λ t array h. ap (is_descriptor DescriptorKind.field) (cls_array rs t array) ∙ desc_form rs settled DescriptorKind.field t h;
}

-- ---- signatures

sig_printed : (rs : List Renaming) → (kind : SignatureKind) (text : Text) (s : Signature) → IsSignature kind text s → sig rs kind text ≡ print_signature (map_signature (repackaged rs) s)
sig_printed rs kind text s r = sig_is rs kind text (sig_taken kind text s r) ∙ sig_prints (repackaged rs) kind text s r

-- the image of a signature has the exchanged tree
pub sig_stays : (rs : List Renaming) → IsSettledRenames rs → (kind : SignatureKind) (text : Text) (s : Signature) → IsSignature kind text s → IsSignature kind (sig rs kind text) (map_signature (repackaged rs) s)
sig_stays rs settled kind text s r =
    let P : Text → Type 0 = λ t. IsSignature kind t (map_signature (repackaged rs) s) in
    subst P (sym (sig_is rs kind text (sig_taken kind text s r))) (sig_kept (repackaged rs) (keeps_signature_names rs settled.formed) kind text s r)

sig_once : (rs : List Renaming) → IsSettledRenames rs → (kind : SignatureKind) (text : Text) → sig rs kind (sig rs kind text) ≡ sig rs kind text
sig_once rs settled kind text = elim (cases_Bool (is_sound_signature kind text)) [
  | inl sound ↦
      let t = signature_of kind text sound in
      sig_printed rs kind (sig rs kind text) (map_signature (repackaged rs) t.0) (sig_stays rs settled kind text t.0 t.1)
      ∙ ap print_signature (signature_twice (repackaged rs) (repackaged rs) (repackaged rs) (λ n named. once rs settled is_signature_identifier signature_parts n named) most_nesting t.0 t.1.formed)
      ∙ sym (sig_printed rs kind text t.0 t.1)
  | inr odd ↦ ap (sig rs kind) (sig_other rs kind text odd)
]

pub signature_laws : (rs : List Renaming) → IsSettledRenames rs → SignatureImages rs
signature_laws rs settled = record {
  tree = sig_printed rs;
  other = λ kind text none. sig_other rs kind text (false_from_ne_true (is_sound_signature kind text) (λ sound. let t = signature_of kind text sound in none t.0 t.1));
  again = sig_once rs settled;
  form = λ kind text sound.
      let t = signature_of kind text sound in
      sig_taken kind (sig rs kind text) (map_signature (repackaged rs) t.0) (sig_stays rs settled kind text t.0 t.1);
}
