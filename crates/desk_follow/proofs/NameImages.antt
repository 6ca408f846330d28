-- The class names of a text's image are the images of its class names.
use Rattle.std.proofs.Common.{◌≡◌, Bool, true, false, cond, ◌||◌, List, [], ◌∷◌, map, refl, sym, ap, ◌∙◌, inl, inr}
use Rattle.std.proofs.lemmas.Bool.{cases_Bool, or_cases, or_left, or_right, false_from_ne_true, both_ways}
use Rattle.desk_base.specs.Names.{Text, is_class_name}
use Rattle.desk_base.specs.Descriptors.{Descriptor, DescriptorKind, IsDescriptor, is_descriptor, renamed}
use Rattle.desk_base.specs.Signatures.{SignatureKind, IsSignature, signature_names, map_signature}
use Rattle.desk_base.specs.Referents.{begins_array}
use Rattle.desk_base.specs.declared.kinds.Role.{Role}
use Rattle.desk_base.specs.declared.kinds.Role.TheVariants as roles
use Rattle.desk_base.proofs.Separated.{no_array}
use Rattle.desk_names.specs.Pieces.{pieces, joined, names_in}
use Rattle.desk_names.specs.SignatureScan.{is_sound_signature}
use Rattle.desk_names.specs.SignaturePieces.{sig_pieces}
use Rattle.desk_names.proofs.Scanned.{tree_of}
use Rattle.desk_names.proofs.Pieces.{kept_exchanged}
use Rattle.desk_names.proofs.PieceNames.{names_are}
use Rattle.desk_names.proofs.SigPieces.{sig_names, sig_taken}
use Rattle.desk_names.proofs.SigSound.{signature_of}
use Rattle.desk_packages.specs.Renames.{Renaming}
use Rattle.desk_rename.specs.Images.{cls, desc, sig, repackaged, is_any_descriptor}
use Rattle.desk_rename.specs.Laws.{IsSettledRenames}
use Rattle.desk_rename.proofs.DescTrees.{names_mapped}
use Rattle.desk_rename.proofs.SigTrees.{signature_mapped}
use Rattle.desk_rename.proofs.ImageLaws.{class_laws, class_named, sig_stays}
use Rattle.desk_rename.proofs.Differs.{some_kind}
use Rattle.desk_rename.proofs.Finished.{desc_other, sig_other}
use Rattle.desk_class.specs.Held.{descriptor_names, signature_names as names_of_signature, names_of as names_as}
use Rattle.desk_rename.proofs.ImageLaws.{descriptor_laws}
use Rattle.desk_rename.proofs.Finished.{cls_array, cls_name}
use Rattle.desk_rules.specs.Rules.{Rules}
use Rattle.desk_rules.specs.RuleSets.{IsRuleSet}
use Rattle.desk_rules.proofs.Laws.{packages_stay}
use Rattle.desk_format.specs.Resolved.{image}
use Rattle.desk_follow.specs.RuleImages.{images_of}
use Rattle.desk_names.proofs.SignatureNames.{Named, names_formed}
use Rattle.desk_names.proofs.FieldDescriptors.{field_returned}

-- the image of a class name
pub cls_named : (rs : List Renaming) (n : Text) → is_class_name n ≡ true → cls rs n ≡ repackaged rs n
cls_named rs n named = cls_name rs n (no_array n named) ∙ class_named rs n named

module _ (rs : List Renaming) (settled : IsSettledRenames rs) where
  -- ---- descriptors

  desc_tree : (kind : DescriptorKind) (text : Text) (d : Descriptor) → IsDescriptor kind text d → IsDescriptor kind (desc rs text) (renamed (cls rs) d)
  desc_tree kind text d r =
      let k : IsDescriptor kind (joined (cls rs) (pieces text)) (renamed (cls rs) d) = kept_exchanged (cls rs) (λ n named. ((class_laws rs settled).named n named).named) kind text d r in
      record { kind = k.kind; formed = k.formed; prints = sym ((descriptor_laws rs settled).tree kind text d r) }

  pieces_follow : (kind : DescriptorKind) (text : Text) → is_descriptor kind text ≡ true → names_in (pieces (desc rs text)) ≡ map (cls rs) (names_in (pieces text))
  pieces_follow kind text h =
      let t = tree_of kind text h in
      names_are kind (desc rs text) (renamed (cls rs) t.0) (desc_tree kind text t.0 t.1)
      ∙ names_mapped (cls rs) t.0
      ∙ ap (map (cls rs)) (sym (names_are kind text t.0 t.1))

  abbrev named_descriptor : Text → Bool
  named_descriptor text = is_descriptor DescriptorKind.return text || is_descriptor DescriptorKind.method text

  of_kind : (kind : DescriptorKind) (text : Text) → is_descriptor kind text ≡ true → named_descriptor text ≡ true → named_descriptor (desc rs text) ≡ true → descriptor_names (desc rs text) ≡ map (cls rs) (descriptor_names text)
  of_kind kind text h old new =
      ap (λ (b : Bool). cond b (names_in (pieces (desc rs text))) []) new
      ∙ pieces_follow kind text h
      ∙ ap (λ (b : Bool). map (cls rs) (cond b (names_in (pieces text)) [])) (sym old)

  no_kind : (text : Text) → named_descriptor text ≡ false → is_any_descriptor text ≡ false
  no_kind text none = false_from_ne_true (is_any_descriptor text) (λ any.
      let k = some_kind text any in
      both_ways (named_descriptor text) none (by k.0 k.1))
    where
      by : (kind : DescriptorKind) → is_descriptor kind text ≡ true → named_descriptor text ≡ true
      by DescriptorKind.field h = or_left _ _ (field_returned text h)
      by DescriptorKind.method h = or_right _ _ h
      by DescriptorKind.return h = or_left _ _ h

  pub descriptors_follow : (text : Text) → descriptor_names (desc rs text) ≡ map (cls rs) (descriptor_names text)
  descriptors_follow text = elim (cases_Bool (named_descriptor text)) [
    | inl named ↦ elim (or_cases _ _ named) [
      | inl h ↦ of_kind DescriptorKind.return text h named (or_left _ _ ((descriptor_laws rs settled).form DescriptorKind.return text h))
      | inr h ↦ of_kind DescriptorKind.method text h named (or_right _ _ ((descriptor_laws rs settled).form DescriptorKind.method text h))
    ]
    | inr none ↦
        let empty : descriptor_names text ≡ [] = ap (λ (b : Bool). cond b (names_in (pieces text)) []) none in
        ap descriptor_names (desc_other rs text (no_kind text none)) ∙ empty ∙ ap (map (cls rs)) (sym empty)
  ]

  -- ---- class names and arrays

  pub classes_follow : (text : Text) → names_as roles.Class (cls rs text) ≡ map (cls rs) (names_as roles.Class text)
  unfolding names_as
  classes_follow text = elim (cases_Bool (is_class_name text)) [
    | inl named ↦
        ap (λ (b : Bool). cond b (cls rs text ∷ []) (cond (begins_array (cls rs text)) (descriptor_names (cls rs text)) [])) ((class_laws rs settled).named text named).named
        ∙ ap (λ (b : Bool). map (cls rs) (cond b (text ∷ []) (cond (begins_array text) (descriptor_names text) []))) (sym named)
    | inr other ↦ elim (cases_Bool (begins_array text)) [
      | inl array ↦
          let array' : begins_array (cls rs text) ≡ true = (class_laws rs settled).array text array in
          let other' : is_class_name (cls rs text) ≡ false = false_from_ne_true (is_class_name (cls rs text)) (λ e. both_ways (begins_array (cls rs text)) (no_array (cls rs text) e) array') in
          ap (λ (b : Bool). cond b (cls rs text ∷ []) (cond (begins_array (cls rs text)) (descriptor_names (cls rs text)) [])) other'
          ∙ ap (λ (b : Bool). cond b (descriptor_names (cls rs text)) []) array'
          ∙ ap descriptor_names (cls_array rs text array)
          ∙ descriptors_follow text
          ∙ ap (λ (b : Bool). map (cls rs) (cond b (descriptor_names text) [])) (sym array)
          ∙ ap (λ (b : Bool). map (cls rs) (cond b (text ∷ []) (cond (begins_array text) (descriptor_names text) []))) (sym other)
      | inr name ↦
          let same : cls rs text ≡ text = cls_name rs text name ∙ ap (λ (b : Bool). cond b (repackaged rs text) text) other in
          let empty : names_as roles.Class text ≡ [] = ap (λ (b : Bool). cond b (text ∷ []) (cond (begins_array text) (descriptor_names text) [])) other ∙ ap (λ (b : Bool). cond b (descriptor_names text) []) name in
          ap (names_as roles.Class) same ∙ empty ∙ ap (map (cls rs)) (sym empty)
    ]
  ]

  -- ---- signatures

  agree : (ns : List Text) → Named ns → map (repackaged rs) ns ≡ map (cls rs) ns
  agree [] h = refl
  agree (n ∷ ns) h = ap (λ (m : Text). m ∷ map (repackaged rs) ns) (sym (cls_named rs n h.0)) ∙ ap (λ (ms : List Text). cls rs n ∷ ms) (agree ns h.1)

  pub signatures_follow : (kind : SignatureKind) (text : Text) → names_of_signature kind (sig rs kind text) ≡ map (cls rs) (names_of_signature kind text)
  signatures_follow kind text = elim (cases_Bool (is_sound_signature kind text)) [
    | inl sound ↦
        let t = signature_of kind text sound in
        let tree : IsSignature kind (sig rs kind text) (map_signature (repackaged rs) t.0) = sig_stays rs settled kind text t.0 t.1 in
        ap (λ (b : Bool). cond b (names_in (sig_pieces kind (sig rs kind text))) []) (sig_taken kind (sig rs kind text) (map_signature (repackaged rs) t.0) tree)
        ∙ sig_names kind (sig rs kind text) (map_signature (repackaged rs) t.0) tree
        ∙ signature_mapped (repackaged rs) t.0
        ∙ agree (signature_names t.0) (names_formed t.0 t.1.formed)
        ∙ ap (map (cls rs)) (sym (sig_names kind text t.0 t.1))
        ∙ ap (λ (b : Bool). map (cls rs) (cond b (names_in (sig_pieces kind text)) [])) (sym sound)
    | inr odd ↦
        let empty : names_of_signature kind text ≡ [] = ap (λ (b : Bool). cond b (names_in (sig_pieces kind text)) []) odd in
        ap (names_of_signature kind) (sig_other rs kind text odd) ∙ empty ∙ ap (map (cls rs)) (sym empty)
  ]

-- ---- all roles

-- the class names of a text's image in a role are the images of its class names
pub names_follow : (rules : Rules) → IsRuleSet rules → (role : Role) (text : Text) → names_as role (image (images_of rules) role text) ≡ map (cls rules.renames) (names_as role text)
unfolding names_as
names_follow rules is role text = by role
  where
    settled : IsSettledRenames rules.renames
    settled = record { formed = is.formed; packages = packages_stay rules is }

    by : (role : Role) → names_as role (image (images_of rules) role text) ≡ map (cls rules.renames) (names_as role text)
    by roles.Class = classes_follow rules.renames settled text
    by roles.Package = refl
    by roles.Module = refl
    by roles.Descriptor = descriptors_follow rules.renames settled text
    by roles.ClassSig = signatures_follow rules.renames settled SignatureKind.class text
    by roles.MethodSig = signatures_follow rules.renames settled SignatureKind.method text
    by roles.FieldSig = signatures_follow rules.renames settled SignatureKind.field text
    by roles.Str = refl
    by roles.Plain = refl
    by roles.AttrName = refl
