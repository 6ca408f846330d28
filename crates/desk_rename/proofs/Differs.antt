-- Where a class name of a descriptor or a signature changes, the whole text does.
use Rattle.std.proofs.Common.{◌≡◌, ◌≢◌, true, List, [], ◌∷◌, map, sym, ap, subst, ◌∙◌, inl, inr}
use Rattle.std.proofs.lemmas.Bool.{or_cases}
use Rattle.desk_base.specs.Names.{Text}
use Rattle.desk_base.specs.Descriptors.{DescriptorKind, IsDescriptor, is_descriptor, renamed, names_of}
use Rattle.desk_base.specs.Signatures.{SignatureKind, IsSignature, map_signature, signature_names}
use Rattle.desk_names.specs.ClassNames.{class_name}
use Rattle.desk_names.specs.Pieces.{Piece, pieces, joined, names_in}
use Rattle.desk_names.specs.SignatureScan.{is_sound_signature}
use Rattle.desk_names.specs.SignaturePieces.{sig_pieces}
use Rattle.desk_names.proofs.Scanned.{tree_of}
use Rattle.desk_names.proofs.Unique.{one_tree}
use Rattle.desk_names.proofs.Pieces.{kept_exchanged}
use Rattle.desk_names.proofs.PieceNames.{names_are}
use Rattle.desk_names.proofs.SigPieces.{sig_names}
use Rattle.desk_names.proofs.SigMapped.{sig_kept}
use Rattle.desk_names.proofs.SigSound.{signature_of}
use Rattle.desk_names.proofs.OneSignature.{one_signature_tree}
use Rattle.desk_packages.specs.Renames.{Renaming}
use Rattle.desk_rename.specs.Images.{repackaged, is_any_descriptor}
use Rattle.desk_rename.specs.Drafts.{Fixed, SomeChange}
use Rattle.desk_rename.proofs.Kept.{keeps_class_names, keeps_signature_names}
use Rattle.desk_rename.proofs.DescTrees.{names_mapped}
use Rattle.desk_rename.proofs.SigTrees.{signature_mapped}

-- where the names among parts stay, each is its own image
pub fixed_from : (f : Text → Text) (ps : List Piece) → map f (names_in ps) ≡ names_in ps → Fixed f ps
unfolding Fixed names_in
fixed_from f [] e = tt
fixed_from f (Piece.other t ∷ ps) e = fixed_from f ps e
fixed_from f (Piece.class before last ∷ ps) e =
    let here : f (class_name before last) ≡ class_name before last = cc in
    let behind : map f (names_in ps) ≡ names_in ps = cc in
    (here, fixed_from f ps behind)

pub some_kind : (text : Text) → is_any_descriptor text ≡ true → (kind : DescriptorKind) × (is_descriptor kind text ≡ true)
some_kind text h = elim (or_cases _ _ h) [
  | inl h2 ↦ elim (or_cases _ _ h2) [
    | inl e ↦ (DescriptorKind.field, e)
    | inr e ↦ (DescriptorKind.method, e)
  ]
  | inr e ↦ (DescriptorKind.return, e)
]

pub descriptor_differs : (rs : List Renaming) (text : Text) → is_any_descriptor text ≡ true → SomeChange rs (pieces text) → joined (repackaged rs) (pieces text) ≢ text
descriptor_differs rs text any change = λ e.
    let f = repackaged rs in
    let k = some_kind text any in
    let t = tree_of k.0 text k.1 in
    let P : Text → Type 0 = λ u. IsDescriptor k.0 u (renamed f t.0) in
    let again : IsDescriptor k.0 text (renamed f t.0) = subst P e (kept_exchanged f (keeps_class_names rs change.formed) k.0 text t.0 t.1) in
    let same : renamed f t.0 ≡ t.0 = one_tree k.0 text (renamed f t.0) t.0 again t.1 in
    let names : names_in (pieces text) ≡ names_of t.0 = names_are k.0 text t.0 t.1 in
    change.differs (fixed_from f (pieces text) (ap (map f) names ∙ sym (names_mapped f t.0) ∙ ap names_of same ∙ sym names))

pub signature_differs : (rs : List Renaming) (kind : SignatureKind) (text : Text) → is_sound_signature kind text ≡ true → SomeChange rs (sig_pieces kind text) → joined (repackaged rs) (sig_pieces kind text) ≢ text
signature_differs rs kind text sound change = λ e.
    let f = repackaged rs in
    let t = signature_of kind text sound in
    let P : Text → Type 0 = λ u. IsSignature kind u (map_signature f t.0) in
    let again : IsSignature kind text (map_signature f t.0) = subst P e (sig_kept f (keeps_signature_names rs change.formed) kind text t.0 t.1) in
    let same : map_signature f t.0 ≡ t.0 = one_signature_tree kind text (map_signature f t.0) t.0 again t.1 in
    let names : names_in (sig_pieces kind text) ≡ signature_names t.0 = sig_names kind text t.0 t.1 in
    change.differs (fixed_from f (sig_pieces kind text) (ap (map f) names ∙ sym (signature_mapped f t.0) ∙ ap signature_names same ∙ sym names))
