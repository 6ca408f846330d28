-- What a draft that looked at all parts answers.
use Rattle.std.proofs.Common.{◌≡◌, ◌≢◌, ◌<◌, Bool, true, false, cond, List, [], Option, Some, None, MatchOption, Result, Ok, Err, IfOk, sym, ap, subst, ◌∙◌}
use Rattle.desk_base.specs.Referents.{begins_array}
use Rattle.desk_base.specs.Names.{Text}
use Rattle.desk_base.specs.Signatures.{SignatureKind}
use Rattle.desk_base.specs.declared.Memory.{Memory}
use Rattle.desk_names.specs.Pieces.{Piece, pieces, joined}
use Rattle.desk_names.specs.SignatureScan.{is_sound_signature}
use Rattle.desk_names.specs.SignaturePieces.{sig_pieces}
use Rattle.desk_packages.specs.Renames.{Renaming}
use Rattle.desk_rules.specs.Images.{IsImage}
use Rattle.desk_rename.specs.Images.{repackaged, is_any_descriptor, desc, sig, cls, class_image}
use Rattle.desk_rename.specs.Drafts.{IsLooked, SomeChange, stands}
use Rattle.desk_rename.specs.declared.drafts.Draft.{Draft}
use Rattle.desk_rename.proofs.Looked.{looked_all, looked_same}
use Rattle.desk_rename.proofs.Differs.{descriptor_differs, signature_differs}

pub desc_is : (rs : List Renaming) (text : Text) → is_any_descriptor text ≡ true → desc rs text ≡ joined (repackaged rs) (pieces text)
unfolding desc
desc_is rs text read = ap (λ (b : Bool). cond b (joined (repackaged rs) (pieces text)) text) read

pub desc_other : (rs : List Renaming) (text : Text) → is_any_descriptor text ≡ false → desc rs text ≡ text
unfolding desc
desc_other rs text other = ap (λ (b : Bool). cond b (joined (repackaged rs) (pieces text)) text) other

pub sig_is : (rs : List Renaming) (kind : SignatureKind) (text : Text) → is_sound_signature kind text ≡ true → sig rs kind text ≡ joined (repackaged rs) (sig_pieces kind text)
unfolding sig
sig_is rs kind text read = ap (λ (b : Bool). cond b (joined (repackaged rs) (sig_pieces kind text)) text) read

pub sig_other : (rs : List Renaming) (kind : SignatureKind) (text : Text) → is_sound_signature kind text ≡ false → sig rs kind text ≡ text
unfolding sig
sig_other rs kind text other = ap (λ (b : Bool). cond b (joined (repackaged rs) (sig_pieces kind text)) text) other

finished : (rs : List Renaming) (text image : Text) (ps : List Piece) (d : Draft) → IsLooked rs text ps [] d → image ≡ joined (repackaged rs) ps → (SomeChange rs ps → joined (repackaged rs) ps ≢ text)
    → (r : Result (Option Text) Memory) → IfOk r (λ answer. MatchOption answer (d.copied ≡ 0) (λ found. (0 < d.copied) × (found ≡ stands text d))) → IfOk r (IsImage text image)
finished rs text image ps d looked is differs (Err e) h = tt
finished rs text image ps d looked is differs (Ok None) h = is ∙ looked_same rs text ps d looked h
finished rs text image ps d looked is differs (Ok (Some found)) h =
    (h.1 ∙ sym (looked_all rs text ps d looked) ∙ sym is, λ e. differs (looked.moved h.0) (sym is ∙ e))

pub finished_descriptor : (rs : List Renaming) (text : Text) (d : Draft) → is_any_descriptor text ≡ true → IsLooked rs text (pieces text) [] d
    → (r : Result (Option Text) Memory) → IfOk r (λ answer. MatchOption answer (d.copied ≡ 0) (λ found. (0 < d.copied) × (found ≡ stands text d))) → IfOk r (IsImage text (desc rs text))
finished_descriptor rs text d read looked = finished rs text (desc rs text) (pieces text) d looked (desc_is rs text read) (descriptor_differs rs text read)

pub finished_signature : (rs : List Renaming) (kind : SignatureKind) (text : Text) (d : Draft) → is_sound_signature kind text ≡ true → IsLooked rs text (sig_pieces kind text) [] d
    → (r : Result (Option Text) Memory) → IfOk r (λ answer. MatchOption answer (d.copied ≡ 0) (λ found. (0 < d.copied) × (found ≡ stands text d))) → IfOk r (IsImage text (sig rs kind text))
finished_signature rs kind text d read looked = finished rs text (sig rs kind text) (sig_pieces kind text) d looked (sig_is rs kind text read) (signature_differs rs kind text read)

-- ---- names of classes and arrays

pub cls_array : (rs : List Renaming) (text : Text) → begins_array text ≡ true → cls rs text ≡ desc rs text
unfolding cls
cls_array rs text array = ap (λ (b : Bool). cond b (desc rs text) (class_image rs text)) array

pub cls_name : (rs : List Renaming) (text : Text) → begins_array text ≡ false → cls rs text ≡ class_image rs text
unfolding cls
cls_name rs text name = ap (λ (b : Bool). cond b (desc rs text) (class_image rs text)) name

pub image_along : (text image other : Text) → other ≡ image → (r : Result (Option Text) Memory) → IfOk r (IsImage text image) → IfOk r (IsImage text other)
image_along text image other same r h = let P : Text → Type 0 = λ u. IfOk r (IsImage text u) in subst P (sym same) h
