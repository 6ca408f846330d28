-- A draft goes on with the next part of its text.
use Rattle.std.proofs.Common.{◌≡◌, ◌≤◌, ◌<◌, ◌+◌, ◌-◌, ℕ, true, List, ◌++◌, length, take, drop, sym, ap, subst, ◌∙◌, inl, inr, arith, length-append, length-drop}
use Rattle.std.specs.List.{list_all}
use Rattle.std.proofs.lemmas.List.{append_assoc, take-append-drop, take_at, drop_at, drop-drop, length-take-le}
use Rattle.desk_base.specs.Names.{Text, Package, written, slash}
use Rattle.desk_base.specs.Descriptors.{as_is}
use Rattle.desk_names.specs.ClassNames.{class_name}
use Rattle.desk_names.specs.Pieces.{Piece, piece_text}
use Rattle.desk_packages.specs.Renames.{Renaming, is_rename}
use Rattle.desk_rename.specs.Images.{repackaged}
use Rattle.desk_rename.specs.Drafts.{IsNext, IsTaken, stands}
use Rattle.desk_rename.specs.declared.drafts.Draft.{Draft}
use Rattle.desk_rename.proofs.NameImages.{drop_within}
use Rattle.desk_rename.proofs.Pieces.{PieceFront}

-- a part that the text goes on with ends within it
pub fits_within : (text t more : Text) (at : ℕ) → at ≤ length text → drop at text ≡ t ++ more → at + length t ≤ length text
fits_within text t more at h e =
    let all : length text - at ≡ length t + length more = sym (length-drop at text) ∙ ap length e ∙ length-append t more in
    omega arith

taken_more : (text t more : Text) (at : ℕ) → at ≤ length text → drop at text ≡ t ++ more → take (at + length t) text ≡ take at text ++ t
taken_more text t more at h e =
    let whole : text ≡ (take at text ++ t) ++ more = sym (take-append-drop at text) ∙ ap (λ (w : Text). take at text ++ w) e ∙ sym (append_assoc (take at text) t more) in
    let size : length (take at text ++ t) ≡ at + length t = length-append (take at text) t ∙ ap (λ (n : ℕ). n + length t) (length-take-le at text h) in
    ap (take (at + length t)) whole ∙ take_at (take at text ++ t) more (at + length t) size

-- an unchanged part
pub taken_same : (rs : List Renaming) (text : Text) (old : Draft) (p : Piece) (new : Draft) → IsNext text old p → piece_text (repackaged rs) p ≡ piece_text as_is p → new.at ≡ old.at + length (piece_text as_is p) → new.copied ≡ old.copied → new.image ≡ old.image → IsTaken rs text old p new
taken_same rs text old p new next same at_is copied_is image_is =
    let t = piece_text as_is p in
    let d = next.draft in
    let fits : old.at + length t ≤ length text = fits_within text t next.more old.at d.within next.ahead in
    let order : old.copied ≤ old.at = d.order in
    let some : length (take old.at text) ≡ old.at = length-take-le old.at text d.within in
    record {
      draft = record { order = omega arith; within = omega arith; unchanged = λ e. image_is ∙ d.unchanged (sym copied_is ∙ e) };
      at_is = at_is;
      image = ap (λ (w : Text). w ++ drop new.copied (take new.at text)) image_is
          ∙ ap (λ (n : ℕ). old.image ++ drop n (take new.at text)) copied_is
          ∙ ap (λ (n : ℕ). old.image ++ drop old.copied (take n text)) at_is
          ∙ ap (λ (w : Text). old.image ++ drop old.copied w) (taken_more text t next.more old.at d.within next.ahead)
          ∙ ap (λ (w : Text). old.image ++ w) (drop_within old.copied (take old.at text) t (omega arith))
          ∙ sym (append_assoc old.image (drop old.copied (take old.at text)) t)
          ∙ ap (λ (w : Text). stands text old ++ w) (sym same);
      moved = λ h. inl (subst (λ (n : ℕ). 0 < n) copied_is h);
    }

-- a class name that changes
pub taken_changed : (rs : List Renaming) → list_all is_rename rs ≡ true → (text : Text) (old : Draft) (before last : Text) (new : Draft) (taken : ℕ) (target : Package) → IsNext text old (Piece.class before last) → PieceFront rs before last taken target → new.at ≡ old.at + length (class_name before last) → new.copied ≡ old.at + taken → new.image ≡ stands text old ++ written slash target
    → IsTaken rs text old (Piece.class before last) new
taken_changed rs formed text old before last new taken target next f at_is copied_is image_is =
    let t = class_name before last in
    let d = next.draft in
    let fits : old.at + length t ≤ length text = fits_within text t next.more old.at d.within next.ahead in
    let some : length (take old.at text) ≡ old.at = length-take-le old.at text d.within in
    let within : taken ≤ length t = f.within in
    let positive : 0 < taken = f.some in
    let w = written slash target in
    let rest : drop (old.at + taken) (take old.at text ++ t) ≡ drop taken t =
    sym (drop-drop taken old.at (take old.at text ++ t)) ∙ ap (drop taken) (drop_at (take old.at text) t old.at some) in
    record {
      draft = record { order = omega arith; within = omega arith; unchanged = λ e. absurd (omega arith) };
      at_is = at_is;
      image = ap (λ (v : Text). v ++ drop new.copied (take new.at text)) image_is
          ∙ ap (λ (n : ℕ). (stands text old ++ w) ++ drop n (take new.at text)) copied_is
          ∙ ap (λ (n : ℕ). (stands text old ++ w) ++ drop (old.at + taken) (take n text)) at_is
          ∙ ap (λ (v : Text). (stands text old ++ w) ++ drop (old.at + taken) v) (taken_more text t next.more old.at d.within next.ahead)
          ∙ ap (λ (v : Text). (stands text old ++ w) ++ v) rest
          ∙ append_assoc (stands text old) w (drop taken t)
          ∙ ap (λ (v : Text). stands text old ++ v) (sym f.image);
      moved = λ h. inr (record { formed = formed; differs = f.differs });
    }
