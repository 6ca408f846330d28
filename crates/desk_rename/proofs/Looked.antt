-- A draft looks at the parts of a text, one after the other.
use Rattle.std.proofs.Common.{◌≡◌, ◌≤◌, ◌<◌, ◌-◌, ◌⊎◌, ℕ, List, [], ◌∷◌, ◌++◌, length, take, drop, refl, sym, ap, ◌∙◌, inl, inr, arith, length-drop}
use Rattle.std.proofs.lemmas.List.{append_assoc, append-nil, drop-drop, take_at, drop_at}
use Rattle.desk_base.specs.Names.{Text}
use Rattle.desk_base.specs.Descriptors.{as_is}
use Rattle.desk_names.specs.Pieces.{Piece, AreCut, piece_text, joined}
use Rattle.desk_names.proofs.SigPieces.{joined_none}
use Rattle.desk_packages.specs.Renames.{Renaming}
use Rattle.desk_rename.specs.Images.{repackaged}
use Rattle.desk_rename.specs.Drafts.{IsNew, IsNext, IsTaken, IsWhole, IsLooked, Changes, SomeChange, Fixed, IsCutPiece, stands}
use Rattle.desk_rename.specs.declared.drafts.Draft.{Draft}

-- before the first part
pub looked_none : (rs : List Renaming) (text : Text) (ps : List Piece) (d : Draft) → IsNew d → joined as_is ps ≡ text → AreCut ps → IsLooked rs text ps ps d
looked_none rs text ps d new joins cut =
    let at_zero : d.at ≡ 0 = new.at_start in
    let copied_zero : d.copied ≡ 0 = new.none_copied in
    record {
      draft = record { order = omega arith; within = omega arith; unchanged = λ e. new.none_written };
      ahead = ap (λ (n : ℕ). drop n text) at_zero ∙ sym joins;
      cut = cut;
      image = sym (ap (λ (w : Text). (w ++ drop d.copied (take d.at text)) ++ joined (repackaged rs) ps) new.none_written
          ∙ ap (λ (n : ℕ). drop n (take d.at text) ++ joined (repackaged rs) ps) copied_zero
          ∙ ap (λ (n : ℕ). take n text ++ joined (repackaged rs) ps) at_zero);
      onward = λ h. h;
      moved = λ h. absurd (omega arith);
    }

cut_first : (p : Piece) (rest : List Piece) → AreCut (p ∷ rest) → IsCutPiece p
unfolding AreCut
cut_first (Piece.other t) rest h = tt
cut_first (Piece.class before last) rest h = h.0

cut_rest : (p : Piece) (rest : List Piece) → AreCut (p ∷ rest) → AreCut rest
unfolding AreCut
cut_rest (Piece.other t) rest h = h
cut_rest (Piece.class before last) rest h = h.1

pub fixed_rest : (f : Text → Text) (p : Piece) (rest : List Piece) → Fixed f (p ∷ rest) → Fixed f rest
unfolding Fixed
fixed_rest f (Piece.other t) rest h = h
fixed_rest f (Piece.class before last) rest h = h.1

pub fixed_first : (f : Text → Text) (p : Piece) (rest : List Piece) → Fixed f (p ∷ rest) → piece_text f p ≡ piece_text as_is p
unfolding Fixed
fixed_first f (Piece.other t) rest h = refl
fixed_first f (Piece.class before last) rest h = h.0

pub joined_first : (f : Text → Text) (p : Piece) (rest : List Piece) → joined f (p ∷ rest) ≡ piece_text f p ++ joined f rest
unfolding joined
joined_first f p rest = refl

-- the next part
pub looked_next : (rs : List Renaming) (text : Text) (ps rest : List Piece) (p : Piece) (d : Draft) → IsLooked rs text ps (p ∷ rest) d → IsNext text d p
looked_next rs text ps rest p d looked = record { draft = looked.draft; more = joined as_is rest; ahead = looked.ahead ∙ joined_first as_is p rest; cut = cut_first p rest looked.cut }

pub looked_more : (rs : List Renaming) (text : Text) (ps rest : List Piece) (p : Piece) (old new : Draft) → IsLooked rs text ps (p ∷ rest) old → IsTaken rs text old p new → IsLooked rs text ps rest new
looked_more rs text ps rest p old new looked taken =
    let t = piece_text as_is p in
    let f = repackaged rs in
    record {
      draft = taken.draft;
      ahead = ap (λ (n : ℕ). drop n text) taken.at_is
          ∙ sym (drop-drop (length t) old.at text)
          ∙ ap (drop (length t)) (looked.ahead ∙ joined_first as_is p rest)
          ∙ drop_at t (joined as_is rest) (length t) refl;
      cut = cut_rest p rest looked.cut;
      image = looked.image
          ∙ ap (λ (w : Text). stands text old ++ w) (joined_first f p rest)
          ∙ sym (append_assoc (stands text old) (piece_text f p) (joined f rest))
          ∙ ap (λ (w : Text). w ++ joined f rest) (sym taken.image);
      onward = λ h. fixed_rest f p rest (looked.onward h);
      moved = λ h. change (taken.moved h);
    }
  where
    change : (0 < old.copied) ⊎ Changes rs p → SomeChange rs ps
    change (inl before) = looked.moved before
    change (inr here) = record { formed = here.formed; differs = λ h. here.differs (fixed_first (repackaged rs) p rest (looked.onward h)) }

-- behind the last part
pub looked_whole : (rs : List Renaming) (text : Text) (ps : List Piece) (d : Draft) → IsLooked rs text ps [] d → IsWhole text d
looked_whole rs text ps d looked =
    let none : length text - d.at ≡ 0 = sym (length-drop d.at text) ∙ ap length (looked.ahead ∙ joined_none as_is) in
    let within : d.at ≤ length text = looked.draft.within in
    record { draft = looked.draft; at_end = omega arith }

pub looked_all : (rs : List Renaming) (text : Text) (ps : List Piece) (d : Draft) → IsLooked rs text ps [] d → joined (repackaged rs) ps ≡ stands text d
looked_all rs text ps d looked =
    looked.image ∙ ap (λ (w : Text). stands text d ++ w) (joined_none (repackaged rs)) ∙ append-nil (stands text d)

-- without a change the draft stands for the text
pub looked_same : (rs : List Renaming) (text : Text) (ps : List Piece) (d : Draft) → IsLooked rs text ps [] d → d.copied ≡ 0 → joined (repackaged rs) ps ≡ text
looked_same rs text ps d looked none =
    let whole = looked_whole rs text ps d looked in
    looked_all rs text ps d looked
    ∙ ap (λ (w : Text). w ++ drop d.copied (take d.at text)) (looked.draft.unchanged none)
    ∙ ap (λ (n : ℕ). drop n (take d.at text)) none
    ∙ ap (λ (n : ℕ). take n text) whole.at_end
    ∙ ap (λ (w : Text). take (length text) w) (sym (append-nil text))
    ∙ take_at text [] (length text) refl
