-- The image of a text, as far as its parts were looked at.
use Rattle.std.specs.Prelude.{true, ◌≡◌, ◌≢◌, ◌⊎◌, ◌+◌, ◌<◌, ◌≤◌, ◌++◌, List, [], ◌∷◌, length, take, drop, IsTrue}
use Rattle.std.specs.List.{list_all}
use Rattle.desk_base.specs.Names.{Text}
use Rattle.desk_base.specs.Descriptors.{as_is}
use Rattle.desk_names.specs.ClassNames.{class_name}
use Rattle.desk_names.specs.Pieces.{Piece, IsCut, AreCut, class_piece, piece_text, joined, pieces}
use Rattle.desk_packages.specs.Renames.{Renaming, is_rename}
use Rattle.desk_names.specs.SignatureScan.{is_sound_signature}
use Rattle.desk_names.specs.SignaturePieces.{sig_pieces}
use Rattle.desk_base.specs.Signatures.{SignatureKind}
use Rattle.desk_rename.specs.Images.{repackaged, is_any_descriptor}
use Rattle.desk_rename.specs.declared.drafts.Draft.{Draft}

-- the image of the bytes that were looked at
abbrev pub stands : Text → Draft → Text
stands text d = d.image ++ drop d.copied (take d.at text)

-- nothing is written before the first change
pub record IsDraft (text : Text) (d : Draft) : Type 0 where
  pub order : d.copied ≤ d.at
  pub within : d.at ≤ length text
  pub unchanged : d.copied ≡ 0 → d.image ≡ []

pub record IsNew (d : Draft) : Type 0 where
  pub at_start : d.at ≡ 0
  pub none_copied : d.copied ≡ 0
  pub none_written : d.image ≡ []

-- a class name is cut at its last `/`
abbrev pub IsCutPiece : Piece → Type 0
IsCutPiece (Piece.other t) = Unit {0}
IsCutPiece (Piece.class before last) = IsCut before last

-- a text goes on with a part
pub record IsNext (text : Text) (d : Draft) (p : Piece) : Type 0 where
  pub draft : IsDraft text d
  pub more : Text
  pub ahead : drop d.at text ≡ piece_text as_is p ++ more
  pub cut : IsCutPiece p

-- a part that renames change
pub record Changes (renames : List Renaming) (p : Piece) : Type 0 where
  pub formed : IsTrue (list_all is_rename renames)
  pub differs : piece_text (repackaged renames) p ≢ piece_text as_is p

-- the part was looked at
pub record IsTaken (renames : List Renaming) (text : Text) (old : Draft) (p : Piece) (new : Draft) : Type 0 where
  pub draft : IsDraft text new
  pub at_is : new.at ≡ old.at + length (piece_text as_is p)
  pub image : stands text new ≡ stands text old ++ piece_text (repackaged renames) p
  pub moved : 0 < new.copied → (0 < old.copied) ⊎ Changes renames p

-- the whole text was looked at
pub record IsWhole (text : Text) (d : Draft) : Type 0 where
  pub draft : IsDraft text d
  pub at_end : d.at ≡ length text

-- each class name among parts is its own image under f
unfoldable pub Fixed : (Text → Text) → List Piece → Type 0
Fixed f [] = Unit {0}
Fixed f (Piece.other t ∷ ps) = Fixed f ps
Fixed f (Piece.class before last ∷ ps) = (f (class_name before last) ≡ class_name before last) × Fixed f ps

-- some class name among parts is not its own image
pub record SomeChange (renames : List Renaming) (ps : List Piece) : Type 0 where
  pub formed : IsTrue (list_all is_rename renames)
  pub differs : Fixed (repackaged renames) ps → ⊥

-- of the parts of a text, the draft has looked at all but the rest
pub record IsLooked (renames : List Renaming) (text : Text) (ps rest : List Piece) (d : Draft) : Type 0 where
  pub draft : IsDraft text d
  pub ahead : drop d.at text ≡ joined as_is rest
  pub cut : AreCut rest
  pub image : joined (repackaged renames) ps ≡ stands text d ++ joined (repackaged renames) rest
  pub onward : Fixed (repackaged renames) ps → Fixed (repackaged renames) rest
  pub moved : 0 < d.copied → SomeChange renames ps

-- the parts of a descriptor
pub record IsReadDescriptor (text : Text) (ps : List Piece) : Type 0 where
  pub read : is_any_descriptor text ≡ true
  pub parts : ps ≡ pieces text
  pub joins : joined as_is ps ≡ text
  pub cut : AreCut ps

-- the parts of a signature of a kind
pub record IsReadSignature (kind : SignatureKind) (text : Text) (ps : List Piece) : Type 0 where
  pub read : is_sound_signature kind text ≡ true
  pub parts : ps ≡ sig_pieces kind text
  pub joins : joined as_is ps ≡ text
  pub cut : AreCut ps

-- a text goes on with a class name behind what stands in front of it, and with a text behind it
pub record IsFirstName (text name behind : Text) : Type 0 where
  pub before : Text
  pub parts : pieces text ≡ Piece.other before ∷ class_piece name ∷ pieces behind
