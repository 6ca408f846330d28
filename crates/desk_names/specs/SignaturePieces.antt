-- The parts of a signature's text.
use Rattle.std.specs.Prelude.{ℕ, suc, Bool, true, false, not, ◌&&◌, ◌==◌, List, [], ◌∷◌, ◌++◌, if◌then◌else◌}
use Rattle.desk_names.specs.declared.signatures.Spot.TheVariants as spots
use Rattle.desk_names.specs.declared.signatures.RefState.TheVariants as ref_states
use Rattle.desk_names.specs.declared.signatures.SigState.{SigState}
use Rattle.desk_names.specs.declared.signatures.SigState.TheVariants as sig_states
use Rattle.desk_base.specs.Names.{Text}
use Rattle.desk_base.specs.Signatures.{SignatureKind, is_mark}
use Rattle.desk_names.specs.SignatureScan.{sig_step, sig_start}
use Rattle.desk_names.specs.Pieces.{Piece, class_piece, last_piece}

-- whether a class name stands in front
abbrev pub is_naming : SigState → Bool
is_naming (sig_states.In place (ref_states.Class depth (spots.Package inside))) = true
is_naming _ = false

-- a byte that ends a class name
abbrev pub ends_name : ℕ → Bool
ends_name b = is_mark b && not (b == 47)

-- behind a class name
abbrev pub named : SigState → SigState
named (sig_states.In place (ref_states.Class depth spot)) = sig_states.In place (ref_states.Class depth (spots.Inner true))
named state = state

-- The parts of a text in front of which a state stands, the first of which begins with `seen`: a class name stands where the
-- state says so, up to the next byte that ends one.
unfoldable pub sig_cut : SigState → Text → Text → List Piece
sig_cut state seen [] = last_piece seen
sig_cut state seen (b ∷ t) =
    if is_naming state then
    (if ends_name b then class_piece seen ∷ sig_cut (sig_step (named state) b t) (b ∷ []) t else sig_cut state (seen ++ b ∷ []) t)
    else if is_naming (sig_step state b t) then Piece.other (seen ++ b ∷ []) ∷ sig_cut (sig_step state b t) [] t
    else sig_cut (sig_step state b t) (seen ++ b ∷ []) t

-- the parts of a signature of a kind
abbrev pub sig_pieces : SignatureKind → Text → List Piece
sig_pieces kind text = sig_cut (sig_start kind) [] text

-- the first place of a byte that ends a class name, or the text's length
unfoldable pub name_end : Text → ℕ
name_end [] = 0
name_end (b ∷ t) = if ends_name b then 0 else suc (name_end t)
