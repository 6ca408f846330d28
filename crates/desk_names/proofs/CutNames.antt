-- Each class name among parts is cut at its last `/`.
use Rattle.std.proofs.Common.{◌≡◌, ℕ, Bool, true, false, ◌==◌, List, [], ◌∷◌, ◌++◌, refl}
use Rattle.std.specs.Prelude.{if◌then◌else◌}
use Rattle.std.specs.List.{list_all, slice_split}
use Rattle.std.proofs.lemmas.Bool.{and_parts}
use Rattle.desk_base.specs.Names.{Text, is_whole, simple, slash}
use Rattle.desk_base.proofs.Separated.{split_whole}
use Rattle.desk_names.specs.declared.signatures.SigState.{SigState}
use Rattle.desk_names.specs.ClassNames.{package_of, simple_of}
use Rattle.desk_names.specs.Pieces.{Piece, IsCut, AreCut, class_piece, last_piece, cut}
use Rattle.desk_names.specs.SignatureScan.{sig_step}
use Rattle.desk_names.specs.SignaturePieces.{is_naming, ends_name, named, sig_cut}
use Rattle.desk_names.proofs.LastPart.{package_whole, simple_whole, package_behind, simple_behind}

abbrev parts : Text → List Text
parts t = slice_split (λ b. b == 47) t

-- the last of parts without a `/` holds none
pub last_part_whole : (ps : List Text) → list_all (is_whole slash) ps ≡ true → is_whole slash (simple ps) ≡ true
last_part_whole [] h = refl
last_part_whole (x ∷ []) h = (and_parts _ _ h).0
last_part_whole (x ∷ y ∷ ps) h = last_part_whole (y ∷ ps) (and_parts _ _ h).1

simple_is_whole : (n : Text) → is_whole slash (simple_of n) ≡ true
unfolding simple_of
simple_is_whole [] = refl
simple_is_whole (b ∷ n) = last_part_whole (parts (b ∷ n)) (split_whole slash (b ∷ n))

cut_at_last : (p s : Text) → is_whole slash s ≡ true → IsCut p s
cut_at_last [] s h = record { package_is = package_whole s h; simple_is = simple_whole s h }
cut_at_last (b ∷ p) s h = record { package_is = package_behind (b ∷ p) s h; simple_is = simple_behind (b ∷ p) s h }

name_cut : (n : Text) → IsCut (package_of n) (simple_of n)
name_cut n = cut_at_last (package_of n) (simple_of n) (simple_is_whole n)

last_cut : (seen : Text) → AreCut (last_piece seen)
unfolding AreCut
last_cut [] = tt
last_cut (a ∷ seen) = tt

pub cut_names : (inside : Bool) (seen t : Text) → AreCut (cut inside seen t)
unfolding cut AreCut
cut_names inside seen [] = last_cut seen
cut_names false seen (b ∷ t) = go (b == 76) (cut_names true [] t) (cut_names false (seen ++ b ∷ []) t)
  where
    go : (c : Bool) → AreCut (cut true [] t) → AreCut (cut false (seen ++ b ∷ []) t) → AreCut (if c then Piece.other (seen ++ b ∷ []) ∷ cut true [] t else cut false (seen ++ b ∷ []) t)
    go true h k = h
    go false h k = k
cut_names true seen (b ∷ t) = go (b == 59) (cut_names false (b ∷ []) t) (cut_names true (seen ++ b ∷ []) t)
  where
    go : (c : Bool) → AreCut (cut false (b ∷ []) t) → AreCut (cut true (seen ++ b ∷ []) t) → AreCut (if c then class_piece seen ∷ cut false (b ∷ []) t else cut true (seen ++ b ∷ []) t)
    go true h k = (name_cut seen, h)
    go false h k = k

sig_by : (st : SigState) (seen : Text) (b : ℕ) (t : Text) (w e c : Bool) → AreCut (sig_cut (sig_step (named st) b t) (b ∷ []) t) → AreCut (sig_cut st (seen ++ b ∷ []) t) → AreCut (sig_cut (sig_step st b t) [] t) → AreCut (sig_cut (sig_step st b t) (seen ++ b ∷ []) t) → AreCut (if w then (if e then class_piece seen ∷ sig_cut (sig_step (named st) b t) (b ∷ []) t else sig_cut st (seen ++ b ∷ []) t) else if c then Piece.other (seen ++ b ∷ []) ∷ sig_cut (sig_step st b t) [] t else sig_cut (sig_step st b t) (seen ++ b ∷ []) t)
unfolding AreCut
sig_by st seen b t true true c h k l m = (name_cut seen, h)
sig_by st seen b t true false c h k l m = k
sig_by st seen b t false e true h k l m = l
sig_by st seen b t false e false h k l m = m

pub sig_cut_names : (st : SigState) (seen t : Text) → AreCut (sig_cut st seen t)
unfolding sig_cut
sig_cut_names st seen [] = last_cut seen
sig_cut_names st seen (b ∷ t) = sig_by st seen b t (is_naming st) (ends_name b) (is_naming (sig_step st b t)) (sig_cut_names (sig_step (named st) b t) (b ∷ []) t) (sig_cut_names st (seen ++ b ∷ []) t) (sig_cut_names (sig_step st b t) [] t) (sig_cut_names (sig_step st b t) (seen ++ b ∷ []) t)
