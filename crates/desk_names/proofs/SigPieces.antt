-- The parts of a signature are what its tree prints, and the scan takes what a tree prints.
use mathlib.Core.Bool.{and-false}
use Rattle.std.proofs.Common.{◌≡◌, ℕ, Bool, true, false, not, ◌&&◌, ◌==◌, List, [], ◌∷◌, ◌++◌, refl, sym, ap, ◌∙◌, append_assoc, append-nil}
use Rattle.std.specs.Prelude.{if◌then◌else◌}
use Rattle.std.proofs.lemmas.Bool.{and_parts, not-true, eqb-true}
use Rattle.desk_names.specs.declared.signatures.RefPlace.{RefPlace}
use Rattle.desk_names.specs.declared.signatures.RefPlace.TheVariants as ref_places
use Rattle.desk_names.specs.declared.signatures.Spot.TheVariants as spots
use Rattle.desk_names.specs.declared.signatures.RefState.{RefState}
use Rattle.desk_names.specs.declared.signatures.RefState.TheVariants as ref_states
use Rattle.desk_names.specs.declared.signatures.SigState.{SigState}
use Rattle.desk_names.specs.declared.signatures.SigState.TheVariants as sig_states
use Rattle.desk_base.specs.Names.{Text}
use Rattle.desk_base.specs.Descriptors.{as_is}
use Rattle.desk_base.specs.Signatures.{Signature, SignatureKind, IsSignature, kind_of, is_mark, is_signature, is_signature_identifier, is_signature_name, signature_text, signature_names, print_signature}
use Rattle.desk_base.proofs.Lists.{none_behind}
use Rattle.desk_names.specs.ClassNames.{package_of, simple_of, class_name}
use Rattle.desk_names.specs.Pieces.{Piece, class_piece, last_piece, joined, names_in}
use Rattle.desk_names.specs.SignatureScan.{ref_step, in_class, at_place, sig_step, sig_run, sig_start, may_end, is_sound_signature}
use Rattle.desk_names.specs.SignaturePieces.{is_naming, ends_name, named, sig_cut, sig_pieces}
use Rattle.desk_names.proofs.Bytes.{name_from, signature_name_is}
use Rattle.desk_names.proofs.LastPart.{rejoined}
use Rattle.desk_names.proofs.OneSignature.{stopped}
use Rattle.desk_names.proofs.Emitted.{puts, emit_signature, put_byte, put_name, puts_text, puts_names, text_signature, skip, keep, names_signature}
use Rattle.desk_names.proofs.Walked.{walked}

-- a byte of a name doesn't end it
pub record Goes (b : ℕ) (n : Text) : Type 0 where
  pub stays : ends_name b ≡ false
  pub inside : Bool
  pub more : name_from is_mark inside n ≡ true

goes_by : (i : Bool) (b : ℕ) (n : Text) (c : Bool) → (b == 47) ≡ c → (if c then i && name_from is_mark false n else not (is_mark b) && name_from is_mark true n) ≡ true → Goes b n
goes_by i b n true e h = record { stays = ap (λ (c : Bool). is_mark b && not c) e ∙ and-false (is_mark b); inside = false; more = (and_parts _ _ h).1 }
goes_by i b n false e h = record { stays = ap (λ (c : Bool). c && not (b == 47)) (not-true _ (and_parts _ _ h).0); inside = true; more = (and_parts _ _ h).1 }

goes_on : (i : Bool) (b : ℕ) (n : Text) → name_from is_mark i (b ∷ n) ≡ true → Goes b n
unfolding name_from
goes_on i b n h = goes_by i b n (b == 47) refl h

-- no class name stands directly behind a class name
class_naming : (place : RefPlace) (d e : ℕ) (w v y z x : Bool) → is_naming (at_place place (if w then (if v then ref_states.Over else ref_states.Args d true) else if y then ref_states.Class d (spots.Inner false) else if z then (if x then ref_states.Args e false else ref_states.Wrong) else ref_states.Wrong)) ≡ false
class_naming ref_places.Alone d e true true y z x = refl
class_naming (ref_places.Bound o) d e true true y z x = refl
class_naming ref_places.Super d e true true y z x = refl
class_naming ref_places.Parameter d e true true y z x = refl
class_naming ref_places.Outcome d e true true y z x = refl
class_naming ref_places.Thrown d e true true y z x = refl
class_naming place d e true false y z x = refl
class_naming place d e false v true z x = refl
class_naming place d e false v false true true = refl
class_naming place d e false v false true false = refl
class_naming place d e false v false false x = refl

never_naming : (place : RefPlace) (d b : ℕ) (t : Text) → is_mark b ≡ true → is_naming (sig_step (sig_states.In place (ref_states.Class d (spots.Inner true))) b t) ≡ false
unfolding sig_step ref_step
never_naming place d b t h = ap (λ (m : Bool). is_naming (at_place place (if not m then ref_states.Class d (spots.Inner true) else in_class d true b))) h ∙ class_naming place d _ (b == 59) _ (b == 46) (b == 60) _

-- behind a byte of no class name
pub cut_plain : (st : SigState) (seen : Text) (b : ℕ) (t : Text) → is_naming st ≡ false → sig_cut st seen (b ∷ t) ≡ (if is_naming (sig_step st b t) then Piece.other (seen ++ b ∷ []) ∷ sig_cut (sig_step st b t) [] t else sig_cut (sig_step st b t) (seen ++ b ∷ []) t)
unfolding sig_cut
cut_plain st seen b t h = ap (λ (w : Bool). if w then (if ends_name b then class_piece seen ∷ sig_cut (sig_step (named st) b t) (b ∷ []) t else sig_cut st (seen ++ b ∷ []) t) else if is_naming (sig_step st b t) then Piece.other (seen ++ b ∷ []) ∷ sig_cut (sig_step st b t) [] t else sig_cut (sig_step st b t) (seen ++ b ∷ []) t) h

-- the byte behind a class name
pub name_stop : (place : RefPlace) (d : ℕ) (i : Bool) (seen : Text) (x : ℕ) (t : Text) → ends_name x ≡ true → sig_cut (sig_states.In place (ref_states.Class d (spots.Package i))) seen (x ∷ t) ≡ class_piece seen ∷ sig_cut (sig_states.In place (ref_states.Class d (spots.Inner true))) [] (x ∷ t)
unfolding sig_cut
name_stop place d i seen x t h =
    ap (λ (c : Bool). if c then class_piece seen ∷ sig_cut (sig_step (sig_states.In place (ref_states.Class d (spots.Inner true))) x t) (x ∷ []) t else sig_cut (sig_states.In place (ref_states.Class d (spots.Package i))) (seen ++ x ∷ []) t) h
    ∙ ap (λ (ps : List Piece). class_piece seen ∷ ps) (sym (cut_plain (sig_states.In place (ref_states.Class d (spots.Inner true))) [] x t refl ∙ ap (λ (c : Bool). if c then Piece.other (x ∷ []) ∷ sig_cut (sig_step (sig_states.In place (ref_states.Class d (spots.Inner true))) x t) [] t else sig_cut (sig_step (sig_states.In place (ref_states.Class d (spots.Inner true))) x t) (x ∷ []) t) (never_naming place d x t (and_parts _ _ h).0)))

module _ (X : Type 0) (put : ℕ → X → X) (name : Text → X → X) (nil : X) (J : List Piece → X)
    (others : (s : Text) (ps : List Piece) → J (Piece.other s ∷ ps) ≡ puts X put name s (J ps))
    (classes : (n : Text) (ps : List Piece) → is_signature_name n ≡ true → J (class_piece n ∷ ps) ≡ name n (J ps))
    (none : J [] ≡ nil) where
  R : SigState → Text → X
  R st t = J (sig_cut st [] t)

  puts_on : (s t : Text) (x : X) → puts X put name (s ++ t) x ≡ puts X put name s (puts X put name t x)
  unfolding puts
  puts_on [] t x = refl
  puts_on (b ∷ s) t x = ap (put b) (puts_on s t x)

  puts_one : (b : ℕ) (x : X) → puts X put name (b ∷ []) x ≡ put b x
  unfolding puts
  puts_one b x = refl

  last_on : (seen : Text) → J (last_piece seen) ≡ puts X put name seen (J (last_piece []))
  unfolding puts
  last_on [] = refl
  last_on (a ∷ seen) = others (a ∷ seen) []

  seen_by : (st : SigState) (seen : Text) (b : ℕ) (t : Text) (c : Bool) → is_naming st ≡ c → (is_naming st ≡ false → J (sig_cut st (seen ++ b ∷ []) t) ≡ puts X put name (seen ++ b ∷ []) (J (sig_cut st [] t))) → (is_naming st ≡ false → J (sig_cut st (b ∷ []) t) ≡ puts X put name (b ∷ []) (J (sig_cut st [] t))) → J (if c then Piece.other (seen ++ b ∷ []) ∷ sig_cut st [] t else sig_cut st (seen ++ b ∷ []) t) ≡ puts X put name seen (J (if c then Piece.other (b ∷ []) ∷ sig_cut st [] t else sig_cut st (b ∷ []) t))
  seen_by st seen b t true e f g = others (seen ++ b ∷ []) _ ∙ puts_on seen (b ∷ []) _ ∙ ap (puts X put name seen) (sym (others (b ∷ []) _))
  seen_by st seen b t false e f g = f e ∙ puts_on seen (b ∷ []) _ ∙ ap (puts X put name seen) (sym (g e))

  -- what was seen stands in front
  seen_first : (st : SigState) (seen t : Text) → is_naming st ≡ false → J (sig_cut st seen t) ≡ puts X put name seen (J (sig_cut st [] t))
  unfolding sig_cut
  seen_first st seen [] h = last_on seen
  seen_first st seen (b ∷ t) h =
      ap J (cut_plain st seen b t h)
      ∙ seen_by (sig_step st b t) seen b t (is_naming (sig_step st b t)) refl (seen_first (sig_step st b t) (seen ++ b ∷ []) t) (seen_first (sig_step st b t) (b ∷ []) t)
      ∙ ap (λ (ps : List Piece). puts X put name seen (J ps)) (sym (cut_plain st [] b t h))

  plain_by : (st : SigState) (b : ℕ) (t : Text) (c : Bool) → is_naming st ≡ c → J (if c then Piece.other (b ∷ []) ∷ sig_cut st [] t else sig_cut st (b ∷ []) t) ≡ put b (J (sig_cut st [] t))
  plain_by st b t true e = others (b ∷ []) _ ∙ puts_one b _
  plain_by st b t false e = seen_first st (b ∷ []) t e ∙ puts_one b _

  plain_on : (st : SigState) (b : ℕ) (t : Text) → is_naming st ≡ false → R st (b ∷ t) ≡ put b (R (sig_step st b t) t)
  unfolding R
  plain_on st b t h = ap J (cut_plain st [] b t h) ∙ plain_by (sig_step st b t) b t (is_naming (sig_step st b t)) refl

  module _ (place : RefPlace) (d : ℕ) where
    -- within a class name, and behind it
    here : SigState
    here = sig_states.In place (ref_states.Class d (spots.Package false))

    there : SigState
    there = sig_states.In place (ref_states.Class d (spots.Inner true))

    name_on : (i : Bool) (seen n t : Text) → name_from is_mark i n ≡ true → stopped t ≡ true → sig_cut here seen (n ++ t) ≡ class_piece (seen ++ n) ∷ sig_cut there [] t
    unfolding sig_cut here there
    name_on i seen [] [] h k = absurd cc
    name_on i seen [] (x ∷ t) h k = name_stop place d false seen x t k ∙ ap (λ (n : Text). class_piece n ∷ sig_cut there [] (x ∷ t)) (sym (append-nil seen))
    name_on i seen (b ∷ n) t h k =
        let g = goes_on i b n h in
        ap (λ (c : Bool). if c then class_piece seen ∷ sig_cut (sig_step (sig_states.In place (ref_states.Class d (spots.Inner true))) b (n ++ t)) (b ∷ []) (n ++ t) else sig_cut (sig_states.In place (ref_states.Class d (spots.Package false))) (seen ++ b ∷ []) (n ++ t)) g.stays
        ∙ name_on g.inside (seen ++ b ∷ []) n t g.more k
        ∙ ap (λ (m : Text). class_piece m ∷ sig_cut there [] t) (append_assoc seen (b ∷ []) n)

    named_on : (n t : Text) → is_signature_name n ≡ true → stopped t ≡ true → R (sig_states.In place (ref_states.Class d (spots.Package false))) (n ++ t) ≡ name n (R (sig_states.In place (ref_states.Class d (spots.Inner true))) t)
    unfolding R here there
    named_on n t h k = ap J (name_on false [] n t (sym (signature_name_is n) ∙ h) k) ∙ classes n _ h

  ended_on : (st : SigState) → may_end st ≡ true → R st [] ≡ nil
  unfolding R sig_cut
  ended_on st h = none

  -- what is made of the parts is what is made of the tree
  pub parts_walked : (s : Signature) → is_signature 64 s ≡ true → J (sig_pieces (kind_of s) (print_signature s)) ≡ emit_signature X put name s nil
  unfolding R
  parts_walked s h = walked X put name nil R plain_on named_on ended_on s h

-- a name is its package and its simple name
again_is : (n : Text) → is_signature_name n ≡ true → class_name (package_of n) (simple_of n) ≡ n
again_is n h = rejoined is_signature_identifier refl n h

-- The parts with each class name exchanged

joined_other : (f : Text → Text) (s : Text) (ps : List Piece) → joined f (Piece.other s ∷ ps) ≡ puts Text put_byte (put_name f) s (joined f ps)
unfolding joined
joined_other f s ps = sym (puts_text f s (joined f ps))

joined_class : (f : Text → Text) (n : Text) (ps : List Piece) → is_signature_name n ≡ true → joined f (class_piece n ∷ ps) ≡ put_name f n (joined f ps)
unfolding joined
joined_class f n ps h = ap (λ (m : Text). f m ++ joined f ps) (again_is n h)

pub joined_none : (f : Text → Text) → joined f [] ≡ []
unfolding joined
joined_none f = refl

pub spelled_by : (f : Text → Text) (kind : SignatureKind) (text : Text) (s : Signature) → IsSignature kind text s → joined f (sig_pieces kind text) ≡ signature_text f s
spelled_by f kind text s r =
    ap (λ (k : SignatureKind). joined f (sig_pieces k text)) (sym r.kind)
    ∙ ap (λ (t : Text). joined f (sig_pieces (kind_of s) t)) (sym r.prints)
    ∙ parts_walked Text put_byte (put_name f) [] (joined f) (joined_other f) (joined_class f) (joined_none f) s r.formed
    ∙ text_signature f s

pub sig_joins : (kind : SignatureKind) (text : Text) (s : Signature) → IsSignature kind text s → joined as_is (sig_pieces kind text) ≡ text
sig_joins kind text s r = spelled_by as_is kind text s r ∙ r.prints

-- The class names among the parts

names_other : (s : Text) (ps : List Piece) → names_in (Piece.other s ∷ ps) ≡ puts (List Text) skip keep s (names_in ps)
unfolding names_in
names_other s ps = sym (puts_names s (names_in ps))

names_class_piece : (n : Text) (ps : List Piece) → is_signature_name n ≡ true → names_in (class_piece n ∷ ps) ≡ keep n (names_in ps)
unfolding names_in
names_class_piece n ps h = ap (λ (m : Text). m ∷ names_in ps) (again_is n h)

names_none : names_in [] ≡ []
unfolding names_in
names_none = refl

pub sig_names : (kind : SignatureKind) (text : Text) (s : Signature) → IsSignature kind text s → names_in (sig_pieces kind text) ≡ signature_names s
sig_names kind text s r =
    ap (λ (k : SignatureKind). names_in (sig_pieces k text)) (sym r.kind)
    ∙ ap (λ (t : Text). names_in (sig_pieces (kind_of s) t)) (sym r.prints)
    ∙ parts_walked (List Text) skip keep [] names_in names_other names_class_piece names_none s r.formed
    ∙ names_signature s

-- The scan takes what a tree prints: the text followed by a mark where the scan doesn't end well is the text.

mark : SigState → Text
mark st = if may_end st then [] else 0 ∷ []

marked : SigState → Text → Text
marked st t = t ++ mark (sig_run st t)

marked_plain : (st : SigState) (b : ℕ) (t : Text) → is_naming st ≡ false → marked st (b ∷ t) ≡ b ∷ marked (sig_step st b t) t
unfolding marked sig_run
marked_plain st b t h = refl

module _ (place : RefPlace) (d : ℕ) where
  run_byte : (i : Bool) (b : ℕ) (c : Bool) → (b == 47) ≡ c → (n t : Text) → (if c then i && name_from is_mark false n else not (is_mark b) && name_from is_mark true n) ≡ true → (j : Bool) × (name_from is_mark j n ≡ true) × (ref_step (ref_states.Class d (spots.Package i)) b ≡ ref_states.Class d (spots.Package j))
  unfolding ref_step
  run_byte i b true e n t h =
      let p = and_parts _ _ h in
      (false, p.1, ap (λ (x : ℕ). if not (is_mark x) then ref_states.Class d (spots.Package true) else if not i then ref_states.Wrong else if x == 47 then ref_states.Class d (spots.Package false) else in_class d true x) (eqb-true b 47 e) ∙ ap (λ (k : Bool). if not k then ref_states.Wrong else ref_states.Class d (spots.Package false)) p.0)
  run_byte i b false e n t h =
      let p = and_parts _ _ h in
      (true, p.1, ap (λ (k : Bool). if k then ref_states.Class d (spots.Package true) else if not i then ref_states.Wrong else if b == 47 then ref_states.Class d (spots.Package false) else in_class d true b) p.0)

  run_stop : (i : Bool) (t : Text) → name_from is_mark i [] ≡ true → stopped t ≡ true → sig_run (sig_states.In place (ref_states.Class d (spots.Package i))) t ≡ sig_run (sig_states.In place (ref_states.Class d (spots.Inner true))) t
  unfolding sig_run sig_step ref_step name_from
  run_stop i [] h k = absurd cc
  run_stop i (x ∷ t) h k =
      let p = and_parts _ _ k in
      ap (λ (m : Bool). sig_run (at_place place (if not m then ref_states.Class d (spots.Package true) else if not i then ref_states.Wrong else if x == 47 then ref_states.Class d (spots.Package false) else in_class d true x)) t) p.0
      ∙ ap (λ (j : Bool). sig_run (at_place place (if not j then ref_states.Wrong else if x == 47 then ref_states.Class d (spots.Package false) else in_class d true x)) t) h
      ∙ ap (λ (m : Bool). sig_run (at_place place (if m then ref_states.Class d (spots.Package false) else in_class d true x)) t) (not-true _ p.1)
      ∙ ap (λ (m : Bool). sig_run (at_place place (if not m then ref_states.Class d (spots.Inner true) else in_class d true x)) t) (sym p.0)

  run_name : (i : Bool) (n t : Text) → name_from is_mark i n ≡ true → stopped t ≡ true → sig_run (sig_states.In place (ref_states.Class d (spots.Package i))) (n ++ t) ≡ sig_run (sig_states.In place (ref_states.Class d (spots.Inner true))) t
  unfolding sig_run sig_step name_from
  run_name i [] t h k = run_stop i t h k
  run_name i (b ∷ n) t h k =
      let r = run_byte i b (b == 47) refl n t h in
      ap (λ (s : RefState). sig_run (at_place place s) (n ++ t)) r.2 ∙ run_name r.0 n t r.1 k

  marked_name : (n t : Text) → is_signature_name n ≡ true → stopped t ≡ true → marked (sig_states.In place (ref_states.Class d (spots.Package false))) (n ++ t) ≡ put_name as_is n (marked (sig_states.In place (ref_states.Class d (spots.Inner true))) t)
  unfolding marked
  marked_name n t h k = ap (λ (s : SigState). (n ++ t) ++ mark s) (run_name false n t (sym (signature_name_is n) ∙ h) k) ∙ append_assoc n t (mark (sig_run (sig_states.In place (ref_states.Class d (spots.Inner true))) t))

marked_end : (st : SigState) → may_end st ≡ true → marked st [] ≡ []
unfolding marked sig_run mark
marked_end st h = ap (λ (c : Bool). if c then [] else 0 ∷ []) h

unmarked : (c : Bool) (m : Text) → m ≡ (if c then [] else 0 ∷ []) → m ≡ [] → c ≡ true
unmarked true m h k = refl
unmarked false m h k = absurd cc

pub sig_taken : (kind : SignatureKind) (text : Text) (s : Signature) → IsSignature kind text s → is_sound_signature kind text ≡ true
unfolding is_sound_signature marked mark
sig_taken kind text s r =
    let e : marked (sig_start (kind_of s)) (print_signature s) ≡ print_signature s = walked Text put_byte (put_name as_is) [] marked marked_plain marked_name marked_end s r.formed ∙ text_signature as_is s in
    ap (λ (k : SignatureKind). may_end (sig_run (sig_start k) text)) (sym r.kind)
    ∙ ap (λ (t : Text). may_end (sig_run (sig_start (kind_of s)) t)) (sym r.prints)
    ∙ unmarked (may_end (sig_run (sig_start (kind_of s)) (print_signature s))) _ refl (none_behind (print_signature s) _ e)
