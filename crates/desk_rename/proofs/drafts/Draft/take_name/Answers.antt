use Rattle.std.proofs.Common.{◌≡◌, ◌≤◌, ◌+◌, ◌-◌, ℕ, ◌++◌, ◌∙◌, length, drop, take, sym, ap, refl, arith}
use Rattle.std.proofs.lemmas.List.{drop-take}
use Rattle.desk_base.specs.Names.{Text, Package, written, slash}
use Rattle.desk_names.specs.ClassNames.{class_name}
use Rattle.desk_names.specs.Pieces.{Piece}
use Rattle.desk_rename.specs.Drafts.{stands}
use Rattle.desk_rename.proofs.Pieces.{unchanged_piece, piece_front}
use Rattle.desk_rename.proofs.Taken.{fits_within, taken_same, taken_changed}
use Rattle.desk_rename.proofs.drafts.Draft.take_name.Goals as goal

pub overflow_add-self : goal.overflow_add-self
overflow_add-self c =
    let fits : c.args.self.now.at + length (class_name c.args.name.now.package.now c.args.name.now.simple.now) ≤ length c.args.text.now =
    fits_within c.args.text.now (class_name c.args.name.now.package.now c.args.name.now.simple.now) c.requires.more c.args.self.now.at c.requires.draft.within c.requires.ahead in
    omega arith

pub overflow_add-self-in-Some-2 : goal.overflow_add-self-in-Some-2
overflow_add-self-in-Some-2 c =
    let fits : c.args.self.now.at + length (class_name c.args.name.now.package.now c.args.name.now.simple.now) ≤ length c.args.text.now =
    fits_within c.args.text.now (class_name c.args.name.now.package.now c.args.name.now.simple.now) c.requires.more c.args.self.now.at c.requires.draft.within c.requires.ahead in
    omega arith

pub returns-in-None : goal.returns-in-None
returns-in-None c =
    taken_same c.args.rules.now.renames c.args.text.now c.args.self.now (Piece.class c.args.name.now.package.now c.args.name.now.simple.now) _ c.requires
    (unchanged_piece c.args.rules.now.renames c.args.name.now.package.now c.args.name.now.simple.now c.requires.cut c.in-None.ensures.answer)
    (ap (λ (n : ℕ). c.args.self.now.at + n) c.name_length-length.ensures) refl refl

pub returns-in_ok-append_segments-in-Some : goal.returns-in_ok-append_segments-in-Some
returns-in_ok-append_segments-in-Some c =
    let reach : c.args.self.now.copied + (c.args.self.now.at - c.args.self.now.copied) ≡ c.args.self.now.at = omega (arith, c.requires.draft.order) in
    let gap : take (c.args.self.now.at - c.args.self.now.copied) (drop c.args.self.now.copied c.args.text.now) ≡ drop c.args.self.now.copied (take c.args.self.now.at c.args.text.now) =
    sym (drop-take c.args.self.now.copied (c.args.self.now.at - c.args.self.now.copied) c.args.text.now)
    ∙ ap (λ (n : ℕ). drop c.args.self.now.copied (take n c.args.text.now)) reach in
    taken_changed c.args.rules.now.renames c.in-Some.ensures.settled.formed c.args.text.now c.args.self.now c.args.name.now.package.now c.args.name.now.simple.now _ c.in-Some.front.taken c.in-Some.front.segments.now c.requires
    (piece_front c.args.rules.now.renames c.in-Some.ensures.settled.formed c.args.name.now.package.now c.args.name.now.simple.now c.requires.cut c.in-Some.front.taken c.in-Some.front.segments.now c.in-Some.ensures.answer)
    (ap (λ (n : ℕ). c.args.self.now.at + n) c.name_length-length.ensures) refl
    (c.in_ok-append_segments-in-Some.ensures
    ∙ ap (λ (t : Text). t ++ written slash c.as_slice.result.now) (c.in_ok-append-in-Some.ensures.ok ∙ ap (λ (t : Text). c.args.self.now.image ++ t) gap)
    ∙ ap (λ (p : Package). stands c.args.text.now c.args.self.now ++ written slash p) c.as_slice.ensures)
