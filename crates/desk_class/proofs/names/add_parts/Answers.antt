use Rattle.std.proofs.Common.{ap, sym, subst, ◌≡◌, ◌∙◌, [], ◌∷◌, List, ℕ, length, take, drop, arith}
use Rattle.desk_base.specs.Names.{Text}
use Rattle.desk_base.specs.Descriptors.{as_is}
use Rattle.desk_names.specs.declared.parts.Part.{Part}
use Rattle.desk_names.specs.Pieces.{Piece, piece_of, names_in, joined}
use Rattle.desk_class.specs.Held.{found_all}
use Rattle.desk_class.specs.Found.{spelled}
use Rattle.desk_class.proofs.Sets.{Adding, Front, adding_none, adding_class, class_front, other_front, adding_other, adding_done}
use Rattle.desk_class.proofs.names.add_parts.Goals as goal

pub loop-part-init : goal.loop-part-init
loop-part-init c = adding_none c.args.names.now c.into_iter-part-iterator.result c.args.text.now (ap (joined as_is) c.into_iter-part-iterator.ensures.into_iter_gives ∙ c.requires)

pub split_at-requires : goal.split_at-requires
split_at-requires c =
    (other_front c.args.names.now c.loop-part.names c.into_iter-part-iterator.result c.next.new.self c.loop-part.part-iterator c.in-Other.other.now c.loop-part.rest.now
    (c.in-Some.ensures.steps ∙ ap (λ (p : Part). piece_of p ∷ c.next.new.self) c.in-Other.is) c.loop-part.invariant).within

pub loop-part-preserved-in-Other : goal.loop-part-preserved-in-Other
loop-part-preserved-in-Other c =
    subst (Adding c.args.names.now c.into_iter-part-iterator.result c.loop-part.names c.next.new.self) (sym c.split_at.ensures.back)
    (adding_other c.args.names.now c.loop-part.names c.into_iter-part-iterator.result c.next.new.self c.loop-part.part-iterator c.in-Other.other.now c.loop-part.rest.now
    (c.in-Some.ensures.steps ∙ ap (λ (p : Part). piece_of p ∷ c.next.new.self) c.in-Other.is) c.loop-part.invariant)

pub split_at-requires-in-Class : goal.split_at-requires-in-Class
split_at-requires-in-Class c =
    let f : Front (spelled c.in-Class.name) c.loop-part.rest.now = class_front c.args.names.now c.loop-part.names c.into_iter-part-iterator.result c.next.new.self c.loop-part.part-iterator c.in-Class.name.package.now c.in-Class.name.simple.now c.loop-part.rest.now
    (c.in-Some.ensures.steps ∙ ap (λ (p : Part). piece_of p ∷ c.next.new.self) c.in-Class.is) c.loop-part.invariant in
    omega (arith, f.within, c.length_of.ensures)

pub loop-part-preserved : goal.loop-part-preserved
loop-part-preserved c =
    let before : List Text = c.args.names.now in
    let all : c.loop-part.part-iterator ≡ Piece.class c.in-Class.name.package.now c.in-Class.name.simple.now ∷ c.next.new.self = c.in-Some.ensures.steps ∙ ap (λ (p : Part). piece_of p ∷ c.next.new.self) c.in-Class.is in
    let f : Front (spelled c.in-Class.name) c.loop-part.rest.now = class_front before c.loop-part.names c.into_iter-part-iterator.result c.next.new.self c.loop-part.part-iterator c.in-Class.name.package.now c.in-Class.name.simple.now c.loop-part.rest.now all c.loop-part.invariant in
    let long : c.length_of.result ≡ length (spelled c.in-Class.name) = omega (arith, f.within, c.length_of.ensures) in
    let whole : c.split_at-in-Class.result.0.now ≡ spelled c.in-Class.name = c.split_at-in-Class.ensures.front ∙ ap (λ (n : ℕ). take n c.loop-part.rest.now) long ∙ f.is in
    subst (Adding before c.into_iter-part-iterator.result c.add.new.self c.next.new.self) (ap (λ (n : ℕ). drop n c.loop-part.rest.now) (sym long) ∙ sym c.split_at-in-Class.ensures.back)
    (adding_class before c.loop-part.names c.add.new.self c.into_iter-part-iterator.result c.next.new.self c.loop-part.part-iterator c.in-Class.name.package.now c.in-Class.name.simple.now c.loop-part.rest.now all
    (c.in_ok-add-in-Class.ensures.ok ∙ ap (λ (t : Text). found_all c.loop-part.names (t ∷ [])) whole) c.loop-part.invariant)

pub returns : goal.returns
returns c =
    adding_done c.args.names.now c.loop-part.names c.into_iter-part-iterator.result c.loop-part.part-iterator c.loop-part.rest.now c.in-None.ensures.steps.0 c.loop-part.invariant
    ∙ ap (λ (ps : List Piece). found_all c.args.names.now (names_in ps)) c.into_iter-part-iterator.ensures.into_iter_gives
