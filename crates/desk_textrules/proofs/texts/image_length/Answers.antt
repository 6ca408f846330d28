use Rattle.std.proofs.Common.{◌≡◌, ◌<◌, ◌+◌, ◌-◌, ℕ, Option, None, SomeIff, length, sym, subst, arith}
use Rattle.desk_textrules.proofs.Pieces.{source_found}
use Rattle.desk_textrules.proofs.Lengths.{measured_more, too_long, end_too_long, measured_whole}
use Rattle.desk_textrules.proofs.texts.image_length.Goals as goal

none_of : (result : Option ℕ) (P : Type 0) (value : ℕ) → result ≡ None → (P → ⊥) → SomeIff result P value
none_of result P value e isnt = subst (λ (o : Option ℕ). SomeIff o P value) (sym e) isnt

pub returns-in_err-checked_sub : goal.returns-in_err-checked_sub
returns-in_err-checked_sub c =
    let text = c.args.text.now in
    let place = c.in-Some.place in
    let less : c.loop-place.room < (place.at - c.loop-place.done) + length place.hit.target.now = omega (arith, c.in_err-checked_sub.ensures) in
    none_of _ _ _ c.from_residual.ensures
    (too_long c.args.rules.now text c.args.most c.loop-place.done c.loop-place.room place.at place.hit.taken place.hit.target.now c.loop-place.invariant.measured (source_found c.args.rules.now text c.loop-place.done place c.in-Some.ensures.place) less)

pub returns-in_err-room : goal.returns-in_err-room
returns-in_err-room c =
    let text = c.args.text.now in
    let place = c.in-Some.place in
    let less : c.loop-place.room < (place.at - c.loop-place.done) + length place.hit.target.now = omega (arith, c.in_err-room.ensures, c.in_ok-checked_sub.ensures) in
    none_of _ _ _ c.from_residual-in_err-room.ensures
    (too_long c.args.rules.now text c.args.most c.loop-place.done c.loop-place.room place.at place.hit.taken place.hit.target.now c.loop-place.invariant.measured (source_found c.args.rules.now text c.loop-place.done place c.in-Some.ensures.place) less)

pub loop-place-preserved : goal.loop-place-preserved
loop-place-preserved c =
    let place = c.in-Some.place in
    record {
      measured = measured_more c.args.rules.now c.args.text.now c.args.most c.loop-place.done c.loop-place.room place.at place.hit.taken c.in_ok-room.room place.hit.target.now c.loop-place.invariant.measured
          (source_found c.args.rules.now c.args.text.now c.loop-place.done place c.in-Some.ensures.place) (omega (arith, c.in_ok-checked_sub.ensures, c.in_ok-room.ensures));
      small = omega (arith, c.in_ok-checked_sub.ensures, c.in_ok-room.ensures, c.loop-place.invariant.small);
    }

pub returns-in_err-room-2 : goal.returns-in_err-room-2
returns-in_err-room-2 c =
    let less : c.loop-place.room < length c.args.text.now - c.loop-place.done = omega (arith, c.in_err-room-2.ensures) in
    none_of _ _ _ c.from_residual-in_err-room-2.ensures (end_too_long c.args.rules.now c.args.text.now c.args.most c.loop-place.done c.loop-place.room c.loop-place.invariant.measured c.in_default.ensures.place less)

pub returns : goal.returns
returns c =
    let whole = measured_whole c.args.rules.now c.args.text.now c.args.most c.loop-place.done c.loop-place.room c.loop-place.invariant.measured c.in_default.ensures.place in
    (omega (arith, whole, c.in_ok-room-2.ensures, c.loop-place.invariant.small), omega (arith, whole, c.in_ok-room-2.ensures, c.loop-place.invariant.small))
