-- The rest of a class name in a descriptor is passed byte by byte.
use Rattle.std.proofs.Common.{◌≡◌, ℕ, ◌+◌, ◌<◌, Bool, true, false, ◌==◌, get_or, ◌∷◌, length, drop, refl, sym, ap, ◌∙◌}
use Rattle.std.specs.Prelude.{if◌then◌else◌}
use Rattle.std.proofs.lemmas.Bool.{or_parts}
use Rattle.std.proofs.lemmas.List.{drop_more}
use Rattle.desk_base.specs.Names.{Text, is_reserved}
use Rattle.desk_base.specs.Descriptors.{Position, Awaited, behind, step, run}

plain_step : (place : Position) (inside : Bool) (b : ℕ) → is_reserved b ≡ false → step (Awaited.name_rest place inside) b ≡ Awaited.name_rest place true
unfolding step
plain_step place inside b h =
    let last = or_parts _ _ h in
    let third = or_parts _ _ last.0 in
    let second = or_parts _ _ third.0 in
    ap (λ (x : Bool). if x then (if inside then behind place false else Awaited.wrong) else if b == 47 then (if inside then Awaited.name_rest place false else Awaited.wrong) else if is_reserved b then Awaited.wrong else Awaited.name_rest place true) second.1
    ∙ ap (λ (x : Bool). if x then (if inside then Awaited.name_rest place false else Awaited.wrong) else if is_reserved b then Awaited.wrong else Awaited.name_rest place true) last.1
    ∙ ap (λ (x : Bool). if x then Awaited.wrong else Awaited.name_rest place true) h

slash_step : (place : Position) → step (Awaited.name_rest place true) 47 ≡ Awaited.name_rest place false
unfolding step
slash_step place = refl

run_front : (st : Awaited) (b : ℕ) (t : Text) → run st (b ∷ t) ≡ run (step st b) t
unfolding run
run_front st b t = refl

-- one byte further

run_on : (st : Awaited) (text : Text) (at : ℕ) → at < length text → run (step st (get_or text at 0)) (drop (at + 1) text) ≡ run st (drop at text)
run_on st text at h = sym (ap (run st) (drop_more text at 0 h) ∙ run_front st (get_or text at 0) (drop (at + 1) text))

-- past a byte of a part
pub plain_passed : (place : Position) (inside : Bool) (text : Text) (at : ℕ) → at < length text → is_reserved (get_or text at 0) ≡ false → run (Awaited.name_rest place true) (drop (at + 1) text) ≡ run (Awaited.name_rest place inside) (drop at text)
plain_passed place inside text at h e =
    ap (λ (st : Awaited). run st (drop (at + 1) text)) (sym (plain_step place inside (get_or text at 0) e)) ∙ run_on (Awaited.name_rest place inside) text at h

-- past a `/` behind a part
pub slash_passed : (place : Position) (text : Text) (at : ℕ) → at < length text → get_or text at 0 ≡ 47 → run (Awaited.name_rest place false) (drop (at + 1) text) ≡ run (Awaited.name_rest place true) (drop at text)
slash_passed place text at h e =
    ap (λ (st : Awaited). run st (drop (at + 1) text)) (sym (slash_step place) ∙ ap (step (Awaited.name_rest place true)) (sym e)) ∙ run_on (Awaited.name_rest place true) text at h
