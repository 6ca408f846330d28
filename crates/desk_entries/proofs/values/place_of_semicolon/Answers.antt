use Rattle.std.proofs.Common.{sym, arith}
use Rattle.std.proofs.lemmas.Bool.{ne_eqb, eq-eqb}
use Rattle.std.proofs.lemmas.List.Sums.{position_or_len_is}
use Rattle.desk_entries.specs.Forms.{is_semicolon}
use Rattle.desk_entries.proofs.values.place_of_semicolon.Goals as goal

pub returns-then-byte-eq59 : goal.returns-then-byte-eq59
returns-then-byte-eq59 c =
    sym (position_or_len_is is_semicolon c.args.text.now c.loop-i.i 0 (omega arith) (λ k h. ne_eqb _ 59 (c.loop-i.invariant k h)) (λ h. eq-eqb _ 59 c.if-byte-eq59.true))

pub returns : goal.returns
returns c =
    sym (position_or_len_is is_semicolon c.args.text.now _ 0 (omega arith) (λ k h. ne_eqb _ 59 (c.loop-i.invariant k (omega arith))) (λ h. absurd (omega arith)))
