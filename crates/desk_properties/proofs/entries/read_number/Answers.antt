use Rattle.std.proofs.Common.{◌≡◌, ℕ, ◌+◌, ◌*◌, slice_index, subst, sym, ◌∙◌, arith}
use Rattle.desk_properties.specs.Entries.{hex_value}
use Rattle.desk_properties.proofs.Fronts.{IsDigitsRead, digits_end, digits_other, digits_more, number_end, hex_none, hex_some, hex_small, digit_fits}
use Rattle.desk_properties.proofs.entries.read_number.Goals as goal

pub returns-then-next-file : goal.returns-then-next-file
returns-then-next-file c = digits_end c.args.file.now c.args.from c.loop-read._read c.loop-read.number c.loop-read.next _ c.loop-read.invariant c.loop-read-test.true c.resume-next.ensures c.if-next-file.true

pub returns-in-None : goal.returns-in-None
returns-in-None c = digits_other c.args.file.now c.args.from c.loop-read._read c.loop-read.number c.loop-read.next _ c.loop-read.invariant c.loop-read-test.true c.resume-next.ensures c.if-next-file.false (hex_none (slice_index c.args.file.now c.resume-next.result) c.in-None.ensures)

pub overflow_mul-number : goal.overflow_mul-number
overflow_mul-number c = omega (arith, digit_fits c.loop-read._read c.loop-read.number 0 c.loop-read-test.true c.loop-read.invariant.small (omega arith))

pub overflow_add-number : goal.overflow_add-number
overflow_add-number c =
    let hex = hex_some (slice_index c.args.file.now c.resume-next.result) c.in-Some.value c.in-Some.ensures in
    let small = hex_small (slice_index c.args.file.now c.resume-next.result) hex.0 in
    omega (arith, c.from.ensures, digit_fits c.loop-read._read c.loop-read.number c.in-Some.value c.loop-read-test.true c.loop-read.invariant.small (omega (arith, small, hex.1)))

pub loop-read-preserved : goal.loop-read-preserved
loop-read-preserved c =
    let hex = hex_some (slice_index c.args.file.now c.resume-next.result) c.in-Some.value c.in-Some.ensures in
    let value : c.from.result ≡ hex_value (slice_index c.args.file.now c.resume-next.result) = c.from.ensures ∙ hex.1 in
    subst (λ (n : ℕ). IsDigitsRead c.args.file.now c.args.from (c.loop-read._read + 1) (16 * c.loop-read.number + n) (c.resume-next.result + 1)) (sym value)
    (digits_more c.args.file.now c.args.from c.loop-read._read c.loop-read.number c.loop-read.next c.resume-next.result c.loop-read.invariant c.loop-read-test.true c.resume-next.ensures c.if-next-file.false hex.0)

pub returns : goal.returns
returns c = number_end c.args.file.now c.args.from c.loop-read._read c.loop-read.number c.loop-read.next c.loop-read.invariant (omega (arith, c.loop-read-test.false, c.loop-read.auto._read-end))
