use Rattle.std.proofs.Common.{sym, ◌∙◌, subst, List}
use Rattle.std.proofs.lemmas.Result.{err_from_is_err_and}
use Rattle.desk_properties.specs.Properties.{Entry}
use Rattle.desk_properties.proofs.Files.{IsReadSoFar, read_none, read_passed, read_more, read_end, read_fault, within_passed}
use Rattle.desk_properties.proofs.read_properties.Goals as goal

pub loop-at-init : goal.loop-at-init
loop-at-init c = subst (λ (done : List Entry). IsReadSoFar c.args.bytes.now done 0) (sym c.new-entries.ensures.empty) (read_none c.args.bytes.now)

pub loop-at-preserved-then-is_passed : goal.loop-at-preserved-then-is_passed
loop-at-preserved-then-is_passed c = read_passed c.args.bytes.now _ c.loop-at.at c.skip_white-start.result _ c.loop-at.invariant c.skip_white-start.ensures (sym c.is_passed.ensures ∙ c.if-is_passed.true) c.next_line-at.ensures

pub read_entry-requires-clause-inside : goal.read_entry-requires-clause-inside
read_entry-requires-clause-inside c = within_passed c.args.bytes.now c.skip_white-start.result c.skip_white-start.ensures.inside (sym c.is_passed.ensures ∙ c.if-is_passed.false)

pub returns-in_err-entry-clause-refused : goal.returns-in_err-entry-clause-refused
returns-in_err-entry-clause-refused c =
    let fault = read_fault c.args.bytes.now c.loop-at.entries.entries c.loop-at.at c.skip_white-start.result c.in_err-entry.field-0.0 c.in_ok-check_characters.ensures.well c.loop-at.invariant c.skip_white-start.ensures (sym c.is_passed.ensures ∙ c.if-is_passed.false) c.in_err-entry.ensures.refused in
    let p = err_from_is_err_and c.from_residual-in_err-entry.result c.from_residual-in_err-entry.ensures.1 in
    rw (p.1, p.2) fault

pub loop-at-preserved : goal.loop-at-preserved
loop-at-preserved c = read_more c.args.bytes.now c.loop-at.entries.entries _ c.loop-at.at c.skip_white-start.result c.in_ok-entry.entry.key c.in_ok-entry.entry.value _ c.loop-at.invariant c.skip_white-start.ensures (sym c.is_passed.ensures ∙ c.if-is_passed.false) c.in_ok-entry.ensures.read c.in_ok-insert.ensures.entries

pub returns-clause-read : goal.returns-clause-read
returns-clause-read c = read_end c.args.bytes.now c.loop-at.entries.entries c.loop-at.at c.in_ok-check_characters.ensures.well c.loop-at.invariant c.loop-at-test.false
