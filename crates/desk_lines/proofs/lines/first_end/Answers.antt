use Rattle.desk_lines.proofs.FirstEnds.{flat_before, first_lf, first_crlf, first_cr, first_cr_last, first_open, lf_from, unequal}
use Rattle.desk_lines.proofs.lines.first_end.Goals as goal
use Rattle.desk_lines.proofs.lines.first_end.Goals.{else-at-text-via-then-at-text+else-text-at-eq10, else-at-text-via-else-at-text}

pub returns-in-None : goal.returns-in-None
returns-in-None c = first_open c.args.text.now c.requires (flat_before c.args.text.now _ c.in-None.ensures)

pub returns-then-text-at-ne13 : goal.returns-then-text-at-ne13
returns-then-text-at-ne13 c =
    let before = c.in-Some.ensures.0 in
    first_lf c.args.text.now c.in-Some.at before.high (flat_before c.args.text.now c.in-Some.at before.before) (lf_from _ c.in-Some.ensures.1 (unequal _ 13 c.if-text-at-ne13.true))

pub returns-then-text-at-eq10 : goal.returns-then-text-at-eq10
returns-then-text-at-eq10 c =
    let before = c.in-Some.ensures.0 in
    first_crlf c.args.text.now c.in-Some.at c.if-at-text.true (flat_before c.args.text.now c.in-Some.at before.before) c.if-text-at-ne13.false c.if-text-at-eq10.true

pub returns-else-at-text : goal.returns-else-at-text
returns-else-at-text c =
    let before = c.in-Some.ensures.0 in
    elim c.else-at-text.branch [
      | else-at-text-via-then-at-text+else-text-at-eq10 w ↦
          first_cr c.args.text.now c.in-Some.at w.if-at-text.true (flat_before c.args.text.now c.in-Some.at before.before) c.if-text-at-ne13.false (unequal _ 10 w.if-text-at-eq10.false)
      | else-at-text-via-else-at-text w ↦
          first_cr_last c.args.text.now c.in-Some.at before.high w.if-at-text.false (flat_before c.args.text.now c.in-Some.at before.before) c.if-text-at-ne13.false
    ]
