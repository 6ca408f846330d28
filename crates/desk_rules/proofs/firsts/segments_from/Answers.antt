use Rattle.std.proofs.Common.{◌∙◌, ap, sym, arith}
use Rattle.desk_rules.proofs.Beginnings.{keys_more, entry_there}
use Rattle.desk_rules.proofs.firsts.segments_from.Goals as goal
use Rattle.desk_rules.proofs.firsts.segments_from.Goals.{in-Some+in_ok-text+in_ok-push, in_default}

pub loop-i-preserved : goal.loop-i-preserved
loop-i-preserved c = elim c.match-get_index.branch [
  | in-Some+in_ok-text+in_ok-push w ↦
      keys_more c.args.firsts.now.entries c.loop-i.i (w.in-Some.first.now, w.in-Some.field-0-1.now) c.loop-i.segments.items c.match-get_index.segments.items w.in_ok-text.text c.loop-i.invariant (sym w.in-Some.ensures.entry)
      (ap (λ v. v.items) w.segments-is ∙ w.in_ok-push.ensures.items) (w.in_ok-text.ensures ∙ w.as_bytes.ensures)
  | in_default w ↦ absurd (entry_there c.args.firsts.now.entries c.loop-i.i (sym w.in_default.ensures.entry) (omega (arith, c.len-i-end.ensures.len)))
]
