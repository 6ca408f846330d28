use Rattle.std.proofs.Common.{◌∙◌, ap, sym, arith}
use Rattle.std.proofs.lemmas.Result.{err_from_is_err_and}
use Rattle.desk_rules.proofs.InTurn.{read_more, refused_at, entry_there}
use Rattle.desk_rules.proofs.reading.read_each.Goals as goal
use Rattle.desk_rules.proofs.reading.read_each.Goals.{in-Some+in_ok-rule+in_ok-push, in_default}

pub returns-in_err-rule-clause-refused : goal.returns-in_err-rule-clause-refused
returns-in_err-rule-clause-refused g c =
    let p = err_from_is_err_and c.from_residual.result c.from_residual.ensures.1 in
    rw (p.1, p.2)
    (refused_at c.args.file.now g.R.FromEntry.read_entry c.args.entries.now.entries g.R.Keyed.key_of c.loop-i.i c.loop-i.rules.items (c.in-Some.key.now, c.in-Some.value.now) c.in_err-rule.field-0.0 c.loop-i.invariant (sym c.in-Some.ensures.entry)
    c.as_bytes.result.now c.as_bytes-in-Some.result.now c.as_bytes.ensures c.as_bytes-in-Some.ensures c.in_err-rule.ensures.refused)

pub loop-i-preserved : goal.loop-i-preserved
loop-i-preserved g c = elim c.match-get_index.branch [
  | in-Some+in_ok-rule+in_ok-push w ↦
      read_more c.args.file.now g.R.FromEntry.read_entry c.args.entries.now.entries g.R.Keyed.key_of c.loop-i.i c.loop-i.rules.items c.match-get_index.rules.items (w.in-Some.key.now, w.in-Some.value.now) w.in_ok-rule.rule c.loop-i.invariant (sym w.in-Some.ensures.entry)
      (rw (← w.as_bytes.ensures, ← w.as_bytes-in-Some.ensures) w.in_ok-rule.ensures.read) (w.in_ok-rule.ensures.keyed ∙ w.as_bytes.ensures) (ap (λ v. v.items) w.rules-is ∙ w.in_ok-push.ensures.items)
  | in_default w ↦ absurd (entry_there c.args.file.now g.R.FromEntry.read_entry c.args.entries.now.entries c.loop-i.i (sym w.in_default.ensures.entry) (omega (arith, c.len-i-end.ensures.len)))
]
