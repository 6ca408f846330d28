use Rattle.std.proofs.Common.{◌∙◌, [], ap, sym, arith}
use Rattle.std.proofs.lemmas.Result.{err_from_is_err_and}
use Rattle.std.specs.Map.{lookup}
use Rattle.std.specs.Str.{bytes_eq}
use Rattle.desk_rules.specs.TextFiles.{named_entry}
use Rattle.desk_rules.proofs.TextTurns.{named_start, named_more, named_fault, named_end, item_there}
use Rattle.desk_rules.proofs.texts.names_of.Goals as goal
use Rattle.desk_rules.proofs.texts.names_of.Goals.{in-Some+in_ok-name+in_ok-insert+in-None-1, in-Some+in_ok-name+in_ok-insert+in-Some-1, in_default}

pub loop-i-init : goal.loop-i-init
loop-i-init c = named_start c.args.files.now c.args.entries.now.entries c.new-names.result.entries c.new-names.ensures.empty

pub returns-in_err-name-clause-refused : goal.returns-in_err-name-clause-refused
returns-in_err-name-clause-refused c =
    let p = err_from_is_err_and c.from_residual.result c.from_residual.ensures.1 in
    rw (p.1, p.2)
    (named_fault c.args.files.now c.args.entries.now.entries c.loop-i.i c.loop-i.names.entries (c.in-Some.key.now, c.in-Some.value.now) c.in_err-name.field-0.0 c.loop-i.invariant (sym c.in-Some.ensures.entry)
    (rw (← c.as_bytes.ensures, ← c.as_bytes-in-Some.ensures) c.in_err-name.ensures.refused))

pub loop-i-preserved : goal.loop-i-preserved
loop-i-preserved c = elim c.match-get_index.branch [
  | in-Some+in_ok-name+in_ok-insert+in-None-1 w ↦
      named_more c.args.files.now c.args.entries.now.entries c.loop-i.i c.loop-i.names.entries c.match-get_index.names.entries (w.in-Some.key.now, w.in-Some.value.now) w.in_ok-name.name w.empty.result c.loop-i.invariant (sym w.in-Some.ensures.entry)
      (rw (← w.as_bytes.ensures, ← w.as_bytes-in-Some.ensures) w.in_ok-name.ensures.read) w.empty.ensures
      (λ q. ap (λ m. lookup (bytes_eq q) m.entries) w.names-is ∙ w.in_ok-insert.ensures.updates.0 q)
  | in-Some+in_ok-name+in_ok-insert+in-Some-1 w ↦
      named_more c.args.files.now c.args.entries.now.entries c.loop-i.i c.loop-i.names.entries c.match-get_index.names.entries (w.in-Some.key.now, w.in-Some.value.now) w.in_ok-name.name w.empty.result c.loop-i.invariant (sym w.in-Some.ensures.entry)
      (rw (← w.as_bytes.ensures, ← w.as_bytes-in-Some.ensures) w.in_ok-name.ensures.read) w.empty.ensures
      (λ q. ap (λ m. lookup (bytes_eq q) m.entries) w.names-is ∙ w.in_ok-insert.ensures.updates.0 q)
  | in_default w ↦ absurd (item_there (named_entry c.args.files.now) c.args.entries.now.entries ([], []) c.loop-i.i (sym w.in_default.ensures.entry) (omega (arith, c.len-i-end.ensures.len)))
]

pub returns-clause-read : goal.returns-clause-read
returns-clause-read c = named_end c.args.files.now c.args.entries.now.entries c.loop-i.i c.loop-i.names.entries c.loop-i.invariant (omega (arith, c.len-i-end.ensures.len))
