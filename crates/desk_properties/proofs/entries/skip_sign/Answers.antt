use Rattle.std.proofs.Common.{sym, ◌∙◌}
use Rattle.desk_properties.proofs.Parts.{sign_read, sign_none_byte, sign_none_last}
use Rattle.desk_properties.proofs.entries.skip_sign.Goals as goal
use Rattle.desk_properties.proofs.entries.skip_sign.Goals.{else-at-file-via-then-at-file+else-is_sign, else-at-file-via-else-at-file}

pub returns-then-is_sign : goal.returns-then-is_sign
returns-then-is_sign c = sign_read c.args.file.now c.args.from _ _ c.skip_gap-at.ensures c.if-at-file.true (sym c.is_sign.ensures ∙ c.if-is_sign.true) c.skip_gap.ensures

pub returns-else-at-file : goal.returns-else-at-file
returns-else-at-file c = elim c.else-at-file.branch [
  | else-at-file-via-then-at-file+else-is_sign w ↦ sign_none_byte c.args.file.now c.args.from _ c.skip_gap-at.ensures w.if-at-file.true (sym w.is_sign.ensures ∙ w.if-is_sign.false)
  | else-at-file-via-else-at-file w ↦ sign_none_last c.args.file.now c.args.from _ c.skip_gap-at.ensures w.if-at-file.false
]
