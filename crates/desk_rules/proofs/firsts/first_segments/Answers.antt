use Rattle.std.proofs.Common.{◌∙◌, ap, sym, arith}
use Rattle.std.specs.Map.{lookup}
use Rattle.std.specs.Str.{bytes_eq}
use Rattle.desk_rules.proofs.Beginnings.{firsts_more, firsts_same, first_is, none_there}
use Rattle.desk_rules.proofs.firsts.first_segments.Goals as goal
use Rattle.desk_rules.proofs.firsts.first_segments.Goals.{in_default, in-len1-up+in_ok-first+in_ok-insert+in-Some-1, in-len1-up+in_ok-first+in_ok-insert+in-None-1}

pub loop-rename-preserved : goal.loop-rename-preserved
loop-rename-preserved c = elim c.if-source-lt1.branch [
  | in_default w ↦
      firsts_same c.args.renames.now c.loop-rename.rename-index c.rename-item.result c.loop-rename.firsts.entries c.if-source-lt1.firsts.entries (omega arith) c.rename-item.is
      (sym c.source.ensures ∙ none_there c.source.result.now w.in_default.len_below) (ap (λ m. m.entries) w.firsts-is) c.loop-rename.invariant
  | in-len1-up+in_ok-first+in_ok-insert+in-Some-1 w ↦
      firsts_more c.args.renames.now c.loop-rename.rename-index c.rename-item.result w.in_ok-first.first w.empty.result c.loop-rename.firsts.entries c.if-source-lt1.firsts.entries (omega arith) c.rename-item.is
      (λ s. first_is c.rename-item.result.source c.source.result.now w.first-item.result w.in_ok-first.first (sym c.source.ensures) w.in-len1-up.len_at_least w.first-item.is (w.in_ok-first.ensures ∙ w.as_bytes.ensures) s)
      (λ q. ap (λ m. lookup (bytes_eq q) m.entries) w.firsts-is ∙ w.in_ok-insert.ensures.updates.0 q) c.loop-rename.invariant
  | in-len1-up+in_ok-first+in_ok-insert+in-None-1 w ↦
      firsts_more c.args.renames.now c.loop-rename.rename-index c.rename-item.result w.in_ok-first.first w.empty.result c.loop-rename.firsts.entries c.if-source-lt1.firsts.entries (omega arith) c.rename-item.is
      (λ s. first_is c.rename-item.result.source c.source.result.now w.first-item.result w.in_ok-first.first (sym c.source.ensures) w.in-len1-up.len_at_least w.first-item.is (w.in_ok-first.ensures ∙ w.as_bytes.ensures) s)
      (λ q. ap (λ m. lookup (bytes_eq q) m.entries) w.firsts-is ∙ w.in_ok-insert.ensures.updates.0 q) c.loop-rename.invariant
]
