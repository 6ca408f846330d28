use Rattle.std.proofs.Common.{arith, ◌∙◌}
use Rattle.desk_base.specs.declared.kinds.Role.TheVariants as roles
use Rattle.desk_base.specs.declared.kinds.Used.{Used}
use Rattle.desk_class.proofs.Sets.{looked_more, looked_again}
use Rattle.desk_class.proofs.names.held_names.Goals.{then-is_looked_at+in_ok-add_names, else-is_looked_at}
use Rattle.desk_class.proofs.names.held_names.Goals as goal

abbrev none : Used
none = record { at = 0; index = 0; role = roles.Class }

pub loop-used-preserved : goal.loop-used-preserved
loop-used-preserved c = elim c.if-is_looked_at.branch [
  | then-is_looked_at+in_ok-add_names w ↦
      let all = looked_more c.args.pool.now.entries c.args.uses.now c.loop-used.used-index none c.loop-used.noted c.is_looked_at.new.noted c.loop-used.names c.if-is_looked_at.names w.text_at.result.now (omega arith) c.is_looked_at.ensures.noted w.text_at.ensures
      (w.names-is ∙ w.in_ok-add_names.ensures) c.loop-used.invariant.held c.loop-used.invariant.noted in
      record { held = all.0; noted = all.1 }
  | else-is_looked_at w ↦
      let all = looked_again c.args.pool.now.entries c.args.uses.now c.loop-used.used-index none c.loop-used.noted c.is_looked_at.new.noted c.loop-used.names (omega arith) c.is_looked_at.ensures.noted (c.is_looked_at.ensures.again w.if-is_looked_at.false)
      c.loop-used.invariant.held c.loop-used.invariant.noted in
      rw w.names-is (record { held = all.0; noted = all.1 })
]
