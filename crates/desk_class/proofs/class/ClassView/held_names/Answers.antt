use Rattle.std.proofs.Common.{sym, subst, ◌∙◌}
use Rattle.desk_base.specs.Entries.{Pool}
use Rattle.desk_class.specs.Formed.{AreFormed}
use Rattle.desk_class.specs.Parts.{pool_in}
use Rattle.desk_class.proofs.class.ClassView.held_names.Goals as goal

pub held_names-requires : goal.held_names-requires
held_names-requires c =
    subst (λ (pool : Pool). AreFormed pool c.deref.result.now) (sym c.self.invariant.entries)
    (subst (AreFormed (pool_in c.self.inside.bytes.now)) (sym (c.deref.ensures.value ∙ c.self.invariant.texts)) c.self.invariant.formed)
