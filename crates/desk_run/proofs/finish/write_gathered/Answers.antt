use Rattle.std.proofs.Common.{ap, sym, subst}
use Rattle.desk_graph.specs.Graphs.{Graph}
use Rattle.desk_run.proofs.Finishing.{gathered_notes, gathered_images, gathered_stopped, gathered_written, is_planned}
use Rattle.desk_run.proofs.Measures.{all_routed}
use Rattle.desk_run.proofs.Preparing.{plan_early}
use Rattle.desk_run.proofs.Promised.{early_told}
use Rattle.desk_run.specs.Endings.{HaltsEarly, StandsAfter, Tells}
use Rattle.desk_run.specs.Asked.{asked_roots}
use Rattle.desk_run.proofs.finish.write_gathered.Goals as goal

pub write_and_commit-requires-clause-routes : goal.write_and_commit-requires-clause-routes
write_and_commit-requires-clause-routes g c κs within =
    rw (c.deref-2.ensures.value, c.of-job.ensures.graph, ap (λ (x : Graph). x.rules) (rw c.deref.ensures at c.in-Ok.ensures.graph))
    (all_routed c.args.gathered.ruled.value.rules c.args.gathered.notes.files.items c.in-Ok.prepared.planned.items c.in-Ok.ensures.measured c.requires.gathered.read)

pub write_and_commit-requires-clause-notes : goal.write_and_commit-requires-clause-notes
write_and_commit-requires-clause-notes g c κs within =
    rw (c.deref-2.ensures.value, c.in-Ok.ensures.told) (gathered_notes c.args.names.now c.args.gathered c.in-Ok.prepared.planned.items (g.F.Folders.told c.args.folders.now) c.requires.gathered c.in-Ok.ensures.measured)

pub write_and_commit-requires-clause-images : goal.write_and_commit-requires-clause-images
write_and_commit-requires-clause-images g c κs within =
    let p = c.in-Ok.ensures in
    rw (c.deref-2.ensures.value, c.of-job.ensures.graph, ap (λ (x : Graph). x.rules) (rw c.deref.ensures at p.graph), p.told)
    (gathered_images c.args.names.now c.args.gathered c.in-Ok.prepared.graph c.in-Ok.prepared.planned.items (g.F.Folders.told c.args.folders.now) c.requires.gathered (rw c.deref.ensures at p.graph) p.measured p.images)

pub returns-in-Err-clause-stopped : goal.returns-in-Err-clause-stopped
returns-in-Err-clause-stopped g c = λ m l ef ek.
    let halts : HaltsEarly (asked_roots c.args.names.now) (g.F.Folders.told c.args.folders.now) (g.K.Keeper.told c.args.keeper.now) (g.K.Keeper.told c.plan.new.keeper) _ _ _ _ c.in-Err.halt
    = plan_early c.args.names.now c.args.gathered _ _ _ _ _ _ _ c.in-Err.halt c.requires.roots c.requires.gathered (rw c.deref.ensures at c.in-Err.ensures.err) in
    let t = early_told (asked_roots c.args.names.now) (g.F.Folders.told c.args.folders.now) (g.F.Folders.told c.plan.new.folders) _ _ m l _ _ _ _ c.in-Err.halt ef ek c.in-Err.ensures.told halts in
    subst (λ s. Tells (g.F.Folders.told c.plan.new.folders) (g.K.Keeper.told c.plan.new.keeper) (λ m' l'. StandsAfter (asked_roots c.args.names.now) m l m' l' s)) (sym c.status_of_halt.ensures) t

pub returns-in-Ok-write_and_commit-clause-written : goal.returns-in-Ok-write_and_commit-clause-written
returns-in-Ok-write_and_commit-clause-written g c =
    let p = c.in-Ok.ensures in
    let w = c.in-Ok-write_and_commit.ensures in
    let rules = ap (λ (x : Graph). x.rules) (rw c.deref.ensures at p.graph) in
    let plan = is_planned c.args.names.now c.args.gathered c.in-Ok.prepared.graph c.in-Ok.prepared.planned.items _ _ _ c.requires.roots c.requires.gathered (rw c.deref.ensures at p.graph) (rw c.deref.ensures at p.clear) p.planned (rw c.deref.ensures at p.ours) (rw c.deref.ensures at p.other) (rw c.deref.ensures at p.ledger) in
    gathered_written c.args.names.now c.args.gathered c.in-Ok.prepared.graph.defined c.in-Ok.prepared.planned.items c.in-Ok-write_and_commit.outcomes.items _ _ _ _ _ plan
    (rw (c.deref-2.ensures.value, c.of-job.ensures.graph, rules, p.told) at w.folders) (rw (c.deref-2.ensures.value, c.of-job.ensures.graph, rules, p.told) at w.ledger) (rw (c.deref-2.ensures.value, c.of-job.ensures.graph, rules, p.told) at w.outcomes)

pub returns-clause-stopped : goal.returns-clause-stopped
returns-clause-stopped g c = λ m l ef ek.
    let p = c.in-Ok.ensures in
    let w = c.in-Err-write_and_commit.ensures in
    let rules = ap (λ (x : Graph). x.rules) (rw c.deref.ensures at p.graph) in
    let stopped = c.in-Err-write_and_commit.stopped in
    let plan = is_planned c.args.names.now c.args.gathered c.in-Ok.prepared.graph c.in-Ok.prepared.planned.items _ _ _ c.requires.roots c.requires.gathered (rw c.deref.ensures at p.graph) (rw c.deref.ensures at p.clear) p.planned (rw c.deref.ensures at p.ours) (rw c.deref.ensures at p.other) (rw c.deref.ensures at p.ledger) in
    let t = gathered_stopped c.args.names.now c.args.gathered c.in-Ok.prepared.graph.defined c.in-Ok.prepared.planned.items stopped.why stopped.done _ _ _ _ _ plan (rw (c.deref-2.ensures.value, c.of-job.ensures.graph, rules, p.told) at w.err) m l ef ek in
    subst (λ s. Tells (g.F.Folders.told c.write_and_commit.new.folders) (g.K.Keeper.told c.write_and_commit.new.keeper) (λ m' l'. StandsAfter (asked_roots c.args.names.now) m l m' l' s)) (sym c.status_of_stop.ensures) t
