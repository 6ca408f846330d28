use Rattle.std.proofs.Common.{subst, sym}
use Rattle.desk_run.specs.Endings.{HaltsEarly, StandsAfter, Tells}
use Rattle.desk_run.specs.Asked.{asked_roots}
use Rattle.desk_run.proofs.Preparing.{gather_early}
use Rattle.desk_run.proofs.Promised.{early_told}
use Rattle.desk_run.proofs.finish.write_files.Goals as goal

pub returns-in-Err-clause-stopped : goal.returns-in-Err-clause-stopped
returns-in-Err-clause-stopped g c = λ m l ef ek.
    let halts : HaltsEarly (asked_roots c.args.names.now) (g.F.Folders.told c.args.folders.now) (g.K.Keeper.told c.args.keeper.now) (g.K.Keeper.told c.args.keeper.now) _ _ 0 0 c.in-Err.halt
    = gather_early (asked_roots c.args.names.now) _ _ _ _ 0 0 c.in-Err.halt c.in-Err.ensures.err in
    let t = early_told (asked_roots c.args.names.now) (g.F.Folders.told c.args.folders.now) (g.F.Folders.told c.gather.new.folders) _ _ m l _ _ _ _ c.in-Err.halt ef ek c.in-Err.ensures.told halts in
    subst (λ s. Tells (g.F.Folders.told c.gather.new.folders) (g.K.Keeper.told c.args.keeper.now) (λ m' l'. StandsAfter (asked_roots c.args.names.now) m l m' l' s)) (sym c.status_of_halt.ensures) t

pub returns-in-Ok-clause-written : goal.returns-in-Ok-clause-written
returns-in-Ok-clause-written g c = rw c.in-Ok.ensures.told at c.write_gathered.ensures.written

pub returns-in-Ok-clause-stopped : goal.returns-in-Ok-clause-stopped
returns-in-Ok-clause-stopped g c = rw c.in-Ok.ensures.told at c.write_gathered.ensures.stopped
