use Rattle.std.proofs.Common.{◌-◌, take, sym, ◌∙◌, arith}
use Rattle.desk_clashes.specs.Known.{holds}
use Rattle.desk_clashes.proofs.Seen.{none_above}
use Rattle.desk_clashes.proofs.Sets.{hit_step, miss_step, skip_step}
use Rattle.desk_clashes.proofs.known.SeenTargets.has_folder_of.Goals as goal

pub returns-then-holds : goal.returns-then-holds
returns-then-holds c = λ seen known.
    let names = c.args.self.now.names in
    let folder = take (c.loop-place.place - 1) c.args.target.now in
    let held = sym c.holds.ensures ∙ c.if-holds.true in
    sym (none_above names c.args.self.now.folders c.args.self.now.apart seen known c.if-self.true folder held)
    ∙ miss_step (holds names) c.args.target.now (c.loop-place.place - 1) c.loop-place.place (omega arith) (omega arith) c.if-target-place-eq47.true (known.apart c.if-self.true folder held)
    ∙ c.loop-place.invariant

pub returns-then-holds-2 : goal.returns-then-holds-2
returns-then-holds-2 c = λ seen known.
    sym (hit_step (holds c.args.self.now.names) c.args.target.now (c.loop-place.place - 1) c.loop-place.place (omega arith) (omega arith) c.if-target-place-eq47.true (sym c.holds-then-target-place-eq47.ensures ∙ c.if-holds-2.true)) ∙ c.loop-place.invariant

pub loop-place-preserved-else-holds-2 : goal.loop-place-preserved-else-holds-2
loop-place-preserved-else-holds-2 c =
    miss_step (holds c.args.self.now.names) c.args.target.now (c.loop-place.place - 1) c.loop-place.place (omega arith) (omega arith) c.if-target-place-eq47.true (sym c.holds-then-target-place-eq47.ensures ∙ c.if-holds-2.false)
    ∙ c.loop-place.invariant

pub loop-place-preserved : goal.loop-place-preserved
loop-place-preserved c =
    skip_step (holds c.args.self.now.names) c.args.target.now (c.loop-place.place - 1) c.loop-place.place (omega arith) (omega arith) c.if-target-place-eq47.false ∙ c.loop-place.invariant
