use Rattle.std.proofs.Common.{rules, ◌≡◌, ◌++◌, ◌∷◌, [], ◌∙◌, refl}
use Rattle.std.proofs.lemmas.Result.{err_from_is_err_and}
use Rattle.desk_readings.proofs.FirstReading.{fails_behind, light_more, noted_next, pushed_some, split_more, within_next}
use Rattle.desk_readings.specs.Slices.{left_in, routes_in}
use Rattle.desk_readings.proofs.unread.read_slice.Goals as goal

pub returns-in_err-pending-clause-err : goal.returns-in_err-pending-clause-err
returns-in_err-pending-clause-err g c =
    let p = err_from_is_err_and c.from_residual.result c.from_residual.ensures.1 in
    rw (p.1, p.2)
    (fails_behind c.args.reading.now.from.now (g.F.Folders.told c.args.folders.now) (g.F.Folders.told c.loop-room.folders) (routes_in c.loop-room.slice.items) (left_in c.args.unread.now) (left_in c.loop-room.unread) _ _ _
    c.in_err-pending.field-0.0 c.loop-room.invariant.told c.loop-room.invariant.counts c.loop-room.invariant.split
    (λ m e. (c.loop-room.invariant.noted m e).fit) c.in_err-pending.ensures.err)

pub loop-room-preserved : goal.loop-room-preserved
loop-room-preserved g c =
    let first : left_in c.loop-room.unread ≡ c.in-Some.pending.route ∷ left_in c.next.new.self = search rules in
    let grown : c.push.new.self.items ≡ c.loop-room.slice.items ++ c.in-Some.pending ∷ [] = search rules in
    record {
      told = search rules;
      counts = search rules;
      split = split_more c.loop-room.slice.items c.push.new.self.items c.in-Some.pending (left_in c.args.unread.now) (left_in c.loop-room.unread) (left_in c.next.new.self) c.in-Some.pending.route
          c.loop-room.invariant.split first refl grown;
      there = search rules;
      ahead = search rules;
      within = within_next c.args.reading.now.rules.now (g.F.Folders.told c.loop-room.folders) c.args.reading.now.from.now c.loop-room.slice.items c.push.new.self.items c.in-Some.pending c.loop-room.invariant.within (search rules) grown;
      noted = λ m e. noted_next c.args.reading.now.rules.now c.args.reading.now.from.now (g.F.Folders.told c.loop-room.folders) m c.loop-room.slice.items c.push.new.self.items c.in-Some.pending (c.loop-room.invariant.told ∙ e) (c.loop-room.invariant.noted m e)
          (search rules) grown;
      some = λ e. absurd (pushed_some c.loop-room.slice.items c.push.new.self.items c.in-Some.pending grown e);
      light = light_more c.loop-room.slice.items c.push.new.self.items c.in-Some.pending c.loop-room.room _ _ grown c.weight-size.ensures.weight (search rules) (search rules) c.loop-room.invariant.light;
    }
