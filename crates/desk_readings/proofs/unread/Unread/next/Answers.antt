use Rattle.std.proofs.Common.{rules, ◌≡◌, ◌∷◌}
use Rattle.desk_readings.proofs.FirstReading.{tail_there}
use Rattle.desk_readings.proofs.unread.Unread.next.Goals as goal

pub returns-in_ok-note_one-in-Some-pop_front-clause-there : goal.returns-in_ok-note_one-in-Some-pop_front-clause-there
returns-in_ok-note_one-in-Some-pop_front-clause-there g c =
    let popped : c.args.self.now.routes.items ≡ c.in-Some-pop_front.route ∷ c.pop_front.new.self.items = search rules in
    tail_there c.args.reading.now.from.now (g.F.Folders.told c.args.folders.now) c.args.self.now.routes.items c.pop_front.new.self.items c.in-Some-pop_front.route popped c.requires.there
