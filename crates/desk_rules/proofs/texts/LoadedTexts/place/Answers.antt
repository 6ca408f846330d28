use Rattle.std.proofs.Common.{sym, arith}
use Rattle.desk_rules.proofs.LoadedTexts.{place_found, place_added}
use Rattle.desk_rules.proofs.texts.LoadedTexts.place.Goals as goal

pub returns-in-Some-clause-read : goal.returns-in-Some-clause-read
returns-in-Some-clause-read c = place_found c.args.files.now c.args.name c.args.self.now.places.entries c.args.self.now.rules.items c.in-Some.place.now c.requires (sym c.in-Some.ensures.value)

pub returns-clause-read : goal.returns-clause-read
returns-clause-read c =
    place_added c.args.files.now c.args.name c.args.self.now.places.entries c.insert.new.self.entries c.args.self.now.rules.items c.push.new.self.items c.in_ok-rules.rules c.len-place.result
    c.requires c.in_ok-rules.ensures.read c.in_ok-push.ensures.items (omega (arith, c.len-place.ensures)) (λ q. c.in_ok-insert.ensures.updates.0 q)
