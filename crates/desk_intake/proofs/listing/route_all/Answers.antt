use Rattle.std.proofs.Common.{◌≡◌, ◌⊎◌, inl, inr, false, ◌∙◌, ap, sym, map, map-id, rules}
use Rattle.std.proofs.lemmas.Iterator.Adapters.{YieldsList-from_vec}
use Rattle.std.proofs.lemmas.Iterator.Consumers.{YieldsList-end, YieldsList-so_far, YieldsList-turn}
use Rattle.desk_readings.proofs.Fronts.{all_pushed}
use Rattle.desk_file.specs.Images.{target}
use Rattle.desk_file.specs.Routes.{IsRouteBy, route_of}
use Rattle.desk_file.specs.declared.routes.Route.{Route}
use Rattle.desk_base.specs.Paths.{is_relative_path}
use Rattle.desk_intake.specs.Limits.{is_short}
use Rattle.desk_report.specs.declared.status.LimitKind.TheVariants.{PathLength}
use Rattle.desk_report.specs.declared.status.Status.TheVariants.{Limit}
use Rattle.desk_intake.specs.Routes.{IsRelativeRoute}
use Rattle.desk_intake.specs.declared.halts.Halt.TheVariants as halt
use Rattle.desk_intake.proofs.Parts.{mapped_more}
use Rattle.desk_intake.proofs.Routed.{halts_long, none_long, relative_path, short_more}
use Rattle.desk_intake.proofs.listing.route_all.Goals as goal
use Rattle.desk_intake.proofs.listing.route_all.Goals.{then-not-is_short-via-then-not-is_short, then-not-is_short-via-else-not-is_short+then-not-is_short-2}

pub route_of-requires : goal.route_of-requires
route_of-requires c =
    let road = YieldsList-from_vec {s = c.into_iter-path-iterator.result} c.args.paths.items (cc) (cc) in
    let turn = YieldsList-turn road c.loop-path.yielded c.loop-path.path-iterator c.loop-path.yielded_by c.next.result c.next.new.self c.in-Some.path c.in-Some.is c.next.ensures.steps in
    relative_path c.args.paths.items _ c.in-Some.path c.requires turn.0 turn.1

pub loop-path-preserved : goal.loop-path-preserved
loop-path-preserved c =
    let road = YieldsList-from_vec {s = c.into_iter-path-iterator.result} c.args.paths.items (cc) (cc) in
    let turn = YieldsList-turn road c.loop-path.yielded c.loop-path.path-iterator c.loop-path.yielded_by c.next.result c.next.new.self c.in-Some.path c.in-Some.is c.next.ensures.steps in
    let route = c.in_ok-route.route in
    let is = c.in_ok-route.ensures.route in
    record {
      routes = sym (map-id c.push.new.self.items) ∙ mapped_more (λ (route : Route). route) (route_of c.args.rules.now) c.loop-path.routes.items c.push.new.self.items route c.loop-path.yielded c.in-Some.path
          (map-id c.loop-path.routes.items ∙ c.loop-path.invariant.routes) is (search rules);
      relative = all_pushed (λ (route : Route). IsRelativeRoute route) c.loop-path.routes.items c.push.new.self.items route c.loop-path.invariant.relative
          (record { path = ap (λ (r : Route). is_relative_path r.path) is ∙ relative_path c.args.paths.items _ c.in-Some.path c.requires turn.0 turn.1; target = c.in_ok-route.ensures.relative }) (search rules);
      routed = all_pushed (λ (route : Route). IsRouteBy c.args.rules.now route) c.loop-path.routes.items c.push.new.self.items route c.loop-path.invariant.routed
          (is ∙ ap (route_of c.args.rules.now) (sym (ap (λ (r : Route). r.path) is))) (search rules);
      short = short_more (target c.args.rules.now) c.loop-path.yielded c.in-Some.path
          (ap (λ (r : Route). is_short r.path) (sym is) ∙ sym c.is_short.ensures ∙ c.if-not-is_short.false)
          (ap (λ (r : Route). is_short r.target) (sym is) ∙ sym c.is_short-else-not-is_short.ensures ∙ c.if-not-is_short-2.false)
          c.loop-path.invariant.short;
    }

pub returns-clause-routes : goal.returns-clause-routes
returns-clause-routes c =
    let road = YieldsList-from_vec {s = c.into_iter-path-iterator.result} c.args.paths.items (cc) (cc) in
    let end = YieldsList-end road c.loop-path.yielded c.loop-path.path-iterator c.loop-path.yielded_by c.next.result c.next.new.self c.in-None.is c.next.ensures.steps in
    c.loop-path.invariant.routes ∙ ap (map (route_of c.args.rules.now)) (sym (map-id c.loop-path.yielded) ∙ end.0)

pub returns-clause-short : goal.returns-clause-short
returns-clause-short c =
    let road = YieldsList-from_vec {s = c.into_iter-path-iterator.result} c.args.paths.items (cc) (cc) in
    let end = YieldsList-end road c.loop-path.yielded c.loop-path.path-iterator c.loop-path.yielded_by c.next.result c.next.new.self c.in-None.is c.next.ensures.steps in
    none_long (target c.args.rules.now) c.args.paths.items c.loop-path.yielded end.0 c.loop-path.invariant.short

pub returns-then-not-is_short-clause-err : goal.returns-then-not-is_short-clause-err
returns-then-not-is_short-clause-err c =
    let road = YieldsList-from_vec {s = c.into_iter-path-iterator.result} c.args.paths.items (cc) (cc) in
    let turn = YieldsList-turn road c.loop-path.yielded c.loop-path.path-iterator c.loop-path.yielded_by c.next.result c.next.new.self c.in-Some.path c.in-Some.is c.next.ensures.steps in
    let is = c.in_ok-route.ensures.route in
    let long : (is_short c.in-Some.path ≡ false) ⊎ (is_short (target c.args.rules.now c.in-Some.path) ≡ false) = elim c.then-not-is_short.branch [
      | then-not-is_short-via-then-not-is_short w ↦ inl (ap (λ (r : Route). is_short r.path) (sym is) ∙ sym c.is_short.ensures ∙ w.if-not-is_short.true)
      | then-not-is_short-via-else-not-is_short+then-not-is_short-2 w ↦ inr (ap (λ (r : Route). is_short r.target) (sym is) ∙ sym w.is_short-else-not-is_short.ensures ∙ w.if-not-is_short-2.true)
    ] in
    halts_long (target c.args.rules.now) c.args.paths.items c.loop-path.yielded c.in-Some.path c.limit.result (YieldsList-so_far road c.loop-path.yielded c.loop-path.path-iterator c.loop-path.yielded_by) turn.0 turn.1
    long c.loop-path.invariant.short (c.limit.ensures ∙ ap (λ (r : Route). halt.Answer (Limit PathLength r.path)) is)
