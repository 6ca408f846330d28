use Rattle.std.proofs.Common.{All, ◌≡◌, ◌++◌, List, map}
use Rattle.desk_base.specs.Names.{Text}
use Rattle.desk_file.specs.Images.{target}
use Rattle.desk_file.specs.Routes.{IsRouteBy, route_of}
use Rattle.desk_file.specs.declared.routes.Route.{Route}
use Rattle.desk_intake.specs.Limits.{first_long}
use Rattle.desk_intake.specs.Routes.{IsRelativeRoute}
use Rattle.desk_intake.proofs.listing.route_all.Given as goal

abbrev pub invariant-loop-path : goal.invariant-loop-path
invariant-loop-path l = record {
  routes : l.routes.items ≡ map (route_of l.rules) l.yielded;
  relative : All (λ (route : Route). IsRelativeRoute route) l.routes.items;
  routed : All (λ (route : Route). IsRouteBy l.rules route) l.routes.items;
  short : (rest : List Text) → first_long (target l.rules) (l.yielded ++ rest) ≡ first_long (target l.rules) rest;
}
