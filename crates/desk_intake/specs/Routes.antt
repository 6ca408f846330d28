-- What is known of the route of a file that was listed.
use Rattle.std.specs.Prelude.{◌≡◌, true}
use Rattle.desk_base.specs.Paths.{is_relative_path}
use Rattle.desk_file.specs.declared.routes.Route.{Route}

-- from a relative path to a relative path
pub record IsRelativeRoute (route : Route) : Type 0 where
  pub path : is_relative_path route.path ≡ true
  pub target : is_relative_path route.target ≡ true
