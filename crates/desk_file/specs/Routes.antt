-- Where a file goes, and how it is treated there.
use Rattle.std.specs.Prelude.{◌≡◌, List, Result}
use Rattle.desk_base.specs.Names.{Text}
use Rattle.desk_patterns.specs.PatternTexts.{texts_for}
use Rattle.desk_report.specs.declared.lines.Reason.{Reason}
use Rattle.desk_rules.specs.Rules.{Rules}
use Rattle.desk_file.specs.Images.{target}
use Rattle.desk_file.specs.Treatments.{image_as, treatment_of}
use Rattle.desk_file.specs.declared.images.Image.{Image}
use Rattle.desk_file.specs.declared.routes.Route.{Route}

abbrev pub route_of : Rules → Text → Route
route_of rules path = record { path = path; target = target rules path; treatment = treatment_of rules path }

-- a route is that of its path
abbrev pub IsRouteBy : Rules → Route → Type 0
IsRouteBy rules route = route ≡ route_of rules route.path

-- the image of bytes along a route, in an application that defines these names
abbrev pub image_along : Rules → List Text → Route → Text → Result Image Reason
image_along rules defined route bytes = image_as rules defined (texts_for rules.texts route.path route.target) bytes route.treatment
