use Rattle.std.proofs.Common.{◌∙◌, sym, ap, ap₂}
use Rattle.desk_paths.specs.Paths.{root_of, rest_of, below}
use Rattle.desk_paths.proofs.Folders.{below_is}
use Rattle.desk_paths.proofs.places.place.Goals as goal

pub returns-clause-joined : goal.returns-clause-joined
returns-clause-joined c =
    below_is c.args.path.now ∙ ap₂ below (sym (c.root.ensures ∙ ap root_of c.of-cut.ensures)) (sym (c.rest.ensures ∙ ap rest_of c.of-cut.ensures))
