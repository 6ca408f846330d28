use Rattle.std.proofs.Common.{◌∙◌, ap}
use Rattle.std.proofs.lemmas.List.{take_rest}
use Rattle.desk_paths.specs.Paths.{rest_of}
use Rattle.desk_paths.proofs.Folders.{rest_told}
use Rattle.desk_paths.proofs.places.CutPath.rest.Goals as goal

pub returns : goal.returns
returns c =
    take_rest c.self.inside.path.now c.self.inside.rest_at
    ∙ rest_told c.self.inside.path.now c.self.inside.rest_at c.self.inside.file_at c.self.invariant
    ∙ ap rest_of c.self.view_is
