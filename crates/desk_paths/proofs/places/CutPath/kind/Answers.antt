use Rattle.std.proofs.Common.{◌-◌, ◌∙◌, ap, take, drop}
use Rattle.std.proofs.lemmas.List.{take_rest}
use Rattle.desk_paths.specs.Kinds.{kind_of}
use Rattle.desk_paths.specs.Walks.{kind_by_texts}
use Rattle.desk_paths.proofs.Folders.{kind_told}
use Rattle.desk_paths.proofs.places.CutPath.kind.Goals as goal

pub returns : goal.returns
returns c =
    c.kind_in.ensures
    ∙ ap (kind_by_texts (take (c.self.inside.file_at - c.self.inside.rest_at) (drop c.self.inside.rest_at c.self.inside.path.now))) (take_rest c.self.inside.path.now c.self.inside.file_at)
    ∙ kind_told c.self.inside.path.now c.self.inside.rest_at c.self.inside.file_at c.self.invariant
    ∙ ap kind_of c.self.view_is
