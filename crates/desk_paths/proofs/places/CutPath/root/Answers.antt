use Rattle.std.proofs.Common.{ℕ, ◌∙◌, ap, take}
use Rattle.desk_paths.specs.Paths.{root_of}
use Rattle.desk_paths.proofs.Folders.{root_told}
use Rattle.desk_paths.proofs.places.CutPath.root.Goals as goal

pub returns : goal.returns
returns c =
    ap (λ (n : ℕ). take n c.self.inside.path.now) c.saturating_sub.ensures
    ∙ root_told c.self.inside.path.now c.self.inside.rest_at c.self.inside.file_at c.self.invariant
    ∙ ap root_of c.self.view_is
