use Rattle.std.proofs.Common.{◌∙◌, sym, ap, List, slice_index_or}
use Rattle.desk_rename.specs.Images.{cls}
use Rattle.desk_graph.specs.Application.{Pair}
use Rattle.desk_graph.specs.Graphs.{Graph}
use Rattle.desk_graph.proofs.Building.{image_at}
use Rattle.desk_graph.proofs.Numbering.{nowhere_named}
use Rattle.desk_graph.proofs.graph.ClassGraphImages.image_of.Goals as goal

pub returns-in-Some-clause-image : goal.returns-in-Some-clause-image
returns-in-Some-clause-image c =
    let place = c.in-Some.ensures in
    c.image.ensures
    ∙ image_at (cls c.self.inside.rules.now.renames) c.self.inside.known.items c.in-Some.place c.index.result.now c.args.name.now c.self.invariant.images (rw (← c.as_slice.ensures.value) place.0) c.index.ensures
    (ap (λ (p : Pair). p.0) c.index.ensures ∙ ap (λ (xs : List Pair). (slice_index_or xs c.in-Some.place c.index.result.now).0) (sym c.as_slice.ensures.value) ∙ place.1 c.index.result.now)
    ∙ ap (λ (g : Graph). cls g.rules.renames c.args.name.now) c.self.view_is

pub returns-in-None-clause-known : goal.returns-in-None-clause-known
returns-in-None-clause-known c =
    rw (← c.self.view_is) (nowhere_named c.self.inside.known.items c.args.name.now (rw (← c.as_slice.ensures.value) c.in-None.ensures))
