use Rattle.std.proofs.Common.{◌≡◌, ◌++◌, map}
use Rattle.std.specs.Vec.Iter.{into_iter_items}
use Rattle.desk_rename.specs.Images.{cls}
use Rattle.desk_graph.specs.Application.{with_image}
use Rattle.desk_graph.proofs.known.known_of.Given as goal

abbrev pub invariant-loop-name : goal.invariant-loop-name
invariant-loop-name l = l.list.items ++ map (with_image (cls l.rules.renames)) (into_iter_items l.name-iterator) ≡ map (with_image (cls l.rules.renames)) (into_iter_items l.initial.name-iterator)
