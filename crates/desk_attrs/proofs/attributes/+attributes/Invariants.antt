use Rattle.std.proofs.Common.{◌≡◌, ◌+◌, ◌-◌, ◌*◌}
use Rattle.desk_format.specs.declared.attributes.Location.TheVariants.{OfComponent}
use Rattle.desk_format.specs.Layouts.{Layout}
use Rattle.desk_format.specs.Attributes.{component_head, inner_attributes}
use Rattle.desk_format.specs.Reading.{read, times, attribute_at}
use Rattle.desk_format.specs.Walk.{walk, walk_at}
use Rattle.desk_annos.specs.Stands.{StandsWithin}
use Rattle.desk_attrs.proofs.Nests.{rank, body_in}
use Rattle.desk_attrs.proofs.attributes.+attributes.Given as goal

abbrev pub decreases-walk_code : goal.decreases-walk_code
decreases-walk_code g l = 5

abbrev pub decreases-walk_component : goal.decreases-walk_component
decreases-walk_component g l = 5

abbrev pub decreases-walk_components : goal.decreases-walk_components
decreases-walk_components g l = 6

abbrev pub decreases-walk_record : goal.decreases-walk_record
decreases-walk_record g l = 7

abbrev pub decreases-walk_body : goal.decreases-walk_body
decreases-walk_body g l = 8 * rank l.place + 1

abbrev pub decreases-walk_attribute : goal.decreases-walk_attribute
decreases-walk_attribute g l = 8 * rank l.place + 2

abbrev pub decreases-walk_each_attribute : goal.decreases-walk_each_attribute
decreases-walk_each_attribute g l = 8 * rank l.place + 3

abbrev pub decreases-walk_attributes : goal.decreases-walk_attributes
decreases-walk_attributes g l = 8 * rank l.place + 4

abbrev pub invariant-walk_components-loop : goal.invariant-walk_components-loop
invariant-walk_components-loop g l =
    (walk (times (l.count - l.counter) (read (g.P.PoolView.pool l.pool) (Layout.row component_head (inner_attributes OfComponent)))) (walk_at (g.V.Visit.taken l.visit) l.cursor)
    ≡ walk (times l.fn.count (read (g.P.PoolView.pool l.fn.pool) (Layout.row component_head (inner_attributes OfComponent)))) (walk_at (g.V.Visit.taken l.fn.visit) l.fn.cursor))
    × StandsWithin l.fn.cursor l.cursor

abbrev pub invariant-walk_each_attribute-loop : goal.invariant-walk_each_attribute-loop
invariant-walk_each_attribute-loop g l =
    (walk (times (l.count - l.counter) (attribute_at (g.P.PoolView.pool l.pool) (body_in l.place (g.P.PoolView.pool l.pool)))) (walk_at (g.V.Visit.taken l.visit) l.cursor)
    ≡ walk (times l.fn.count (attribute_at (g.P.PoolView.pool l.fn.pool) (body_in l.fn.place (g.P.PoolView.pool l.fn.pool)))) (walk_at (g.V.Visit.taken l.fn.visit) l.fn.cursor))
    × StandsWithin l.fn.cursor l.cursor
