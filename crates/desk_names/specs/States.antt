-- The states in which a descriptor is read, and its kinds, as the code has them.
use Rattle.desk_names.specs.declared.descriptors.TypePosition.{TypePosition}
use Rattle.desk_names.specs.declared.descriptors.TypePosition.TheVariants as places
use Rattle.desk_names.specs.declared.descriptors.State.{State}
use Rattle.desk_names.specs.declared.descriptors.State.TheVariants as states
use Rattle.desk_names.specs.declared.descriptors.Want.{Want}
use Rattle.desk_names.specs.declared.descriptors.Want.TheVariants as wants
use Rattle.desk_base.specs.Descriptors.{Position, Awaited, DescriptorKind}

-- the kind of a descriptor that is wanted
abbrev pub wanted_kind : Want → DescriptorKind
wanted_kind wants.Field = DescriptorKind.field
wanted_kind wants.Method = DescriptorKind.method
wanted_kind wants.Return = DescriptorKind.return

abbrev pub position_of : TypePosition → Position
position_of places.Alone = Position.alone
position_of (places.Parameter units) = Position.parameter units
position_of places.Outcome = Position.result

abbrev pub awaited_of : State → Awaited
awaited_of states.Opening = Awaited.opening
awaited_of (states.Type place dimensions) = Awaited.type_behind (position_of place) dimensions
awaited_of (states.Name place inside) = Awaited.name_rest (position_of place) inside
awaited_of states.Over = Awaited.over
awaited_of states.Wrong = Awaited.wrong
