use Rattle.desk_format.proofs.Nested.{nested_in_code, nested_in_component}
use Rattle.desk_format.proofs.laws.nested_attributes.Goals as goal

pub returns : goal.returns
returns c = record { in_code = nested_in_code; in_component = nested_in_component }
