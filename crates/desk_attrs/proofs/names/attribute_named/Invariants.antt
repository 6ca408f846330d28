use Rattle.std.proofs.Common.{◌≡◌, drop}
use Rattle.desk_format.specs.Attributes.{attribute_named, first_named}
use Rattle.desk_attrs.proofs.names.attribute_named.Given as goal

abbrev pub invariant-loop-attribute : goal.invariant-loop-attribute
invariant-loop-attribute l = first_named l.name (drop l.attribute-index l.attribute-items) ≡ attribute_named l.fn.name
