-- The names of the kinds of faults of a class.
use Rattle.std.specs.Prelude.{codes}
use Rattle.desk_base.specs.Names.{Text}
use Rattle.desk_base.specs.declared.faults.FaultKind.{FaultKind}
use Rattle.desk_base.specs.declared.faults.FaultKind.TheVariants as kinds

abbrev pub kind_name : FaultKind → Text
kind_name kinds.Magic = codes "magic"
kind_name kinds.Version = codes "version"
kind_name kinds.Truncated = codes "truncated"
kind_name kinds.PoolCount = codes "pool-count"
kind_name kinds.Tag = codes "tag"
kind_name kinds.Utf8Form = codes "utf8-form"
kind_name kinds.Index = codes "index"
kind_name kinds.RefKind = codes "ref-kind"
kind_name kinds.ClassName = codes "class-name"
kind_name kinds.Descriptor = codes "descriptor"
kind_name kinds.AttributeLength = codes "attribute-length"
kind_name kinds.CodeLength = codes "code-length"
kind_name kinds.FrameTag = codes "frame-tag"
kind_name kinds.TypeTag = codes "type-tag"
kind_name kinds.ElementTag = codes "element-tag"
kind_name kinds.TargetType = codes "target-type"
kind_name kinds.PathKind = codes "path-kind"
kind_name kinds.Depth = codes "depth"
kind_name kinds.Trailing = codes "trailing"
kind_name kinds.Twins = codes "twins"
