-- What becomes of the samples, by computing the definitions over their bytes.
use Rattle.std.proofs.Common.{◌≡◌, Option, Some, None, refl}
use Rattle.desk_base.specs.declared.faults.FaultKind.TheVariants as faults
use Rattle.desk_base.specs.declared.faults.Malformed.{Malformed}
use Rattle.desk_base.specs.Misfits.{misfit}
use Rattle.desk_base.specs.Referents.{has_form}
use Rattle.desk_base.specs.Utf8.{bad_from}
use Rattle.desk_base.specs.Descriptors.{step, run, is_descriptor}
use Rattle.worked_classes.specs.declared.samples.Sample.{Sample}
use Rattle.worked_classes.specs.declared.samples.Sample.TheVariants as samples
use Rattle.worked_classes.specs.Samples.{bytes_of}
use Rattle.desk_format.specs.Reading.{read, number_at, raw_at, index_at, nothing_at, and_then, times, member_at, fenced, attribute_at}
use Rattle.desk_format.specs.Rows.{row_layout}
use Rattle.desk_format.specs.Annotations.{element}
use Rattle.desk_format.specs.Attributes.{attribute_named}
use Rattle.desk_format.specs.ClassBody.{class_body}
use Rattle.desk_format.specs.Classes.{read_class, class_fault}
use Rattle.desk_format.specs.PoolReading.{body, tag_numbered, entry_read, read_slots, read_pool}

abbrev pub expected : Sample → Option Malformed
expected samples.Whole = None
expected samples.OtherMagic = Some (record { kind = faults.Magic; at = 0 })
expected samples.OneByteMore = Some (record { kind = faults.Trailing; at = 53 })
expected samples.ZeroByte = Some (record { kind = faults.Utf8Form; at = 13 })
expected samples.Major44 = Some (record { kind = faults.Version; at = 6 })
expected samples.Major65 = None
expected samples.Major66 = Some (record { kind = faults.Version; at = 6 })
expected samples.Minor1 = Some (record { kind = faults.Version; at = 4 })
expected samples.Preview = None
expected samples.CountZero = Some (record { kind = faults.PoolCount; at = 8 })
expected samples.UnknownTag = Some (record { kind = faults.Tag; at = 10 })
expected samples.LongInside = None
expected samples.LongLast = Some (record { kind = faults.PoolCount; at = 39 })
expected samples.SecondSlot = Some (record { kind = faults.Index; at = 49 })
expected samples.HandleKind = Some (record { kind = faults.RefKind; at = 40 })
expected samples.NoDescriptor = Some (record { kind = faults.Descriptor; at = 42 })
expected samples.ArrayName = Some (record { kind = faults.ClassName; at = 16 })
expected samples.InnerText = Some (record { kind = faults.Index; at = 86 })
expected samples.LongAttribute = Some (record { kind = faults.AttributeLength; at = 78 })
expected samples.ShortAttribute = Some (record { kind = faults.AttributeLength; at = 78 })
expected samples.PastEnd = Some (record { kind = faults.Truncated; at = 82 })
expected samples.Unknown = None
expected samples.Misplaced = None
expected samples.Nested64 = None
expected samples.Nested65 = Some (record { kind = faults.Depth; at = 297 })
expected samples.NoCode = Some (record { kind = faults.CodeLength; at = 98 })
expected samples.ReservedFrame = Some (record { kind = faults.FrameTag; at = 115 })
expected samples.UnknownType = Some (record { kind = faults.TypeTag; at = 116 })
expected samples.UnknownElement = Some (record { kind = faults.ElementTag; at = 105 })
expected samples.UnknownTarget = Some (record { kind = faults.TargetType; at = 103 })
expected samples.UnknownPath = Some (record { kind = faults.PathKind; at = 105 })
expected samples.PastCode = Some (record { kind = faults.AttributeLength; at = 90 })
expected samples.ShortInCode = Some (record { kind = faults.AttributeLength; at = 109 })
expected samples.TwoMethods = Some (record { kind = faults.Twins; at = 88 })

pub faults_of : (s : Sample) → class_fault (bytes_of s) ≡ expected s
unfolding read_class read_pool read_slots entry_read tag_numbered body misfit has_form bad_from is_descriptor run step read number_at raw_at index_at nothing_at and_then times member_at fenced attribute_at row_layout element attribute_named class_body
faults_of samples.Whole = refl
faults_of samples.OtherMagic = refl
faults_of samples.OneByteMore = refl
faults_of samples.ZeroByte = refl
faults_of samples.Major44 = refl
faults_of samples.Major65 = refl
faults_of samples.Major66 = refl
faults_of samples.Minor1 = refl
faults_of samples.Preview = refl
faults_of samples.CountZero = refl
faults_of samples.UnknownTag = refl
faults_of samples.LongInside = refl
faults_of samples.LongLast = refl
faults_of samples.SecondSlot = refl
faults_of samples.HandleKind = refl
faults_of samples.NoDescriptor = refl
faults_of samples.ArrayName = refl
faults_of samples.InnerText = refl
faults_of samples.LongAttribute = refl
faults_of samples.ShortAttribute = refl
faults_of samples.PastEnd = refl
faults_of samples.Unknown = refl
faults_of samples.Misplaced = refl
faults_of samples.Nested64 = refl
faults_of samples.Nested65 = refl
faults_of samples.NoCode = refl
faults_of samples.ReservedFrame = refl
faults_of samples.UnknownType = refl
faults_of samples.UnknownElement = refl
faults_of samples.UnknownTarget = refl
faults_of samples.UnknownPath = refl
faults_of samples.PastCode = refl
faults_of samples.ShortInCode = refl
faults_of samples.TwoMethods = refl
