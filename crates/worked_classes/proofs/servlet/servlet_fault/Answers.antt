use Rattle.std.proofs.Common.{refl}
use Rattle.desk_base.specs.Misfits.{misfit}
use Rattle.desk_base.specs.Referents.{has_form}
use Rattle.desk_base.specs.Utf8.{bad_from}
use Rattle.desk_base.specs.Descriptors.{step, run, is_descriptor}
use Rattle.desk_format.specs.Reading.{read, number_at, raw_at, index_at, nothing_at, and_then, times, member_at, fenced, attribute_at}
use Rattle.desk_format.specs.Rows.{row_layout}
use Rattle.desk_format.specs.Annotations.{element}
use Rattle.desk_format.specs.Attributes.{attribute_named}
use Rattle.desk_format.specs.ClassBody.{class_body}
use Rattle.desk_format.specs.Classes.{read_class}
use Rattle.desk_format.specs.PoolReading.{body, tag_numbered, entry_read, read_slots, read_pool}
use Rattle.worked_classes.proofs.servlet.servlet_fault.Goals as goal

pub returns : goal.returns
unfolding read_class read_pool read_slots entry_read tag_numbered body misfit has_form bad_from is_descriptor run step read number_at raw_at index_at nothing_at and_then times member_at fenced attribute_at row_layout element attribute_named class_body
returns c = refl
