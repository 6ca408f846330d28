use Rattle.std.proofs.Common.{ap, ◌∙◌}
use Rattle.std.proofs.lemmas.Str.{is_utf8-from_IsUtf8}
use Rattle.desk_properties.specs.declared.PropFault.TheVariants.{NotUtf8}
use Rattle.desk_properties.proofs.Files.{not_utf8}
use Rattle.desk_properties.proofs.check_characters.Goals as goal

pub returns-in-Ok-clause-well : goal.returns-in-Ok-clause-well
returns-in-Ok-clause-well c = is_utf8-from_IsUtf8 c.args.bytes.now c.in-Ok.ensures.cases.1

pub returns-in-Err-clause-refused : goal.returns-in-Err-clause-refused
returns-in-Err-clause-refused c = (not_utf8 c.args.bytes.now c.in-Err.ensures.cases.0, ap NotUtf8 (c.valid_up_to.ensures ∙ c.in-Err.ensures.valid_len))
