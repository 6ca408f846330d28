use Rattle.std.proofs.Common.{rules}
use Rattle.desk_file.proofs.Noting.{image_noted}
use Rattle.desk_file.proofs.scans.note_class.Goals as goal

pub returns-in_ok-note_view-in-Ok-clause-image : goal.returns-in_ok-note_view-in-Ok-clause-image
returns-in_ok-note_view-in-Ok-clause-image c =
    image_noted c.args.rules.now c.args.path.now c.in-Ok.view c.args.bytes.now c.args.selected c.in_ok-note_view-in-Ok.field-0 c.in-Ok.ensures.bytes c.in-Ok.ensures.sound (search rules) c.in_ok-note_view-in-Ok.ensures
