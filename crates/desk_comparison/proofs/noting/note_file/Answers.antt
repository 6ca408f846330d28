use Rattle.std.proofs.Common.{rules}
use Rattle.desk_comparison.proofs.Notes.{found_scanned, found_kept}
use Rattle.desk_comparison.proofs.noting.note_file.Goals as goal

pub returns-clause-scanned : goal.returns-clause-scanned
returns-clause-scanned c = found_scanned c.args.file.now.route c.is_class.result c.is_selected_class-selected.result c.as_bytes.result.now c.args.file.now.content c.note_class.result (search rules) c.is_class.ensures c.is_selected_class-selected.ensures c.as_bytes.ensures.bytes c.note_class.ensures.scanned

pub returns-clause-unchanged : goal.returns-clause-unchanged
returns-clause-unchanged c = found_kept c.args.rules.now c.args.file.now c.is_selected_class-selected.result c.as_bytes.result.now c.note_class.result c.is_selected_class-selected.ensures c.as_bytes.ensures.bytes c.note_class.ensures.odd c.note_class.ensures.image
