use Rattle.std.proofs.Common.{get_or}
use Rattle.std.proofs.lemmas.Option.{slice_get-get_or}
use Rattle.desk_rewrite.proofs.Tables.{notes}
use Rattle.desk_rewrite.proofs.seen.note.Goals as goal

pub returns-clause-notes : goal.returns-clause-notes
returns-clause-notes c =
    notes c.args.rows.now c.args.key (get_or c.args.rows.now c.args.key.0 _) c.set.new.self c.args.looked c.requires (slice_get-get_or c.args.rows.now c.args.key.0 _ c.requires) c.set.ensures
