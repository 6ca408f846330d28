use Rattle.desk_properties.proofs.Parts.{entry_read}
use Rattle.desk_properties.proofs.entries.read_entry.Goals as goal

pub returns-clause-read : goal.returns-clause-read
returns-clause-read c = entry_read c.args.file.now c.args.from _ _ _ _ _ _ c.requires.inside c.in_ok-key.ensures.read c.skip_sign-at.ensures c.in_ok-value.ensures.read c.next_line-next.ensures
