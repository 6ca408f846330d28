use Rattle.std.proofs.lemmas.Bool.{ne_eqb}
use Rattle.desk_properties.proofs.Parts.{escape_plain}
use Rattle.desk_properties.proofs.entries.append_escape.Goals as goal

pub returns-in_ok-push-clause-read : goal.returns-in_ok-push-clause-read
returns-in_ok-push-clause-read c = escape_plain c.args.file.now c.args.from _ _ _ c.requires.pair c.requires.inside (ne_eqb _ 117 c.if-byte-eq117.false) c.escaped.ensures c.in_ok-push.ensures.ok
