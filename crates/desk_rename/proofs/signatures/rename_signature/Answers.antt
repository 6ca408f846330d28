use Rattle.std.proofs.Common.{sym}
use Rattle.desk_names.specs.SignatureScan.{wanted_signature}
use Rattle.desk_rename.proofs.Finished.{sig_other}
use Rattle.desk_rename.proofs.signatures.rename_signature.Goals as goal

pub returns-in-None-clause-image : goal.returns-in-None-clause-image
returns-in-None-clause-image c = sig_other c.args.rules.now.renames (wanted_signature c.args.which) c.args.text.now (sym c.in-None.ensures.read)
