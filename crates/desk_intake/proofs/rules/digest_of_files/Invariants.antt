use Rattle.std.proofs.Common.{take, map}
use Rattle.std.specs.List.{flat_map}
use Rattle.desk_ledger.specs.Digests.{HasTaken}
use Rattle.desk_intake.specs.RuleFolders.{file_named}
use Rattle.desk_intake.specs.Rulings.{digest_entry}
use Rattle.desk_intake.proofs.rules.digest_of_files.Given as goal

abbrev pub invariant-loop-name : goal.invariant-loop-name
invariant-loop-name l = HasTaken l.digester (flat_map digest_entry (map (file_named l.folder.files) (take l.name-index l.folder.names)))
