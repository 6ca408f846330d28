-- Files that are read whole for the second time.
use Rattle.desk_base.specs.Names.{Text}
use Rattle.desk_batches.specs.declared.planned.PlannedFile.{PlannedFile}

-- a file, and its bytes in the second reading
pub record WholeFile : Type 0 where
  pub file : PlannedFile
  pub bytes : Text
