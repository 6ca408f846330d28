-- What words ask for, before what else is said of it.
use Rattle.std.specs.Prelude.{Result, Ok}
use Rattle.desk_folders.specs.Contents.{Contents}
use Rattle.desk_ledger.specs.Ledger.{Ledger}
use Rattle.desk_report.specs.declared.status.Status.{Status}
use Rattle.desk_words.specs.declared.roots.Roots.{Roots}

-- the roots of a run, or the status that stands in place of one where folders and ledger hold these
abbrev pub Asked : Type 0
Asked = Result Roots (Contents → Ledger → Status)

-- a run over these roots
abbrev pub asked_roots : Roots → Asked
asked_roots roots = Ok roots
