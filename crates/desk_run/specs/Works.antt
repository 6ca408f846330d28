-- What a run is to do with each file.
use Rattle.std.specs.Prelude.{List, cond, is_some, map}
use Rattle.std.specs.FinMap as fin
use Rattle.sha2.specs.Sha256.{sha256}
use Rattle.desk_batches.specs.Works.{Keep, Work, fresh}
use Rattle.desk_folders.specs.Contents.{File}
use Rattle.desk_ledger.specs.Ledger.{Rows}
use Rattle.desk_run.specs.Runs.{Run, is_kept_file}

abbrev pub work_of : Run → Rows → File → Work
work_of run rows file = record {
  path = file.path;
  target = run.target file.path;
  digest = record { 0 = sha256 file.bytes };
  plan = cond (is_kept_file run rows file) Keep (fresh (is_some (fin.get rows (run.target file.path))) (run.image file.path file.bytes));
}

abbrev pub works_of : Run → Rows → List File → List Work
works_of run rows = map (work_of run rows)
