-- What words and folders mean: a run, or the answer that stands before it.
use Rattle.std.specs.Prelude.{List, Result, Ok, Err, Bool, true, cond}
use Rattle.std.specs.FinMap as fin
use Rattle.desk_base.specs.Names.{Text}
use Rattle.desk_base.specs.Paths.{full}
use Rattle.desk_class.specs.Held.{ascending}
use Rattle.desk_file.specs.Images.{target}
use Rattle.desk_file.specs.Linked.{image_in}
use Rattle.desk_file.specs.Treatments.{is_whole}
use Rattle.desk_folders.specs.Contents.{Contents, files_below}
use Rattle.desk_graph.specs.Application.{defined_names}
use Rattle.desk_graph.specs.declared.scanned.Scanned.{Scanned}
use Rattle.desk_ledger.specs.declared.keeper.Header.{Header}
use Rattle.desk_ledger.specs.declared.keeper.Held.{Held}
use Rattle.desk_ledger.specs.Ledger.{Ledger}
use Rattle.desk_rename.specs.Images.{cls}
use Rattle.desk_report.specs.declared.status.Status.{Status}
use Rattle.desk_second.specs.Applications.{classes_of}
use Rattle.desk_words.specs.declared.roots.Roots.{Roots}
use Rattle.desk_intake.specs.Rulings.{ruled}
use Rattle.desk_intake.specs.declared.rules.DigestedRules.{DigestedRules}
use Rattle.desk_run.specs.Asked.{Asked}
use Rattle.desk_run.specs.Runs.{Run, has_output}

-- the header of a run
abbrev pub header_of : Roots → DigestedRules → Header
header_of roots r = record { from = roots.from; to = roots.to; rules = r.digest }

-- the names that classes define, in byte order, each once
abbrev pub defined_in : List Scanned → List Text
defined_in classes = ascending (defined_names classes)

-- whether a target holds what its row says, in these folders; a run that doesn't verify takes it to
abbrev pub finds_in : Roots → Contents → Text → Held → Bool
finds_in roots m target row = cond roots.verify (has_output (fin.get m (full roots.to target)) row.output) true

-- the run over an application of these classes, which finds these folders
abbrev pub run_over : Roots → DigestedRules → Contents → List Scanned → Run
run_over roots r m classes = record {
  from = roots.from;
  to = roots.to;
  ledger = roots.ledger;
  header = header_of roots r;
  name = cls r.rules.renames;
  classes = classes;
  target = target r.rules;
  whole = is_whole r.rules;
  image = image_in r.rules (defined_in classes);
  verify = roots.verify;
  finds = finds_in roots m;
}

-- the run over the files below its root
abbrev pub run_of : Roots → DigestedRules → Contents → Run
run_of roots r m = run_over roots r m (classes_of r.rules (files_below roots.from m))

-- a run, or the status that stands in place of one where a ledger holds this
abbrev pub Meant : Type 0
Meant = Result Run (Ledger → Status)

abbrev pub run_by_rules : Contents → Roots → Result DigestedRules Status → Meant
run_by_rules m roots (Ok r) = Ok (run_of roots r m)
run_by_rules m roots (Err status) = Err (λ l. status)

abbrev pub run_by_roots : Contents → Asked → Meant
run_by_roots m (Ok roots) = run_by_rules m roots (ruled roots.rules (files_below roots.rules m))
run_by_roots m (Err answer) = Err (answer m)

-- the run of words, by the rules in the folders
abbrev pub run_of_asked : Asked → Contents → Meant
run_of_asked asked m = run_by_roots m asked
