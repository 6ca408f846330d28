-- The report of a run that completes.
use Rattle.std.specs.Prelude.{ℕ, ◌++◌, List, [], ◌∷◌, Bool, true, false, Result, Ok, Err, length, count_by, if◌then◌else◌}
use Rattle.std.specs.List.{flat_map, list_any, sum_by}
use Rattle.desk_base.specs.Names.{Text}
use Rattle.desk_batches.specs.declared.planned.PlannedFile.{PlannedFile}
use Rattle.desk_batches.specs.declared.planned.Outcome.{Outcome}
use Rattle.desk_batches.specs.declared.planned.Outcome.TheVariants as outcome
use Rattle.desk_folders.specs.Contents.{File}
use Rattle.desk_ledger.specs.Ledger.{Rows}
use Rattle.desk_report.specs.declared.lines.Detail.{Detail}
use Rattle.desk_report.specs.declared.lines.Detail.TheVariants.{Class, Service, Manifest, Texts, Copy}
use Rattle.desk_report.specs.declared.lines.ReportLine.TheVariants.{Written, Kept, Refused}
use Rattle.desk_report.specs.declared.lines.Summary.{Summary}
use Rattle.desk_report.specs.declared.status.Status.{Status}
use Rattle.desk_report.specs.declared.status.Status.TheVariants.{Done, Refusals}
use Rattle.desk_report.specs.Texts.{line_text, summary_text}
use Rattle.desk_file.specs.declared.images.Image.{Image}
use Rattle.desk_report.specs.declared.lines.Reason.{Reason}
use Rattle.desk_run.specs.Runs.{Run, is_kept_file, is_fresh, is_refused}

-- the line of a file: kept, or written with what its image is made of, or why it was refused
abbrev pub file_line : Text → Text → Bool → Result Image Reason → Text
file_line path target true image = line_text (Kept path target)
file_line path target false (Ok image) = line_text (Written path target image.detail)
file_line path target false (Err reason) = line_text (Refused path reason)

abbrev pub line_of : Run → Rows → File → Text
line_of run rows file = file_line file.path (run.target file.path) (is_kept_file run rows file) (run.image file.path file.bytes)

-- how many uses were renamed in a class
abbrev pub renamed_uses : Detail → ℕ
renamed_uses (Class renamed added odd links) = renamed
renamed_uses (Service changed) = 0
renamed_uses (Manifest changed) = 0
renamed_uses (Texts changed) = 0
renamed_uses Copy = 0

-- how many texts were added to a class
abbrev pub added_texts : Detail → ℕ
added_texts (Class renamed added odd links) = added
added_texts (Service changed) = 0
added_texts (Manifest changed) = 0
added_texts (Texts changed) = 0
added_texts Copy = 0

-- a number of a file that is written
abbrev pub number_in_file : (Detail → ℕ) → Bool → Result Image Reason → ℕ
number_in_file number true image = 0
number_in_file number false (Ok image) = number image.detail
number_in_file number false (Err reason) = 0

abbrev pub number_of : (Detail → ℕ) → Run → Rows → File → ℕ
number_of number run rows file = number_in_file number (is_kept_file run rows file) (run.image file.path file.bytes)

abbrev pub summary_of : Run → Rows → List File → Summary
summary_of run rows files = record {
  files = length files;
  written = count_by (is_fresh run rows) files;
  kept = count_by (is_kept_file run rows) files;
  refused = count_by (is_refused run rows) files;
  renamed = sum_by (number_of renamed_uses run rows) files;
  added = sum_by (number_of added_texts run rows) files;
}

-- one line a file in the order of their paths, and the line of the totals
abbrev pub report : Run → Rows → List File → Text
report run rows files = flat_map (line_of run rows) files ++ summary_text (summary_of run rows files)

-- how a run that completes ends: with refusals where some file is neither kept nor accepted
abbrev pub ending : Run → Rows → List File → Status
ending run rows files = if list_any (is_refused run rows) files then Refusals else Done

-- ---- by what became of the files

-- the line of a file
abbrev pub outcome_line : Text → Text → Outcome → Text
outcome_line path target outcome.Kept = line_text (Kept path target)
outcome_line path target (outcome.Written detail) = line_text (Written path target detail)
outcome_line path target (outcome.Refused reason) = line_text (Refused path reason)

-- the lines of files, of which these became so
abbrev pub lines_of : List PlannedFile → List Outcome → Text
lines_of [] outcomes = []
lines_of (planned ∷ more) [] = []
lines_of (planned ∷ more) (outcome ∷ outcomes) = outcome_line planned.route.path planned.route.target outcome ++ lines_of more outcomes

abbrev pub is_written : Outcome → Bool
is_written outcome.Kept = false
is_written (outcome.Written detail) = true
is_written (outcome.Refused reason) = false

abbrev pub was_kept : Outcome → Bool
was_kept outcome.Kept = true
was_kept (outcome.Written detail) = false
was_kept (outcome.Refused reason) = false

abbrev pub was_refused : Outcome → Bool
was_refused outcome.Kept = false
was_refused (outcome.Written detail) = false
was_refused (outcome.Refused reason) = true

-- a number of a file that was written
abbrev pub number_in : (Detail → ℕ) → Outcome → ℕ
number_in number outcome.Kept = 0
number_in number (outcome.Written detail) = number detail
number_in number (outcome.Refused reason) = 0

-- the totals
abbrev pub summary_by : List Outcome → Summary
summary_by outcomes = record {
  files = length outcomes;
  written = count_by is_written outcomes;
  kept = count_by was_kept outcomes;
  refused = count_by was_refused outcomes;
  renamed = sum_by (number_in renamed_uses) outcomes;
  added = sum_by (number_in added_texts) outcomes;
}

abbrev pub report_by : List PlannedFile → List Outcome → Text
report_by planned outcomes = lines_of planned outcomes ++ summary_text (summary_by outcomes)

-- how a run ends whose files became so
abbrev pub ending_by : List Outcome → Status
ending_by outcomes = if list_any was_refused outcomes then Refusals else Done
