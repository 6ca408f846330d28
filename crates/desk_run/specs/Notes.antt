-- Files as the first reading finds them, and what is done with each by the rows of the ledger.
use Rattle.std.specs.Prelude.{Bool, length, not, cond, is_some}
use Rattle.std.specs.FinMap as fin
use Rattle.desk_base.specs.Names.{Text}
use Rattle.desk_readings.specs.Noting.{IsWithin}
use Rattle.desk_readings.specs.Readings.{class_note, noted_route}
use Rattle.desk_readings.specs.declared.measured.ClassNote.{ClassNote}
use Rattle.desk_readings.specs.declared.measured.MeasuredFile.{MeasuredFile}
use Rattle.desk_batches.specs.declared.planned.ImageNote.TheVariants.{Unknown}
use Rattle.desk_batches.specs.declared.planned.PlannedFile.{PlannedFile}
use Rattle.desk_batches.specs.declared.planned.Action.{Action}
use Rattle.desk_batches.specs.declared.planned.Action.TheVariants.{Keep, Migrate, Copy}
use Rattle.desk_file.specs.Routes.{IsRouteBy, route_of}
use Rattle.desk_file.specs.Treatments.{is_copy}
use Rattle.desk_folders.specs.Contents.{File}
use Rattle.desk_intake.specs.Routes.{IsRelativeRoute}
use Rattle.desk_ledger.specs.declared.keeper.Held.{Held}
use Rattle.desk_ledger.specs.Digests.{digest}
use Rattle.desk_ledger.specs.Ledger.{Rows}
use Rattle.desk_rules.specs.Rules.{Rules}
use Rattle.desk_run.specs.Runs.{is_kept}

-- what is done with a file that is kept or not, is read whole or not, and of whose target the ledger has a row or not
abbrev pub action_by : Bool → Bool → Bool → Action
action_by kept whole found = cond kept Keep (cond whole (Migrate found) (Copy found))

-- by the rows of the ledger, and whether a target is found as its row says
abbrev pub action_of : (Text → Held → Bool) → Rows → MeasuredFile → Action
action_of finds rows file =
    action_by (is_kept (finds file.route.target) (fin.get rows file.route.target) file.route.path file.digest.0) (not (is_copy file.route.treatment)) (is_some (fin.get rows file.route.target))

abbrev pub planned_by : (Text → Held → Bool) → Rows → MeasuredFile → PlannedFile
planned_by finds rows file = record { route = file.route; size = file.size; digest = file.digest; class = file.class; image = Unknown; action = action_of finds rows file }

-- what the first reading found of a file that is planned
abbrev pub measured_in : PlannedFile → MeasuredFile
measured_in planned = record { route = planned.route; size = planned.size; digest = planned.digest; class = planned.class }

-- what is noted of a file of the source as a class
abbrev pub class_note_of : Rules → File → ClassNote
class_note_of rules file = class_note (noted_route rules (route_of rules file.path) file.bytes)

-- a file of the source as the first reading finds it
abbrev pub measured_of : Rules → File → MeasuredFile
measured_of rules file = record { route = route_of rules file.path; size = length file.bytes; digest = digest file.bytes; class = class_note_of rules file }

-- what is known of a file that was read, whatever the folders tell: its route is that of its path, and it has no more bytes than
-- it may have
pub record IsRead (rules : Rules) (file : MeasuredFile) : Type 0 where
  pub route : IsRouteBy rules file.route
  pub relative : IsRelativeRoute file.route
  pub within : IsWithin file
