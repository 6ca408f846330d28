-- What is answered to the question whether an application is what rules make of another.
use Rattle.std.specs.Prelude.{ℕ, List, Option, Some, None, Result, Ok, Err, length, map, if◌then◌else◌}
use Rattle.desk_base.specs.Names.{Text}
use Rattle.desk_class.specs.Held.{ascending}
use Rattle.desk_compare.specs.Deciding.{verdict_of}
use Rattle.desk_compare.specs.declared.files.Verdict.{Verdict}
use Rattle.desk_file.specs.Images.{target}
use Rattle.desk_file.specs.Linked.{image_in}
use Rattle.desk_folders.specs.Contents.{Contents, File, files_below, paths_below}
use Rattle.desk_graph.specs.Application.{defined_names}
use Rattle.desk_intake.specs.Limits.{itself, paths_answer}
use Rattle.desk_intake.specs.Rulings.{ruled}
use Rattle.desk_intake.specs.Standing.{clash_answer, first_of, names_answer}
use Rattle.desk_intake.specs.declared.rules.DigestedRules.{DigestedRules}
use Rattle.desk_rename.specs.Images.{cls}
use Rattle.desk_report.specs.declared.status.Status.{Status}
use Rattle.desk_report.specs.declared.status.Status.TheVariants.{Refusals}
use Rattle.desk_rules.specs.Rules.{Rules}
use Rattle.desk_second.specs.Applications.{classes_of}
use Rattle.desk_comparison.specs.Files.{as_compared}
use Rattle.desk_comparison.specs.Images.{Imaging, image_answer, images_of, refusals, some_refused}
use Rattle.desk_comparison.specs.Sizes.{most_both, room_answer, room_behind}
use Rattle.desk_comparison.specs.Told.{verdict_status, verdict_text}

-- what bytes at a path become in the application that these files are
abbrev pub image_among : Rules → List File → Imaging
image_among rules files = image_in rules (ascending (defined_names (classes_of rules files)))

-- what stands against the files of the application that is migrated: their paths, their bytes, or targets that clash
abbrev pub source_answer : Rules → Text → Contents → Option Status
source_answer rules from m =
    first_of (paths_answer from (target rules) (paths_below from m))
    (first_of (room_answer most_both (files_below from m)) (clash_answer (target rules) (paths_below from m)))

-- what stands against its classes
abbrev pub classes_answer : Rules → List File → Option Status
classes_answer rules files = names_answer (cls rules.renames) (classes_of rules files)

-- what stands against the files of the other application, in a room for so many bytes
abbrev pub other_answer : ℕ → Text → Contents → Option Status
other_answer room other m = first_of (paths_answer other itself (paths_below other m)) (room_answer room (files_below other m))

-- what stands against both applications: the first that does
abbrev pub both_answer : Rules → Text → Text → Contents → Option Status
both_answer rules from other m =
    first_of (source_answer rules from m)
    (first_of (classes_answer rules (files_below from m))
    (first_of (other_answer (room_behind most_both (files_below from m)) other m) (image_answer (image_among rules (files_below from m)) (files_below from m))))

abbrev pub told_verdict : ℕ → Verdict → Text × Status
told_verdict files verdict = (verdict_text files verdict, verdict_status verdict)

-- the lines of the files that have no image, where there are such; else the verdict on the images and the other application
abbrev pub compared : (Text → Text) → Imaging → List File → List File → Text × Status
compared target image files others =
    if some_refused image files then (refusals image files, Refusals)
    else told_verdict (length others) (verdict_of (images_of target image files) (map as_compared others))

abbrev pub unless_answer : Option Status → Text × Status → Result (Text × Status) Status
unless_answer None told = Ok told
unless_answer (Some status) told = Err status

-- by rules, for the application below one root and the other one below another
abbrev pub comparison_under : Rules → Text → Text → Contents → Result (Text × Status) Status
comparison_under rules from other m =
    unless_answer (both_answer rules from other m) (compared (target rules) (image_among rules (files_below from m)) (files_below from m) (files_below other m))

abbrev pub comparison_by : Text → Text → Contents → Result DigestedRules Status → Result (Text × Status) Status
comparison_by from other m (Ok r) = comparison_under r.rules from other m
comparison_by from other m (Err status) = Err status

-- The answer by the rules below one root, for the application below the second and the other one below the third: a text with the
-- status behind it, or the status that stands against it.
abbrev pub comparison : Text → Text → Text → Contents → Result (Text × Status) Status
comparison rules from other m = comparison_by from other m (ruled rules (files_below rules m))
