-- What is known of the images of files that were noted as classes.
use Rattle.std.specs.Prelude.{ℕ, List, [], ◌∷◌, map, drop}
use Rattle.desk_readings.specs.declared.measured.ClassNote.{ClassNote}
use Rattle.desk_readings.specs.declared.measured.ClassNote.TheVariants.{NoClass, Changes, Stays}
use Rattle.desk_report.specs.declared.lines.Detail.TheVariants as detail
use Rattle.desk_batches.specs.declared.planned.ImageNote.{ImageNote}
use Rattle.desk_batches.specs.declared.planned.ImageNote.TheVariants.{Unknown, Unchanged, Links}
use Rattle.desk_batches.specs.declared.planned.PlannedFile.{PlannedFile}

-- a file that was noted, without what is known of its image
abbrev pub bare : PlannedFile → PlannedFile
bare file = record { route = file.route; size = file.size; digest = file.digest; class = file.class; image = Unknown; action = file.action }

-- What is known of a file's image. Where the file is a class, the first of these numbers says how many defined names it holds.
abbrev pub image_note : ClassNote → List ℕ → ImageNote
image_note NoClass counts = Unknown
image_note Changes [] = Unknown
image_note Changes (links ∷ counts) = Links links
image_note (Stays odd) [] = Unknown
image_note (Stays odd) (links ∷ counts) = Unchanged (detail.Class 0 0 odd links)

-- the numbers of the classes behind it
abbrev pub counts_behind : ClassNote → List ℕ → List ℕ
counts_behind NoClass counts = counts
counts_behind Changes counts = drop 1 counts
counts_behind (Stays odd) counts = drop 1 counts

-- of files of which this is noted, what is known of their images
abbrev pub image_notes : List ClassNote → List ℕ → List ImageNote
image_notes [] counts = []
image_notes (note ∷ notes) counts = image_note note counts ∷ image_notes notes (counts_behind note counts)

abbrev pub notes_in : List PlannedFile → List ImageNote
notes_in = map (λ (file : PlannedFile). file.image)
