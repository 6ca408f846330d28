use Rattle.std.proofs.Common.{rules, ◌≡◌, ◌∙◌, ap, length, map}
use Rattle.std.proofs.lemmas.List.{length-map}
use Rattle.desk_readings.proofs.Scans.{all_of_batch}
use Rattle.desk_readings.specs.Readings.{all_scanned, measures_of}
use Rattle.desk_readings.proofs.gathering.MeasuredFiles.add_and_read.Goals as goal

pub add-requires-clause-count : goal.add-requires-clause-count
add-requires-clause-count g c =
    let made : c.in_ok-found.field-0.items ≡ map (measures_of c.args.reading.now.rules.now) c.args.slice.items = search rules in
    ap length made ∙ length-map c.args.slice.items (measures_of c.args.reading.now.rules.now)

pub add-requires-clause-classes : goal.add-requires-clause-classes
add-requires-clause-classes g c =
    let made : c.in_ok-found.field-0.items ≡ map (measures_of c.args.reading.now.rules.now) c.args.slice.items = search rules in
    ap all_scanned made ∙ all_of_batch c.args.reading.now.rules.now c.args.slice.items

pub returns-clause-files : goal.returns-clause-files
returns-clause-files g c =
    let made : c.in_ok-found.field-0.items ≡ map (measures_of c.args.reading.now.rules.now) c.args.slice.items = search rules in
    c.in_ok-add.ensures.files c.args.reading.now.rules.now made
