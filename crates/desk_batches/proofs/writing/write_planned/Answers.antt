use Rattle.desk_batches.proofs.Staying.{stays_changed}
use Rattle.desk_batches.proofs.writing.write_planned.Goals as goal

pub returns-in_err-write_image-in-Some-Ok-clause-stays : goal.returns-in_err-write_image-in-Some-Ok-clause-stays
returns-in_err-write_image-in-Some-Ok-clause-stays g c =
    stays_changed c.args.roots.now.from c.args.roots.now.to c.args.file.now.route.target _ _ c.requires.apart c.requires.sound.target c.in_err-write_image-in-Some-Ok.ensures.changes

pub returns-in_err-write_copy-in-Copy-clause-stays : goal.returns-in_err-write_copy-in-Copy-clause-stays
returns-in_err-write_copy-in-Copy-clause-stays g c =
    stays_changed c.args.roots.now.from c.args.roots.now.to c.args.file.now.route.target _ _ c.requires.apart c.requires.sound.target c.in_err-write_copy-in-Copy.ensures.changes

pub returns-in_ok-write_image-in-Some-Ok-clause-stays : goal.returns-in_ok-write_image-in-Some-Ok-clause-stays
returns-in_ok-write_image-in-Some-Ok-clause-stays g c =
    stays_changed c.args.roots.now.from c.args.roots.now.to c.args.file.now.route.target _ _ c.requires.apart c.requires.sound.target c.in_ok-write_image-in-Some-Ok.ensures.changes

pub returns-in_ok-write_copy-in-Copy-clause-stays : goal.returns-in_ok-write_copy-in-Copy-clause-stays
returns-in_ok-write_copy-in-Copy-clause-stays g c =
    stays_changed c.args.roots.now.from c.args.roots.now.to c.args.file.now.route.target _ _ c.requires.apart c.requires.sound.target c.in_ok-write_copy-in-Copy.ensures.changes
