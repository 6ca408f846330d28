use Rattle.desk_disk.proofs.Outcomes.{same_answer}
use Rattle.desk_disk.proofs.disk.DiskFoldersFolders.read_part.Goals as goal

pub returns-clause-few : goal.returns-clause-few
returns-clause-few c = same_answer c.count.result c.part-part.result _ c.count.ensures.same c.part-part.ensures.few
