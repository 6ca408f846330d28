use Rattle.desk_disk.proofs.Outcomes.{same_answer}
use Rattle.desk_disk.proofs.disk.DiskFoldersFolders.list.Goals as goal

pub returns-clause-few : goal.returns-clause-few
returns-clause-few c = same_answer c.count.result c.listed-listed.result _ c.count.ensures.same c.listed-listed.ensures.few

pub returns-clause-rising : goal.returns-clause-rising
returns-clause-rising c = same_answer c.count.result c.listed-listed.result _ c.count.ensures.same c.listed-listed.ensures.rising

pub returns-clause-relative : goal.returns-clause-relative
returns-clause-relative c = same_answer c.count.result c.listed-listed.result _ c.count.ensures.same c.listed-listed.ensures.relative
