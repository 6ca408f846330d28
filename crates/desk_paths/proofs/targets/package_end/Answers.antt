use Rattle.desk_paths.proofs.Folders.{end_some, end_none}
use Rattle.desk_paths.proofs.targets.package_end.Goals as goal

pub returns-then-rest_at-file_at : goal.returns-then-rest_at-file_at
returns-then-rest_at-file_at c = end_some c.args.path.now c.args.rest_at c.args.file_at c.requires c.if-rest_at-file_at.true

pub returns-else-rest_at-file_at : goal.returns-else-rest_at-file_at
returns-else-rest_at-file_at c = end_none c.args.path.now c.args.rest_at c.args.file_at c.requires c.if-rest_at-file_at.false
