use Rattle.std.proofs.Common.{false, []}
use Rattle.desk_names.proofs.CutNames.{cut_names}
use Rattle.desk_names.proofs.parts.descriptor_parts.Goals as goal

pub returns-clause-cut : goal.returns-clause-cut
returns-clause-cut c = cut_names false [] c.args.text.now
