use Rattle.desk_kept_code.proofs.Whole.{kept_codes}
use Rattle.desk_kept_code.proofs.kept_codes.Goals as goal

pub returns : goal.returns
returns c = kept_codes
