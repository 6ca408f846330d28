use Rattle.desk_manifest_laws.proofs.Folding.{read-folded}
use Rattle.desk_manifest_laws.proofs.laws.headers_are_read_back.Goals as goal

pub returns : goal.returns
returns c between last name value named short =
    let r = read-folded between last name value named short in
    record { named = r.named; valued = r.valued }
