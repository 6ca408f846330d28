use Rattle.desk_names.proofs.SigPieces.{sig_joins, sig_names}
use Rattle.desk_names.proofs.SigMapped.{sig_prints, sig_kept}
use Rattle.desk_names.proofs.SignatureNames.{sig_named}
use Rattle.desk_names.proofs.laws.parts_of_signatures_exchange.Goals as goal

pub returns : goal.returns
returns c = record { joins = sig_joins; names = sig_names; named = sig_named; prints = sig_prints; kept = sig_kept }
