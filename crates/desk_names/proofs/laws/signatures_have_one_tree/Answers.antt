use Rattle.desk_names.proofs.SigPieces.{sig_taken}
use Rattle.desk_names.proofs.SigSound.{signature_of}
use Rattle.desk_names.proofs.OneSignature.{one_signature_tree}
use Rattle.desk_names.proofs.laws.signatures_have_one_tree.Goals as goal

pub returns : goal.returns
returns c = record { taken = sig_taken; tree = signature_of; one = one_signature_tree }
