use Rattle.std.proofs.Common.{[], sym, ◌∙◌}
use Rattle.std.proofs.lemmas.Bool.{both_ways}
use Rattle.desk_names.specs.SignatureScan.{wanted_signature}
use Rattle.desk_names.proofs.SigSound.{signature_of}
use Rattle.desk_names.proofs.CutNames.{sig_cut_names}
use Rattle.desk_names.proofs.SigPieces.{sig_taken, sig_joins}
use Rattle.desk_names.proofs.signature_parts.read_signature.Goals as goal

pub returns-then-is_signature-clause-tree : goal.returns-then-is_signature-clause-tree
returns-then-is_signature-clause-tree c = signature_of (wanted_signature c.args.which) c.args.text.now (sym c.is_signature.ensures ∙ c.if-is_signature.true)

pub returns-then-is_signature-clause-joined : goal.returns-then-is_signature-clause-joined
returns-then-is_signature-clause-joined c =
    let t = signature_of (wanted_signature c.args.which) c.args.text.now (sym c.is_signature.ensures ∙ c.if-is_signature.true) in
    rw c.sig_start.ensures (sig_joins (wanted_signature c.args.which) c.args.text.now t.0 t.1)

pub returns-else-is_signature-clause-none : goal.returns-else-is_signature-clause-none
returns-else-is_signature-clause-none c = λ s r. both_ways _ (sym c.is_signature.ensures ∙ c.if-is_signature.false) (sig_taken (wanted_signature c.args.which) c.args.text.now s r)

pub returns-then-is_signature-clause-cut : goal.returns-then-is_signature-clause-cut
returns-then-is_signature-clause-cut c = sig_cut_names c.sig_start.result [] c.args.text.now
