use Rattle.std.proofs.Common.{arith}
use Rattle.std.proofs.lemmas.Bool.{false_from_ne_true}
use Rattle.desk_metainf.specs.Services.{is_hash}
use Rattle.desk_lines.proofs.Cuts.{until_length}
use Rattle.desk_metainf.proofs.providers.code_length.Goals as goal

pub returns-in-None-clause-length_is : goal.returns-in-None-clause-length_is
returns-in-None-clause-length_is c =
    until_length is_hash c.args.content.now _ (omega arith) (λ k h. false_from_ne_true _ (c.in-None.ensures k (omega arith) h)) (λ h. absurd (omega arith))

pub returns-in-Some-clause-length_is : goal.returns-in-Some-clause-length_is
returns-in-Some-clause-length_is c =
    let found = c.in-Some.ensures.0 in
    let high = found.high in
    until_length is_hash c.args.content.now c.in-Some.at (omega (arith, high)) (λ k h. false_from_ne_true _ (found.before k (omega arith) h)) (λ h. c.in-Some.ensures.1)
