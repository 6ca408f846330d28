use Rattle.std.proofs.Common.{arith}
use Rattle.std.proofs.lemmas.Bool.{false_from_ne_true}
use Rattle.desk_lines.proofs.Cuts.{until_length}
use Rattle.desk_sections.specs.Sections.{is_colon}
use Rattle.desk_sections.proofs.headers.colon_place.Goals as goal

pub returns-in-None-clause-place : goal.returns-in-None-clause-place
returns-in-None-clause-place c =
    until_length is_colon c.args.content.now _ (omega arith) (λ k h. false_from_ne_true _ (c.in-None.ensures k (omega arith) h)) (λ h. absurd (omega arith))

pub returns-in-Some-clause-place : goal.returns-in-Some-clause-place
returns-in-Some-clause-place c =
    let found = c.in-Some.ensures.0 in
    let high = found.high in
    until_length is_colon c.args.content.now c.in-Some.at (omega (arith, high)) (λ k h. false_from_ne_true _ (found.before k (omega arith) h)) (λ h. c.in-Some.ensures.1)
