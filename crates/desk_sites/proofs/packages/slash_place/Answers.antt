use Rattle.std.proofs.Common.{sym, arith}
use Rattle.std.proofs.lemmas.Bool.{false_from_ne_true}
use Rattle.std.proofs.lemmas.List.Sums.{position_or_len_is}
use Rattle.desk_sites.specs.Packages.{is_slash}
use Rattle.desk_sites.proofs.packages.slash_place.Goals as goal

pub returns-in-None-clause-place : goal.returns-in-None-clause-place
returns-in-None-clause-place c =
    sym (position_or_len_is is_slash c.args.name.now _ 0 (omega arith) (λ k h. false_from_ne_true _ (c.in-None.ensures k (omega arith) h)) (λ h. absurd (omega arith)))

pub returns-in-Some-clause-place : goal.returns-in-Some-clause-place
returns-in-Some-clause-place c =
    let found = c.in-Some.ensures.0 in
    let high = found.high in
    sym (position_or_len_is is_slash c.args.name.now c.in-Some.at 0 (omega (arith, high)) (λ k h. false_from_ne_true _ (found.before k (omega arith) h)) (λ h. c.in-Some.ensures.1))
