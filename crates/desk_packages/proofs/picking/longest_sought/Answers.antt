use Rattle.std.proofs.Common.{◌≡◌, ◌+◌, ℕ, length, sym, subst, ◌∙◌, arith}
use Rattle.std.proofs.lemmas.Bool.{eqb-true}
use Rattle.desk_packages.specs.Keys.{byte_of}
use Rattle.desk_packages.proofs.Sources.{separates}
use Rattle.desk_packages.proofs.Along.{none_there, left_first, left_next, left_alike}
use Rattle.desk_packages.proofs.LastBelow.{IsFoundBefore, found_first, step_here, step_other, step_none, step_empty}
use Rattle.desk_packages.proofs.picking.longest_sought.Goals as goal
use Rattle.desk_packages.proofs.picking.longest_sought.Goals.{After-going_on-rest, in-Some, in_default-2, in_default}

pub loop-end-init : goal.loop-end-init
loop-end-init c =
    let s = byte_of c.args.separator in
    record { left = left_first c.args.renames.now c.requires s c.args.path.now; found_before = found_first c.args.renames.now c.requires s (separates c.args.separator) c.args.path.now c.args.sought }

pub below_at-requires-clause-alike : goal.below_at-requires-clause-alike
below_at-requires-clause-alike c = left_alike c.args.renames.now (byte_of c.args.separator) c.args.path.now c.loop-end.end c.loop-end.rest.now c.loop-end.invariant.left

pub going_on-rest-requires-clause-alike : goal.going_on-rest-requires-clause-alike
going_on-rest-requires-clause-alike c = left_alike c.args.renames.now (byte_of c.args.separator) c.args.path.now c.loop-end.end c.loop-end.rest.now c.loop-end.invariant.left

pub returns-then-is_empty : goal.returns-then-is_empty
returns-then-is_empty c =
    step_empty c.args.renames.now c.requires (byte_of c.args.separator) (separates c.args.separator) c.args.path.now c.args.sought (λ r. r.now) c.loop-end.end c.loop-end.rest.now c.loop-end.found
    c.loop-end.invariant.left (none_there c.loop-end.rest.now (omega (arith, eqb-true (length c.loop-end.rest.now) 0 (sym c.is_empty.ensures ∙ c.if-is_empty.true)))) (omega arith) c.loop-end.invariant.found_before

found_next : (c : After-going_on-rest) → IsFoundBefore (λ r. r.now) c.args.renames.now (byte_of c.args.separator) c.args.path.now c.args.sought (c.loop-end.end + 1) c.match-below_at.found
found_next c =
    let rs = c.args.renames.now in
    let s = byte_of c.args.separator in
    let is = separates c.args.separator in
    let before = c.loop-end.invariant.found_before in
    elim c.match-below_at.branch [
      | in-Some w ↦ rw w.found-is (step_here rs c.requires s is c.args.path.now c.args.sought c.loop-end.end c.loop-end.rest.now c.loop-end.invariant.left w.in-Some.rename.now w.in-Some.ensures (sym w.is_met_by.ensures ∙ w.if-is_met_by.true))
      | in_default-2 w ↦ rw w.found-is (step_other rs c.requires s is c.args.path.now c.args.sought (λ r. r.now) c.loop-end.end c.loop-end.rest.now c.loop-end.found c.loop-end.invariant.left w.in-Some.rename.now w.in-Some.ensures (sym w.is_met_by.ensures ∙ w.if-is_met_by.false) before)
      | in_default w ↦ rw w.found-is (step_none rs c.requires s is c.args.path.now c.args.sought (λ r. r.now) c.loop-end.end c.loop-end.rest.now c.loop-end.found c.loop-end.invariant.left (rw w.in_default.is at c.below_at.ensures) before)
    ]

pub loop-end-preserved : goal.loop-end-preserved
loop-end-preserved c = record {
  left = left_next c.args.renames.now (byte_of c.args.separator) c.args.path.now c.loop-end.end c.loop-end.rest.now c.going_on-rest.result.now c.loop-end.invariant.left c.going_on-rest.ensures.table c.going_on-rest.ensures.begin;
  found_before = found_next (goal.at.loop-end-preserved c).After-going_on-rest;
}

pub returns-after-below_at : goal.returns-after-below_at
returns-after-below_at c =
    let last : c.loop-end.end ≡ length c.args.path.now = omega arith in
    subst (λ (n : ℕ). IsFoundBefore (λ r. r.now) c.args.renames.now (byte_of c.args.separator) c.args.path.now c.args.sought (n + 1) c.match-below_at.found) last
    (found_next (goal.at.returns-after-below_at c).After-going_on-rest)
