use Rattle.std.proofs.Common.{◌≡◌, ◌+◌, ◌<◌, List, [], Option, Some, None, length, drop, get_or, ◌≤◌, arith, ap, sym, ◌∙◌, ℕ}
use Rattle.std.proofs.lemmas.List.{drop-map, length-map}
use Rattle.std.specs.List.{position_from}
use Rattle.desk_base.specs.Names.{Text}
use Rattle.desk_clashes.specs.Clashes.{clashes, first_clash}
use Rattle.desk_clashes.specs.Known.{TextRef, names_of, first_place}
use Rattle.desk_clashes.specs.ClashLaws.{clash_within}
use Rattle.desk_clashes.proofs.Places.{paired, no_pair, first_pair_at, first_place_below}
use Rattle.desk_clashes.proofs.targets.Targets.first_clash.Goals as goal

-- the first place and the second, as they are found, are those of the first pair
found : (refs : List TextRef) (ts : List Text) (i : ℕ) (second : Option ℕ) → names_of refs ≡ ts → first_place 0 ts ≡ Some i
    → second ≡ position_from (clashes (get_or (names_of refs) i [])) (i + 1) (names_of (drop (i + 1) refs)) → paired i second None ≡ first_clash ts
found refs ts i second e f g =
    ap (λ o. paired i o None)
    (g ∙ ap (λ (us : List Text). position_from (clashes (get_or (names_of refs) i [])) (i + 1) us) (sym (drop-map (λ (t : TextRef). t.now) (i + 1) refs))
    ∙ ap (λ (us : List Text). position_from (clashes (get_or us i [])) (i + 1) (drop (i + 1) us)) e)
    ∙ sym (first_pair_at ts i f)

pub returns-in_default-clause-exact : goal.returns-in_default-clause-exact
returns-in_default-clause-exact c =
    let named : names_of c.as_slice-targets.result.now ≡ c.args.self.now = ap names_of c.as_slice-targets.ensures.value ∙ c.self.view_is in
    sym (no_pair 0 c.args.self.now (ap (first_place 0) (sym named) ∙ sym c.in_ok-first.ensures ∙ c.in_default.is))

pub second_place-requires : goal.second_place-requires
second_place-requires c =
    let place : first_place 0 (names_of c.as_slice-targets.result.now) ≡ Some c.in-Some.first = sym c.in_ok-first.ensures ∙ c.in-Some.is in
    let below : (0 ≤ c.in-Some.first) × (c.in-Some.first < 0 + length (names_of c.as_slice-targets.result.now)) = first_place_below 0 (names_of c.as_slice-targets.result.now) c.in-Some.first place in
    let same : length (names_of c.as_slice-targets.result.now) ≡ length c.as_slice-targets.result.now = length-map c.as_slice-targets.result.now (λ (t : TextRef). t.now) in
    omega arith

pub returns-in-Some-second_place-clause-exact : goal.returns-in-Some-second_place-clause-exact
returns-in-Some-second_place-clause-exact c =
    let named : names_of c.as_slice-targets.result.now ≡ c.args.self.now = ap names_of c.as_slice-targets.ensures.value ∙ c.self.view_is in
    found c.as_slice-targets.result.now c.args.self.now c.in-Some.first (Some c.in-Some-second_place.second) named (ap (first_place 0) (sym named) ∙ sym c.in_ok-first.ensures ∙ c.in-Some.is) c.in-Some-second_place.ensures

pub returns-in-None-clause-exact : goal.returns-in-None-clause-exact
returns-in-None-clause-exact c =
    let named : names_of c.as_slice-targets.result.now ≡ c.args.self.now = ap names_of c.as_slice-targets.ensures.value ∙ c.self.view_is in
    found c.as_slice-targets.result.now c.args.self.now c.in-Some.first None named (ap (first_place 0) (sym named) ∙ sym c.in_ok-first.ensures ∙ c.in-Some.is) c.in-None.ensures

pub returns-in-Some-second_place-clause-within : goal.returns-in-Some-second_place-clause-within
returns-in-Some-second_place-clause-within c =
    clash_within c.args.self.now (record { first = c.in-Some.first; second = c.in-Some-second_place.second }) (sym (returns-in-Some-second_place-clause-exact c))
