use Rattle.std.proofs.Common.{◌≡◌, false, None, ap, sym, ◌∙◌, option_map, get_or}
use Rattle.desk_base.proofs.Results.{never_copied}
use Rattle.desk_new_pool.specs.Twins.{places_of, Key, key_of, at_key}
use Rattle.desk_new_pool.specs.declared.twins.NumberedMember.{NumberedMember}
use Rattle.desk_new_pool.proofs.Paired.{places_more, twins_found, twins_later}
use Rattle.desk_new_pool.proofs.twins.first_twins.Goals as goal

abbrev default : NumberedMember
default = record { member = record { at = 0; name = 0; descriptor = 0; method = false }; name = 0; descriptor = 0 }

pub returns-in-Some : goal.returns-in-Some
returns-in-Some c = λ named all.
    twins_found named c.args.members.now c.loop-numbered.numbered-index default c.in-Some.first.now c.loop-numbered-test.true all (c.in-Some.ensures.value ∙ c.loop-numbered.invariant.places (key_of (get_or c.args.members.now c.loop-numbered.numbered-index default)))
    ∙ ap (option_map places_of) (sym (c.loop-numbered.invariant.rest named all))

pub loop-numbered-preserved : goal.loop-numbered-preserved
loop-numbered-preserved c =
    let key : Key = key_of (get_or c.args.members.now c.loop-numbered.numbered-index default) in
    let none : at_key c.loop-numbered.places key ≡ None = sym c.get.ensures.value ∙ never_copied c.get.result c.in_default.not-Some in
    record {
      places = places_more c.args.members.now c.loop-numbered.numbered-index default c.loop-numbered.places c.insert.new.self c.loop-numbered-test.true none c.in_ok-insert.ensures.updates c.loop-numbered.invariant.places;
      rest = λ named all. c.loop-numbered.invariant.rest named all ∙ twins_later named c.args.members.now c.loop-numbered.numbered-index default c.loop-numbered-test.true all (sym (c.loop-numbered.invariant.places key) ∙ none);
    }
