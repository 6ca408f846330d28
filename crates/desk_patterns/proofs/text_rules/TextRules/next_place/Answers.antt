use Rattle.std.proofs.Common.{◌≡◌, ◌+◌, ℕ, drop, sym, ap, ◌∙◌, inl, inr, arith}
use Rattle.std.proofs.lemmas.Bool.{cases_lt}
use Rattle.std.proofs.lemmas.List.{length-drop}
use Rattle.desk_patterns.specs.TextRules.{HaveSources, longest}
use Rattle.desk_patterns.specs.Seen.{NoHits}
use Rattle.desk_patterns.proofs.Sizes.{IsSized, hit_is_sized}
use Rattle.desk_patterns.proofs.text_rules.TextRules.next_place.Goals as goal

pub loop-at-init : goal.loop-at-init
loop-at-init c = record {
  low = c.next_start-at.ensures.start.low;
  high = c.next_start-at.ensures.start.high;
  before = c.next_start-at.ensures.start.before;
}

pub loop-at-preserved : goal.loop-at-preserved
loop-at-preserved c =
    let text = c.args.text.now in
    let next = c.next_start-at-in-loop-at.result in
    let behind : NoHits c.args.self.now text (c.loop-at.at + 1) next = c.next_start-at-in-loop-at.ensures.start.before in
    record {
      low = omega (arith, c.loop-at.invariant.low, c.next_start-at-in-loop-at.ensures.start.low);
      high = c.next_start-at-in-loop-at.ensures.start.high;
      before = λ k l r. elim (cases_lt k c.loop-at.at) [
        | inl lt ↦ c.loop-at.invariant.before k l lt
        | inr ge ↦ elim (cases_lt c.loop-at.at k) [
          | inl past ↦ behind k (omega arith) r
          | inr same ↦ let here : k ≡ c.loop-at.at = omega arith in ap (λ (n : ℕ). longest c.args.self.now (drop n text)) here ∙ sym c.in_default.ensures
        ]
      ];
    }

pub returns-in-Some-clause-place : goal.returns-in-Some-clause-place
returns-in-Some-clause-place c =
    let text = c.args.text.now in
    let sources : HaveSources c.args.self.now = c.next_start-at.ensures.sources in
    let sized : IsSized (drop c.loop-at.at text) (record { taken = c.in-Some.hit.taken; target = c.in-Some.hit.target.now }) = hit_is_sized c.args.self.now (drop c.loop-at.at text) _ sources c.in-Some.ensures in
    record {
      low = c.loop-at.invariant.low;
      before = c.loop-at.invariant.before;
      hit = c.in-Some.ensures;
      some = sized.some;
      inside = omega (arith, sized.inside, length-drop c.loop-at.at text, c.loop-at-test.true);
    }
