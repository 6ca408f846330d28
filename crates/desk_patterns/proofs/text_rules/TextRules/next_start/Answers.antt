use Rattle.std.proofs.Common.{◌≡◌, ◌+◌, ◌≤◌, ◌-◌, List, length, take, drop, subst, arith}
use Rattle.std.proofs.lemmas.List.{length-drop, length-take}
use Rattle.desk_patterns.specs.TextRules.{TextRule}
use Rattle.desk_patterns.specs.Seen.{rules_seen, shorter_seen, NoHits}
use Rattle.desk_patterns.proofs.Kept.{no_hits, seen_length}
use Rattle.desk_patterns.proofs.Alone.{alone_none}
use Rattle.desk_patterns.proofs.text_rules.TextRules.next_start.Goals as goal

pub returns-then-len-ne1-clause-start : goal.returns-then-len-ne1-clause-start
returns-then-len-ne1-clause-start c =
    let kept = c.self.inside.rules in
    record {
      low = c.next_in.ensures.low;
      high = c.next_in.ensures.high;
      before = subst (λ (rules : List TextRule). NoHits rules c.args.text.now c.args.from c.next_in.result) c.self.view_is (no_hits (rules_seen kept) (shorter_seen kept) c.self.inside.firsts c.args.text.now c.args.from c.next_in.result c.self.invariant c.next_in.ensures.before);
    }

pub returns-in-None-clause-start : goal.returns-in-None-clause-start
returns-in-None-clause-start c =
    let kept = c.self.inside.rules in
    let text = c.args.text.now in
    let hay = length (take (length text - c.args.from) (drop c.args.from text)) in
    let long : hay ≡ length text - c.args.from = omega (arith, length-take (length text - c.args.from) (drop c.args.from text), length-drop c.args.from text) in
    record {
      low = c.requires;
      high = omega arith;
      before = subst (λ (rules : List TextRule). NoHits rules text c.args.from (length text)) c.self.view_is (alone_none (rules_seen kept) text c.source.result.now c.args.from (hay + 1) (length text) (omega (arith, c.len.ensures, c.if-len-ne1.false, seen_length kept)) c.source.ensures c.requires (omega arith) (omega (arith, long)) c.in-None.ensures);
    }

pub returns-in-Some-clause-start : goal.returns-in-Some-clause-start
returns-in-Some-clause-start c =
    let kept = c.self.inside.rules in
    let text = c.args.text.now in
    let hay = length (take (length text - c.args.from) (drop c.args.from text)) in
    let long : hay ≡ length text - c.args.from = omega (arith, length-take (length text - c.args.from) (drop c.args.from text), length-drop c.args.from text) in
    let found = c.in-Some.ensures.0 in
    let high : c.args.from + c.in-Some.at ≤ length text = omega (arith, long, found.high, c.requires) in
    record {
      low = omega arith;
      high = high;
      before = subst (λ (rules : List TextRule). NoHits rules text c.args.from (c.args.from + c.in-Some.at)) c.self.view_is (alone_none (rules_seen kept) text c.source.result.now c.args.from c.in-Some.at (c.args.from + c.in-Some.at) (omega (arith, c.len.ensures, c.if-len-ne1.false, seen_length kept)) c.source.ensures c.requires high (omega arith) found.before);
    }
