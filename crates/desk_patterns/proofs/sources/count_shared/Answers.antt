use Rattle.std.proofs.Common.{drop, arith}
use Rattle.desk_patterns.proofs.Starts.{shared_nothing}
use Rattle.desk_patterns.proofs.Cuts.{shared_rest, shared_within, shared_inside}
use Rattle.desk_patterns.proofs.sources.count_shared.Goals as goal

pub loop-at-init : goal.loop-at-init
loop-at-init c = record {
  within = omega (arith, c.requires, shared_within c.args.source.now c.args.text.now);
  inside = omega (arith, c.requires, shared_inside c.args.source.now c.args.text.now);
  shared_is = shared_rest c.args.source.now c.args.text.now c.args.known c.requires;
}

pub returns-else-at-text : goal.returns-else-at-text
returns-else-at-text c = omega (arith, c.loop-at.invariant.shared_is, shared_nothing (drop c.loop-at.at c.args.source.now) c.args.text.now c.loop-at.at c.if-at-text.false)
