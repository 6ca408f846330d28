use Rattle.std.proofs.Common.{◌≡◌, ◌-◌, refl, ap, length, arith}
use Rattle.desk_patterns.specs.TextRules.{source_at}
use Rattle.desk_patterns.specs.Tables.{shared}
use Rattle.desk_patterns.specs.Seen.{rules_seen, shorter_seen}
use Rattle.desk_patterns.proofs.Starts.{starts_self}
use Rattle.desk_patterns.proofs.Tables.{walk_ends, walk_more, walk_falls}
use Rattle.desk_patterns.proofs.Kept.{seen_length}
use Rattle.desk_patterns.proofs.text_rules.last_start.Goals as goal

pub loop-place-init : goal.loop-place-init
loop-place-init c = record {
  within = omega arith;
  same = refl;
  inner = λ some. starts_self (source_at (rules_seen c.args.rules.now) (c.args.cut.count - 1));
}

pub loop-place-smaller : goal.loop-place-smaller
loop-place-smaller c =
    walk_falls (rules_seen c.args.rules.now) (shorter_seen c.args.rules.now) c.loop-place.place c.shorter-place.result c.requires.table (omega (arith, c.loop-place.invariant.within, c.requires.within, seen_length c.args.rules.now)) c.loop-place-test.true c.shorter-place.ensures

pub returns-then-source-cut-clause-last : goal.returns-then-source-cut-clause-last
returns-then-source-cut-clause-last c =
    let rules = rules_seen c.args.rules.now in
    let front : c.args.cut.shared ≡ shared (source_at rules (c.args.cut.count - 1)) c.args.text.now = c.requires.shared.some (omega (arith, c.loop-place.invariant.within, c.loop-place-test.true)) in
    walk_ends rules c.args.text.now c.args.cut.count c.loop-place.place c.loop-place.invariant c.loop-place-test.true
    (omega (arith, ap length c.source.ensures, c.if-source-cut.true, front))

pub loop-place-preserved : goal.loop-place-preserved
loop-place-preserved c =
    let rules = rules_seen c.args.rules.now in
    let front : c.args.cut.shared ≡ shared (source_at rules (c.args.cut.count - 1)) c.args.text.now = c.requires.shared.some (omega (arith, c.loop-place.invariant.within, c.loop-place-test.true)) in
    walk_more rules (shorter_seen c.args.rules.now) c.args.text.now c.args.cut.count c.loop-place.place c.shorter-place.result c.requires.table (omega (arith, c.requires.within, seen_length c.args.rules.now)) c.requires.not_behind c.loop-place.invariant c.loop-place-test.true
    (omega (arith, ap length c.source.ensures, c.if-source-cut.false, front))
    c.shorter-place.ensures
