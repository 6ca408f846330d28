use Rattle.std.proofs.Common.{◌≤◌, min, ap, sym, ◌∙◌, arith}
use Rattle.desk_base.specs.Names.{Text}
use Rattle.desk_patterns.specs.TextRules.{source_at}
use Rattle.desk_patterns.specs.Tables.{shared, is_behind}
use Rattle.desk_patterns.specs.Seen.{rules_seen}
use Rattle.desk_patterns.proofs.Cuts.{known_between, narrow_none, narrow_down, narrow_up}
use Rattle.desk_patterns.proofs.Kept.{seen_length}
use Rattle.desk_patterns.proofs.sources.find_cut.Goals as goal

pub loop-low-init : goal.loop-low-init
loop-low-init c = narrow_none (rules_seen c.args.rules.now) c.args.text.now _ (omega (arith, c.len-high.ensures, seen_length c.args.rules.now))

pub source-source-requires : goal.source-source-requires
source-source-requires c = omega (arith, c.next_compared-middle.ensures.high, c.loop-low.invariant.cut.within, seen_length c.args.rules.now)

pub count_shared-shared-requires : goal.count_shared-shared-requires
count_shared-shared-requires c =
    let rules = rules_seen c.args.rules.now in
    let middle = c.next_compared-middle.result in
    let known : min c.loop-low.low_shared c.loop-low.high_shared ≤ shared (source_at rules middle) c.args.text.now = known_between rules c.args.text.now c.loop-low.low middle c.loop-low.high c.loop-low.low_shared c.loop-low.high_shared c.requires c.next_compared-middle.ensures.low c.next_compared-middle.ensures.high c.loop-low.invariant.cut.within c.loop-low.invariant.before_is c.loop-low.invariant.at_is in
    omega (arith, known, c.min.ensures, ap (λ (s : Text). shared s c.args.text.now) c.source-source.ensures)

pub loop-low-preserved-then-stands_behind : goal.loop-low-preserved-then-stands_behind
loop-low-preserved-then-stands_behind c =
    let rules = rules_seen c.args.rules.now in
    let text = c.args.text.now in
    narrow_down rules text c.loop-low.low c.loop-low.high c.loop-low.low_shared c.loop-low.high_shared c.next_compared-middle.result c.count_shared-shared.result c.requires c.loop-low.invariant c.next_compared-middle.ensures.low c.next_compared-middle.ensures.high
    (c.count_shared-shared.ensures ∙ ap (λ (s : Text). shared s text) c.source-source.ensures)
    (ap (is_behind text) (sym c.source-source.ensures) ∙ sym c.stands_behind.ensures ∙ c.if-stands_behind.true)

pub loop-low-preserved : goal.loop-low-preserved
loop-low-preserved c =
    let rules = rules_seen c.args.rules.now in
    let text = c.args.text.now in
    narrow_up rules text c.loop-low.low c.loop-low.high c.loop-low.low_shared c.loop-low.high_shared c.next_compared-middle.result c.count_shared-shared.result c.requires c.loop-low.invariant c.next_compared-middle.ensures.high
    (c.count_shared-shared.ensures ∙ ap (λ (s : Text). shared s text) c.source-source.ensures)
    (ap (is_behind text) (sym c.source-source.ensures) ∙ sym c.stands_behind.ensures ∙ c.if-stands_behind.false)
