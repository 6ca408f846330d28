use Rattle.std.proofs.Common.{◌≡◌, ap, sym, ◌∙◌, List, [], ◌∷◌, ◌++◌, subst, slice_index, arith}
use Rattle.std.specs.Ordering.{is_gt}
use Rattle.desk_base.specs.Names.{Text}
use Rattle.desk_patterns.specs.TextRules.{TextRule, StandsBehind, source_at}
use Rattle.desk_patterns.specs.Tables.{last_start, is_behind}
use Rattle.desk_patterns.specs.Seen.{rules_seen}
use Rattle.desk_patterns.proofs.Kept.{kept_more, seen_length}
use Rattle.desk_patterns.proofs.text_rules.TextRules.push.Goals as goal

pub invariant_of-self-2 : goal.invariant_of-self-2
invariant_of-self-2 c =
    let kept = c.self.inside.rules in
    let source = c.args.source in
    let read : c.as_bytes-source.result.now ≡ source = c.as_bytes-source.ensures in
    kept_more kept c.push.new.self c.self.inside.firsts c.add.new.self source c.args.target c.last_start-shorter.result (slice_index c.as_bytes-source.result.now 0) c.last_cut-cut.result.count
    c.self.invariant c.requires.some
    (subst (λ (rules : List TextRule). StandsBehind rules source) (sym c.self.view_is) c.requires.behind)
    c.last_cut-cut.ensures.count
    (c.last_start-shorter.ensures.last ∙ ap (λ (t : Text). last_start t (rules_seen kept) c.last_cut-cut.result.count) read)
    (ap (λ (t : Text). slice_index t 0) read)
    c.add.ensures.added c.add.ensures.there
    (c.in_ok-push.ensures.ok
    ∙ ap (λ (t : Text). kept ++ record { source = t; target = c.as_bytes.result.now; shorter = c.last_start-shorter.result } ∷ []) read
    ∙ ap (λ (t : Text). kept ++ record { source = source; target = t; shorter = c.last_start-shorter.result } ∷ []) c.as_bytes.ensures)

pub last_start-shorter-requires-clause-not_behind : goal.last_start-shorter-requires-clause-not_behind
last_start-shorter-requires-clause-not_behind c =
    let kept = c.self.inside.rules in
    let behind : StandsBehind (rules_seen kept) c.args.source = subst (λ (rules : List TextRule). StandsBehind rules c.args.source) (sym c.self.view_is) c.requires.behind in
    λ k h. ap (λ (t : Text). is_behind t (source_at (rules_seen kept) k)) c.as_bytes-source.ensures ∙ ap is_gt (behind k (omega (arith, h, c.last_cut-cut.ensures.count, seen_length kept)))
