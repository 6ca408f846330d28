use Rattle.std.proofs.Common.{◌-◌, ◌<◌, ap, sym, ◌∙◌, arith}
use Rattle.desk_base.specs.Names.{Text}
use Rattle.desk_patterns.specs.Tables.{target_at}
use Rattle.desk_patterns.specs.Seen.{rules_seen}
use Rattle.desk_patterns.proofs.Tables.{last_of_cut, longest_none, longest_is, hit_with}
use Rattle.desk_patterns.proofs.text_rules.longest_of.Goals as goal

pub returns-then-place-eq0 : goal.returns-then-place-eq0
returns-then-place-eq0 c =
    let rules = rules_seen c.args.rules.now in
    sym (longest_none c.args.text.now rules (last_of_cut c.args.text.now rules c.find_cut.result.count c.find_cut.ensures.cut ∙ sym c.last_start-place.ensures.last ∙ c.if-place-eq0.true))

pub returns : goal.returns
unfolding hit_with
returns c =
    let rules = rules_seen c.args.rules.now in
    let place = c.last_start-place.result in
    let some : 0 < place = omega (arith, c.if-place-eq0.false) in
    sym (longest_is c.args.text.now rules place c.requires.rising (c.last_start-place.ensures.last ∙ sym (last_of_cut c.args.text.now rules c.find_cut.result.count c.find_cut.ensures.cut)) some
    ∙ ap (λ (s : Text). hit_with s (target_at rules (place - 1))) (sym c.source.ensures)
    ∙ ap (hit_with c.source.result.now) (sym c.target.ensures))
