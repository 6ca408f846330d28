use Rattle.std.proofs.Common.{◌<◌, List, length, ap, sym, ◌∙◌, arith}
use Rattle.desk_base.specs.Names.{Text}
use Rattle.desk_patterns.specs.Tables.{target_at}
use Rattle.desk_patterns.specs.Seen.{KeptRule, rules_seen}
use Rattle.desk_patterns.specs.Parts.{IsPart, text_between}
use Rattle.desk_patterns.proofs.Parts.{part_there, part_target, parts_length}
use Rattle.desk_patterns.proofs.kept_rules.KeptRules.target.Goals as goal

pub slice_bounds-result-count : goal.slice_bounds-result-count
slice_bounds-result-count c =
    let inside : c.args.place < length c.self.inside.parts.items = omega (arith, c.requires, parts_length c.self.inside.texts.items c.self.inside.parts.items, ap length c.self.view_is) in
    let part : IsPart c.self.inside.texts.items c.index-part.result.now.start c.index-part.result.now.middle c.index-part.result.now.end = part_there c.self.inside.texts.items c.self.inside.parts.items c.args.place c.index-part.result.now c.self.invariant inside c.index-part.ensures in
    omega (arith, part.source, part.target)

pub slice_bounds-result-start : goal.slice_bounds-result-start
slice_bounds-result-start c =
    let inside : c.args.place < length c.self.inside.parts.items = omega (arith, c.requires, parts_length c.self.inside.texts.items c.self.inside.parts.items, ap length c.self.view_is) in
    let part : IsPart c.self.inside.texts.items c.index-part.result.now.start c.index-part.result.now.middle c.index-part.result.now.end = part_there c.self.inside.texts.items c.self.inside.parts.items c.args.place c.index-part.result.now c.self.invariant inside c.index-part.ensures in
    omega (arith, part.source, part.target, part.within, c.deref.ensures.len, c.self.inside.texts.ok.0, ap length c.deref.ensures.value)

pub slice_bounds-result-end : goal.slice_bounds-result-end
slice_bounds-result-end c =
    let inside : c.args.place < length c.self.inside.parts.items = omega (arith, c.requires, parts_length c.self.inside.texts.items c.self.inside.parts.items, ap length c.self.view_is) in
    let part : IsPart c.self.inside.texts.items c.index-part.result.now.start c.index-part.result.now.middle c.index-part.result.now.end = part_there c.self.inside.texts.items c.self.inside.parts.items c.args.place c.index-part.result.now c.self.invariant inside c.index-part.ensures in
    omega (arith, part.source, part.target, part.within, c.deref.ensures.len, c.self.inside.texts.ok.0, ap length c.deref.ensures.value)

pub returns : goal.returns
returns c =
    let inside : c.args.place < length c.self.inside.parts.items = omega (arith, c.requires, parts_length c.self.inside.texts.items c.self.inside.parts.items, ap length c.self.view_is) in
    let part = c.index-part.result.now in
    ap (λ (t : Text). text_between t part.middle part.end) c.deref.ensures.value
    ∙ sym (part_target c.self.inside.texts.items c.self.inside.parts.items c.args.place part inside c.index-part.ensures)
    ∙ ap (λ (rules : List KeptRule). target_at (rules_seen rules) c.args.place) c.self.view_is
