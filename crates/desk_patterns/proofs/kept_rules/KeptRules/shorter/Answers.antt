use Rattle.std.proofs.Common.{◌<◌, List, length, slice_index, ap, sym, ◌∙◌, arith}
use Rattle.desk_patterns.specs.Seen.{KeptRule, shorter_seen}
use Rattle.desk_patterns.proofs.Parts.{part_shorter, parts_length}
use Rattle.desk_patterns.proofs.kept_rules.KeptRules.shorter.Goals as goal

pub returns : goal.returns
returns c =
    let inside : c.args.place < length c.self.inside.parts.items = omega (arith, c.requires, parts_length c.self.inside.texts.items c.self.inside.parts.items, ap length c.self.view_is) in
    sym (part_shorter c.self.inside.texts.items c.self.inside.parts.items c.args.place c.index.result.now inside c.index.ensures)
    ∙ ap (λ (rules : List KeptRule). slice_index (shorter_seen rules) c.args.place) c.self.view_is
