use Rattle.std.proofs.Common.{◌≡◌, ◌∙◌, ap, rules}
use Rattle.desk_patterns.specs.Selections.{selects}
use Rattle.desk_paths.specs.Kinds.{kind_of}
use Rattle.desk_paths.specs.Paths.{target}
use Rattle.desk_file.proofs.Treating.{routed}
use Rattle.desk_file.proofs.routes.route_of.Goals as goal

pub returns-clause-route : goal.returns-clause-route
returns-clause-route c =
    let copied : c.in_ok-target-2.target ≡ c.in_ok-target.target = search rules in
    let cut = c.of-cut.ensures ∙ c.as_bytes-2.ensures in
    routed c.args.rules.now c.args.path c.in_ok-target-2.target c.selected-selected.result c.kind.result c.treatment_by-treatment.result
    (c.selected-selected.ensures ∙ ap (selects c.args.rules.now.selection) c.as_bytes.ensures)
    (c.kind.ensures ∙ ap kind_of cut)
    (copied ∙ c.in_ok-target.ensures.target ∙ ap (target c.args.rules.now) cut)
    c.treatment_by-treatment.ensures
