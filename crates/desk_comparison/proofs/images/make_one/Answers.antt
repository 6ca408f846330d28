use Rattle.std.proofs.Common.{rules, ◌∙◌, ap}
use Rattle.std.specs.BTreeMap.{insert_entry}
use Rattle.std.specs.Cmp.Lexicographic.{slice_cmp}
use Rattle.std.specs.Ordering.{nat_cmp}
use Rattle.desk_comparison.proofs.Notes.{makes_kept}
use Rattle.desk_comparison.proofs.images.make_one.Goals as goal

pub returns-then-unchanged-clause-ok : goal.returns-then-unchanged-clause-ok
returns-then-unchanged-clause-ok c =
    makes_kept c.args.graph.now.rules c.args.graph.now.defined c.args.noted.file c.args.made.now c.accept.new.self c.requires.routed (c.requires.noted c.if-unchanged.true) (search rules)
    (c.in_ok-accept.ensures.images ∙ ap (insert_entry (slice_cmp nat_cmp) c.args.made.now.images.entries c.args.noted.file.route.target) c.into_text.ensures.text)
    c.in_ok-accept.ensures.lines c.in_ok-accept.ensures.refused
