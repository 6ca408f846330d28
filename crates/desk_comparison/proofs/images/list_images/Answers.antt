use Rattle.std.proofs.Common.{All, ◌∙◌, map, map-id, sym, ap, subst}
use Rattle.std.specs.Cmp.Lexicographic.{slice_cmp}
use Rattle.std.specs.List.Sorted.{IsStrictlySortedBy}
use Rattle.std.specs.Ordering.{nat_cmp}
use Rattle.std.proofs.lemmas.Map.Iter.{iter_end}
use Rattle.desk_compare.specs.Verdicts.{IsShort, paths_of}
use Rattle.desk_comparison.specs.Images.{as_file}
use Rattle.desk_comparison.proofs.Makes.{paths_listed, short_listed}
use Rattle.desk_comparison.proofs.images.list_images.Goals as goal

pub returns-clause-rising : goal.returns-clause-rising
returns-clause-rising c =
    let end = iter_end (λ x. x) c.args.images.entries c.loop-path.yielded c.into_iter-path-iterator.result c.loop-path.path-iterator c.next.new.self c.next.result c.into_iter-path-iterator.ensures.into_iter_gives.0 c.loop-path.yielded_by c.in-None.is c.next.ensures.steps in
    let all = c.loop-path.invariant ∙ ap (map as_file) (sym (map-id c.loop-path.yielded) ∙ end.0) in
    subst (IsStrictlySortedBy (slice_cmp nat_cmp)) (sym (ap paths_of all ∙ paths_listed c.args.images.entries)) c.into_iter-path-iterator.ensures.into_iter_gives.5

pub returns-clause-short : goal.returns-clause-short
returns-clause-short c =
    let end = iter_end (λ x. x) c.args.images.entries c.loop-path.yielded c.into_iter-path-iterator.result c.loop-path.path-iterator c.next.new.self c.next.result c.into_iter-path-iterator.ensures.into_iter_gives.0 c.loop-path.yielded_by c.in-None.is c.next.ensures.steps in
    let all = c.loop-path.invariant ∙ ap (map as_file) (sym (map-id c.loop-path.yielded) ∙ end.0) in
    subst (All IsShort) (sym all) (short_listed c.args.images.entries c.requires)
