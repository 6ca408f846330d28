use Rattle.std.proofs.Common.{[], ◌∷◌, ◌++◌, sym, subst, ◌∙◌, ap, ◌≡◌, true, rules, List}
use Rattle.std.specs.List.{list_all}
use Rattle.std.specs.List.Sorted.{IsStrictlySortedBy}
use Rattle.std.specs.Ordering.{nat_cmp}
use Rattle.std.specs.Cmp.Lexicographic.{slice_cmp}
use Rattle.desk_base.specs.Names.{Text}
use Rattle.desk_base.specs.Paths.{is_relative_path}
use Rattle.desk_base.proofs.Orderings.{none_sorted}
use Rattle.desk_disk.proofs.Rising.{rising_push, relative_push}
use Rattle.desk_disk.proofs.walk.first_of.Goals as goal

pub loop-path-init : goal.loop-path-init
loop-path-init c = record {
  taken = search rules;
  rising = subst (IsStrictlySortedBy (slice_cmp nat_cmp)) (sym c.empty-paths.ensures) (none_sorted (slice_cmp nat_cmp));
  relative = ap (list_all is_relative_path) c.empty-paths.ensures;
}

pub loop-path-preserved : goal.loop-path-preserved
loop-path-preserved c =
    let behind : c.is_behind.result ≡ true = search rules in
    let path : is_relative_path c.in-Some.path ≡ true = search rules in
    record {
      taken = c.in_ok-push.ensures.ok ∙ ap (λ (xs : List Text). xs ++ c.in-Some.path ∷ []) c.loop-path.invariant.taken;
      rising = subst (IsStrictlySortedBy (slice_cmp nat_cmp)) (sym c.in_ok-push.ensures.ok)
          (rising_push c.loop-path.paths c.in-Some.path c.loop-path.invariant.rising (rw c.as_slice.ensures at (c.is_behind.ensures.0 behind)));
      relative = ap (list_all is_relative_path) c.in_ok-push.ensures.ok ∙ relative_push c.loop-path.paths c.in-Some.path c.loop-path.invariant.relative path;
    }
