-- The order of marked texts is total, and ties no two texts.
use mathlib.Core.Bool.{true≢false}
use Rattle.std.proofs.Common.{◌≡◌, true, ◌==◌, sym, ap, subst, ◌∙◌}
use Rattle.std.specs.Str.{bytes_eq}
use Rattle.std.specs.Cmp.{IsTotalOrder, IsPartialOrder, on_total, po, tied_itself}
use Rattle.std.specs.Cmp.Lexicographic.{slice_cmp, pointwise, bytes_decides}
use Rattle.std.specs.declared.cmp.Ordering.{Ordering}
use Rattle.std.specs.declared.cmp.Ordering.TheVariants.{Less, Equal, Greater}
use Rattle.std.specs.Ordering.{nat_cmp, is_eq, eq_by_cmp, ordering_then, as_partial_cmp}
use Rattle.std.proofs.lemmas.Cmp.{nat_cmp_total, nat_list_cmp_total, then_total}
use Rattle.std.proofs.lemmas.Map.Text.{is_eq-slice_cmp}
use Rattle.std.proofs.lemmas.Slice.Eq.{bytes_eq-Decides}
use Rattle.desk_base.specs.Names.{Text}
use Rattle.desk_base.proofs.Bools.{same_answer}
use Rattle.desk_class.specs.Marks.{mark, marked_cmp}

pub marked_total : IsTotalOrder marked_cmp
marked_total = then_total (on_total mark nat_cmp_total) nat_list_cmp_total

-- texts that the order doesn't tell apart are one text
pub same_of_tie : (x y : Text) → eq_by_cmp marked_cmp x y ≡ true → x ≡ y
same_of_tie x y e = by (nat_cmp (mark x) (mark y)) e
  where
    by : (o : Ordering) → is_eq (ordering_then o (slice_cmp nat_cmp x y)) ≡ true → x ≡ y
    by Less h = absurd (true≢false (sym h))
    by Equal h = (bytes_eq-Decides x y).0 (sym (is_eq-slice_cmp x y) ∙ h)
    by Greater h = absurd (true≢false (sym h))

pub tie_of_same : (x y : Text) → x ≡ y → eq_by_cmp marked_cmp x y ≡ true
tie_of_same x y same = subst (λ (z : Text). eq_by_cmp marked_cmp x z ≡ true) same (ap is_eq (tied_itself marked_total x))

pub marked_tie : (x y : Text) → eq_by_cmp marked_cmp x y ≡ bytes_eq x y
marked_tie x y = same_answer (eq_by_cmp marked_cmp x y) (bytes_eq x y) (λ e. (bytes_eq-Decides x y).1 (same_of_tie x y e)) (λ e. tie_of_same x y ((bytes_eq-Decides x y).0 e))

pub marked_ties : (x y : Text) → pointwise ◌==◌ x y ≡ eq_by_cmp marked_cmp x y
marked_ties x y = same_answer (pointwise ◌==◌ x y) (eq_by_cmp marked_cmp x y) (λ e. tie_of_same x y ((bytes_decides x y).0 e)) (λ e. (bytes_decides x y).1 (same_of_tie x y e))

pub marked_partial : IsPartialOrder (pointwise ◌==◌) (as_partial_cmp marked_cmp)
marked_partial = po marked_total marked_ties
