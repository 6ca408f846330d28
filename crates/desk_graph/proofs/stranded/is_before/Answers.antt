use Rattle.std.proofs.Common.{◌≡◌, ◌∙◌, sym, ap, ℕ, ◌∷◌, refl}
use Rattle.std.specs.Ordering.{nat_cmp, ordering_then, is_lt, MatchOrdering}
use Rattle.std.specs.Cmp.Lexicographic.{slice_cmp}
use Rattle.std.specs.declared.cmp.Ordering.{Ordering}
use Rattle.std.specs.declared.cmp.Ordering.TheVariants.{Less, Equal, Greater}
use Rattle.std.proofs.lemmas.Cmp.{same_from_slice_cmp_tested}
use Rattle.desk_base.specs.Names.{Text}
use Rattle.desk_graph.proofs.stranded.is_before.Goals as goal

more : (x y : ℕ) (s t : Text) (o : Ordering) → o ≡ nat_cmp x y → MatchOrdering o (is_lt (slice_cmp nat_cmp (x ∷ s) (y ∷ t)) ≡ is_lt Less) (is_lt (slice_cmp nat_cmp (x ∷ s) (y ∷ t)) ≡ is_lt (slice_cmp nat_cmp s t)) (is_lt (slice_cmp nat_cmp (x ∷ s) (y ∷ t)) ≡ is_lt Greater)
more x y s t Less e = ap (λ (p : Ordering). is_lt (ordering_then p (slice_cmp nat_cmp s t))) (sym e)
more x y s t Equal e = ap (λ (p : Ordering). is_lt (ordering_then p (slice_cmp nat_cmp s t))) (sym e)
more x y s t Greater e = ap (λ (p : Ordering). is_lt (ordering_then p (slice_cmp nat_cmp s t))) (sym e)

pub returns-in-Equal : goal.returns-in-Equal
returns-in-Equal c =
    same_from_slice_cmp_tested nat_cmp is_lt (λ (s t : Text). is_lt (slice_cmp nat_cmp s t)) refl (λ y t. refl) (λ x s. refl) more c.args.one.name.now c.args.other.name.now c.lt.result c.lt.ensures
    ∙ ap (λ (o : Ordering). is_lt (ordering_then o (slice_cmp nat_cmp c.args.one.name.now c.args.other.name.now))) c.in-Equal.ensures
