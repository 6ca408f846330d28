-- Finite maps under texts, and what a change of one text leaves.
use Rattle.std.proofs.Common.{◌≢◌, cond, false, ◌≡◌, Some, None, ap, ◌∙◌, rules, arith}
use Rattle.std.specs.Ordering.{nat_cmp, eq_by_cmp}
use Rattle.std.proofs.lemmas.Cmp.{nat_list_cmp_total}
use Rattle.std.specs.FinMap as fin
use Rattle.std.specs.FinMap.{FinMap, gets, same_map, slice_cmp-IsAntisymmetric, nat_cmp-IsAntisymmetric}
use Rattle.std.proofs.lemmas.Bool.{false_from_ne_true}
use Rattle.std.proofs.lemmas.Map.Text.{is_eq-slice_cmp}
use Rattle.std.proofs.lemmas.Slice.Eq.{bytes_eq-Decides}
use Rattle.std.specs.Cmp.Lexicographic.{slice_cmp}
use Rattle.desk_base.specs.Names.{Text}

-- a map under texts
abbrev pub Texts : Type 0 → Type 0
Texts X = FinMap (slice_cmp nat_cmp) X

pub same_texts : {X : Type 0} (m n : Texts X) → ((q : Text) → fin.get m q ≡ fin.get n q) → m ≡ n
same_texts m n h = same_map nat_list_cmp_total (slice_cmp-IsAntisymmetric nat_cmp-IsAntisymmetric) m n h

pub text_differs : (q p : Text) → q ≢ p → eq_by_cmp (slice_cmp nat_cmp) q p ≡ false
text_differs q p apart = is_eq-slice_cmp q p ∙ false_from_ne_true _ (λ e. apart (grind (arith, bytes_eq-Decides q p, e)))

pub get-insert-same : {X : Type 0} (m : Texts X) (p : Text) (x : X) → fin.get (fin.insert m p x) p ≡ Some x
get-insert-same m p x = grind (gets, rules)

pub get-insert-other : {X : Type 0} (m : Texts X) (p : Text) (x : X) (other : Text) → other ≢ p → fin.get (fin.insert m p x) other ≡ fin.get m other
get-insert-other m p x other apart =
    fin.get-insert nat_list_cmp_total m p x other ∙ ap (λ b. cond b (Some x) (fin.get m other)) (text_differs other p apart)

pub get-remove-same : {X : Type 0} (m : Texts X) (p : Text) → fin.get (fin.remove m p) p ≡ None
get-remove-same m p = grind (gets, rules)

pub get-remove-other : {X : Type 0} (m : Texts X) (p other : Text) → other ≢ p → fin.get (fin.remove m p) other ≡ fin.get m other
get-remove-other m p other apart =
    fin.get-remove nat_list_cmp_total m p other ∙ ap (λ b. cond b None (fin.get m other)) (text_differs other p apart)

pub insert-insert : {X : Type 0} (m : Texts X) (p : Text) (x y : X) → fin.insert (fin.insert m p x) p y ≡ fin.insert m p y
insert-insert m p x y = same_texts _ _ (λ q. grind (gets, rules))

pub insert-remove : {X : Type 0} (m : Texts X) (p : Text) (x : X) → fin.insert (fin.remove m p) p x ≡ fin.insert m p x
insert-remove m p x = same_texts _ _ (λ q. grind (gets, rules))

pub remove-insert : {X : Type 0} (m : Texts X) (p : Text) (x : X) → fin.remove (fin.insert m p x) p ≡ fin.remove m p
remove-insert m p x = same_texts _ _ (λ q. grind (gets, rules))
