-- Names that are put in byte order.
use Rattle.std.proofs.Common.{◌≡◌, ◌↔◌, ◌⊎◌, inl, inr, List, [], ◌∷◌, ◌++◌, refl, sym, ap, subst, ◌∙◌}
use Rattle.std.specs.List.{AllByRecursion, Contains}
use Rattle.std.specs.List.Sorted.{IsStrictlySortedBy}
use Rattle.std.specs.declared.cmp.Ordering.{Ordering}
use Rattle.std.specs.declared.cmp.Ordering.TheVariants.{Less, Equal, Greater}
use Rattle.std.specs.Ordering.{nat_cmp, ordering_reverse, match_ordering}
use Rattle.std.specs.Cmp.{IsTotalOrder}
use Rattle.std.specs.Cmp.Lexicographic.{slice_cmp}
use Rattle.std.specs.BTreeSet.{insert_key}
use Rattle.std.specs.FinMap.{slice_cmp-IsAntisymmetric, nat_cmp-IsAntisymmetric}
use Rattle.std.proofs.lemmas.Cmp.{nat_list_cmp_total, tied_itself}
use Rattle.desk_base.specs.Names.{Text}
use Rattle.desk_base.proofs.Orderings.{none_sorted}
use Rattle.desk_packages.proofs.Picks.{In}
use Rattle.desk_packages.proofs.Searched.{in_at, at_in}
use Rattle.desk_class.specs.Held.{put_all, ascending}

abbrev cmp : Text → Text → Ordering
cmp = slice_cmp nat_cmp

-- ---- one of a list

pub from_contains : {A : Type 0} (xs : List A) (x : A) → Contains xs x → In xs x
from_contains xs x c = subst (In xs) c.2 (at_in xs c.0 x c.1)

pub to_contains : {A : Type 0} (xs : List A) (x : A) → In xs x → Contains xs x
to_contains xs x h = let a = in_at xs x h in (a.0, a.1, a.2 x)

pub in_front : {A : Type 0} (xs ys : List A) (x : A) → In xs x → In (xs ++ ys) x
in_front [] ys x h = absurd h
in_front (y ∷ xs) ys x (inl e) = inl e
in_front (y ∷ xs) ys x (inr h) = inr (in_front xs ys x h)

pub in_back : {A : Type 0} (xs ys : List A) (x : A) → In ys x → In (xs ++ ys) x
in_back [] ys x h = h
in_back (y ∷ xs) ys x h = inr (in_back xs ys x h)

pub in_either : {A : Type 0} (xs ys : List A) (x : A) → In (xs ++ ys) x → In xs x ⊎ In ys x
in_either [] ys x h = inr h
in_either (y ∷ xs) ys x (inl e) = inl (inl e)
in_either (y ∷ xs) ys x (inr h) = elim (in_either xs ys x h) [ inl f ↦ inl (inr f) | inr b ↦ inr b ]

-- ---- one name that is put

same_from_equal : (x y : Text) → cmp x y ≡ Equal → x ≡ y
same_from_equal x y e = slice_cmp-IsAntisymmetric nat_cmp-IsAntisymmetric x y e

-- what is there stays
put_old : (ks : List Text) (k q : Text) → In ks q → In (insert_key (slice_cmp nat_cmp) ks k) q
put_old [] k q h = absurd h
put_old (x ∷ xs) k q h = elim (slice_cmp nat_cmp k x) as (λ (o : Ordering). In (match_ordering o (k ∷ x ∷ xs) (x ∷ xs) (x ∷ insert_key (slice_cmp nat_cmp) xs k)) q) [
  | Less ↦ inr h
  | Equal ↦ h
  | Greater ↦ elim h [ inl e ↦ inl e | inr b ↦ inr (put_old xs k q b) ]
]

-- what is put is there
put_new : (ks : List Text) (k : Text) → In (insert_key (slice_cmp nat_cmp) ks k) k
put_new [] k = inl refl
put_new (x ∷ xs) k = elim (slice_cmp nat_cmp k x) as (λ (o : Ordering). slice_cmp nat_cmp k x ≡ o → In (match_ordering o (k ∷ x ∷ xs) (x ∷ xs) (x ∷ insert_key (slice_cmp nat_cmp) xs k)) k) [
  | Less ↦ λ e. inl refl
  | Equal ↦ λ e. inl (sym (same_from_equal k x e))
  | Greater ↦ λ e. inr (put_new xs k)
] refl

put_only : (ks : List Text) (k q : Text) → In (insert_key (slice_cmp nat_cmp) ks k) q → In ks q ⊎ (k ≡ q)
put_only [] k q (inl e) = inr e
put_only [] k q (inr h) = absurd h
put_only (x ∷ xs) k q h = elim (slice_cmp nat_cmp k x) as (λ (o : Ordering). In (match_ordering o (k ∷ x ∷ xs) (x ∷ xs) (x ∷ insert_key (slice_cmp nat_cmp) xs k)) q → In (x ∷ xs) q ⊎ (k ≡ q)) [
  | Less ↦ λ h. elim h [ inl e ↦ inr e | inr b ↦ inl b ]
  | Equal ↦ λ h. inl h
  | Greater ↦ λ h. elim h [
    | inl e ↦ inl (inl e)
    | inr b ↦ elim (put_only xs k q b) [ inl c ↦ inl (inr c) | inr e ↦ inr e ]
  ]
] h

all_put : (P : Text → Type 0) (ks : List Text) (k : Text) → AllByRecursion P ks → P k → AllByRecursion P (insert_key (slice_cmp nat_cmp) ks k)
all_put P [] k all one = (one, tt)
all_put P (x ∷ xs) k all one = elim (slice_cmp nat_cmp k x) as (λ (o : Ordering). AllByRecursion P (match_ordering o (k ∷ x ∷ xs) (x ∷ xs) (x ∷ insert_key (slice_cmp nat_cmp) xs k))) [
  | Less ↦ (one, all)
  | Equal ↦ all
  | Greater ↦ (all.0, all_put P xs k all.1 one)
]

all_above : (x y : Text) (ks : List Text) → cmp x y ≡ Less → AllByRecursion (λ z. cmp y z ≡ Less) ks → AllByRecursion (λ z. cmp x z ≡ Less) ks
all_above x y [] less all = tt
all_above x y (z ∷ ks) less all = (nat_list_cmp_total.trans x y z less all.0, all_above x y ks less all.1)

put_sorted : (ks : List Text) (k : Text) → IsStrictlySortedBy (slice_cmp nat_cmp) ks → IsStrictlySortedBy (slice_cmp nat_cmp) (insert_key (slice_cmp nat_cmp) ks k)
unfolding IsStrictlySortedBy
put_sorted [] k h = (tt, tt)
put_sorted (x ∷ xs) k h = elim (slice_cmp nat_cmp k x) as (λ (o : Ordering). slice_cmp nat_cmp k x ≡ o → IsStrictlySortedBy (slice_cmp nat_cmp) (match_ordering o (k ∷ x ∷ xs) (x ∷ xs) (x ∷ insert_key (slice_cmp nat_cmp) xs k))) [
  | Less ↦ λ e. ((e, all_above k x xs e h.0), h)
  | Equal ↦ λ e. h
  | Greater ↦ λ e. (all_put (λ z. cmp x z ≡ Less) xs k h.0 (nat_list_cmp_total.antisymm x k ∙ ap ordering_reverse e), put_sorted xs k h.1)
] refl

-- ---- names that are put

pub put_append : (ks xs ys : List Text) → put_all ks (xs ++ ys) ≡ put_all (put_all ks xs) ys
put_append ks [] ys = refl
put_append ks (x ∷ xs) ys = put_append (insert_key (slice_cmp nat_cmp) ks x) xs ys

puts_old : (ks ts : List Text) (q : Text) → In ks q → In (put_all ks ts) q
puts_old ks [] q h = h
puts_old ks (t ∷ ts) q h = puts_old (insert_key (slice_cmp nat_cmp) ks t) ts q (put_old ks t q h)

puts_new : (ks ts : List Text) (q : Text) → In ts q → In (put_all ks ts) q
puts_new ks [] q h = absurd h
puts_new ks (t ∷ ts) q (inl e) = puts_old (insert_key (slice_cmp nat_cmp) ks t) ts q (subst (In (insert_key (slice_cmp nat_cmp) ks t)) e (put_new ks t))
puts_new ks (t ∷ ts) q (inr h) = puts_new (insert_key (slice_cmp nat_cmp) ks t) ts q h

puts_only : (ks ts : List Text) (q : Text) → In (put_all ks ts) q → In ks q ⊎ In ts q
puts_only ks [] q h = inl h
puts_only ks (t ∷ ts) q h = elim (puts_only (insert_key (slice_cmp nat_cmp) ks t) ts q h) [
  | inl old ↦ elim (put_only ks t q old) [ inl a ↦ inl a | inr e ↦ inr (inl e) ]
  | inr new ↦ inr (inr new)
]

puts_sorted : (ks ts : List Text) → IsStrictlySortedBy (slice_cmp nat_cmp) ks → IsStrictlySortedBy (slice_cmp nat_cmp) (put_all ks ts)
puts_sorted ks [] h = h
puts_sorted ks (t ∷ ts) h = puts_sorted (insert_key (slice_cmp nat_cmp) ks t) ts (put_sorted ks t h)

-- texts in byte order are the same texts
pub in_ascending : (ts : List Text) (q : Text) → In ts q → In (ascending ts) q
in_ascending ts q h = puts_new [] ts q h

pub from_ascending : (ts : List Text) (q : Text) → In (ascending ts) q → In ts q
from_ascending ts q h = elim (puts_only [] ts q h) [ inl none ↦ absurd none | inr h ↦ h ]

pub ascending_sorted : (ts : List Text) → IsStrictlySortedBy (slice_cmp nat_cmp) (ascending ts)
ascending_sorted ts = puts_sorted [] ts (none_sorted (slice_cmp nat_cmp))

-- ---- one ascending list of the same items

module _ {K : Type 0} (R : K → K → Ordering) (total : IsTotalOrder R) where
  pub all_in : (P : K → Type 0) (xs : List K) (q : K) → AllByRecursion P xs → In xs q → P q
  all_in P [] q all h = absurd h
  all_in P (x ∷ xs) q all (inl e) = subst P e all.0
  all_in P (x ∷ xs) q all (inr h) = all_in P xs q all.1 h

  less_itself : (t : K) → R t t ≡ Less → ⊥
  less_itself t less = let tied : R t t ≡ Equal = tied_itself total t in cc (tied, less)

  -- what stands behind the head is another item
  behind : (x : K) (xs : List K) (q : K) → AllByRecursion (λ z. R x z ≡ Less) xs → In xs q → x ≡ q → ⊥
  behind x xs q above h e = less_itself q (ap (λ (t : K). R t q) (sym e) ∙ all_in (λ z. R x z ≡ Less) xs q above h)

  pub same_sorted : (xs ys : List K) → IsStrictlySortedBy R xs → IsStrictlySortedBy R ys → ((q : K) → In xs q → In ys q) → ((q : K) → In ys q → In xs q) → xs ≡ ys
  unfolding IsStrictlySortedBy
  same_sorted [] [] s t f g = refl
  same_sorted [] (y ∷ ys) s t f g = absurd (g y (inl refl))
  same_sorted (x ∷ xs) [] s t f g = absurd (f x (inl refl))
  same_sorted (x ∷ xs) (y ∷ ys) s t f g =
      let head : y ≡ x = heads (f x (inl refl)) (g y (inl refl)) in
      ap (λ (z : K). z ∷ xs) (sym head)
      ∙ ap (λ (zs : List K). y ∷ zs) (same_sorted xs ys s.1 t.1 (λ q h. forth q h head (f q (inr h))) (λ q h. back q h head (g q (inr h))))
    where
      heads : In (y ∷ ys) x → In (x ∷ xs) y → y ≡ x
      heads (inl e) h = e
      heads (inr later) (inl e) = sym e
      heads (inr later) (inr also) =
          absurd (less_itself x (total.trans x y x (all_in (λ z. R x z ≡ Less) xs y s.0 also) (all_in (λ z. R y z ≡ Less) ys x t.0 later)))

      forth : (q : K) → In xs q → y ≡ x → In (y ∷ ys) q → In ys q
      forth q h head (inl e) = absurd (behind x xs q s.0 h (sym head ∙ e))
      forth q h head (inr later) = later

      back : (q : K) → In ys q → y ≡ x → In (x ∷ xs) q → In xs q
      back q h head (inl e) = absurd (behind y ys q t.0 h (head ∙ e))
      back q h head (inr later) = later

-- a list in byte order is that of its texts
pub is_ascending : (xs ts : List Text) → IsStrictlySortedBy (slice_cmp nat_cmp) xs → ((q : Text) → Contains xs q ↔ Contains ts q) → xs ≡ ascending ts
is_ascending xs ts sorted same =
    same_sorted (slice_cmp nat_cmp) nat_list_cmp_total xs (ascending ts) sorted (ascending_sorted ts)
    (λ q h. in_ascending ts q (from_contains ts q ((same q).0 (to_contains xs q h))))
    (λ q h. from_contains xs q ((same q).1 (to_contains ts q (from_ascending ts q h))))
