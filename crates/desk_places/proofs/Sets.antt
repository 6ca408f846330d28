-- What nodes hold as they are filled.
use Rattle.std.proofs.Common.{◌≡◌, Bool, true, ◌||◌, ◌&&◌, List, [], ◌∷◌, refl, sym, ap, ◌∙◌, cond, nat_eq}
use Rattle.std.specs.declared.cmp.Ordering.{Ordering}
use Rattle.std.specs.List.{list_any}
use Rattle.std.specs.Ordering.{is_eq, nat_cmp, ordering_then}
use Rattle.std.specs.BTreeSet.{BTreeSet, Updates}
use Rattle.std.proofs.lemmas.Cmp.{nat_eq_equiv}
use Rattle.desk_base.proofs.Bools.{cond_or}
use Rattle.desk_base.proofs.Orderings.{is_eq-nat_cmp, is_eq-then}
use Rattle.desk_places.specs.declared.places.Node.{Node}
use Rattle.desk_places.specs.Places.{holds, same_node}

-- by device, then by inode
abbrev pub order : Node → Node → Ordering
order = λ a b. ordering_then (nat_cmp a.device b.device) (nat_cmp a.inode b.inode)

same_by_order : (a b : Node) → is_eq (order a b) ≡ same_node a b
same_by_order a b =
    is_eq-then (nat_cmp a.device b.device) (nat_cmp a.inode b.inode)
    ∙ ap (λ v. v && is_eq (nat_cmp a.inode b.inode)) (is_eq-nat_cmp a.device b.device)
    ∙ ap (λ v. nat_eq a.device b.device && v) (is_eq-nat_cmp a.inode b.inode)

same_turned : (a b : Node) → same_node a b ≡ same_node b a
same_turned a b =
    ap (λ v. v && nat_eq a.inode b.inode) (nat_eq_equiv.symm a.device b.device)
    ∙ ap (λ v. nat_eq b.device a.device && v) (nat_eq_equiv.symm a.inode b.inode)

any_same : {X : Type 0} (p q : X → Bool) (xs : List X) → ((x : X) → p x ≡ q x) → list_any p xs ≡ list_any q xs
any_same p q [] h = refl
any_same p q (x ∷ xs) h = ap (λ b. b || list_any p xs) (h x) ∙ ap (λ b. q x || b) (any_same p q xs h)

-- a node was put into a set
pub put_holds : (old new : BTreeSet Node) (node other : Node) → Updates order old new node true → holds new.keys other ≡ (same_node other node || holds old.keys other)
put_holds old new node other u =
    sym (any_same (λ k. is_eq (order other k)) (same_node other) new.keys (same_by_order other))
    ∙ u.0 other
    ∙ ap (λ b. cond b true (list_any (λ k. is_eq (order other k)) old.keys)) (same_by_order node other ∙ same_turned node other)
    ∙ ap (λ b. cond (same_node other node) true b) (any_same (λ k. is_eq (order other k)) (same_node other) old.keys (same_by_order other))
    ∙ cond_or (same_node other node) (holds old.keys other)
