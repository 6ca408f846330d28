-- A body with a new index at each use, from its front to its end.
use Rattle.std.proofs.Common.{◌≡◌, ℕ, ◌+◌, ◌-◌, ◌<◌, ◌≤◌, List, [], ◌∷◌, ◌++◌, length, get_or, take, drop, refl, ap, sym, ◌∙◌, subst, arith, Option, None, Some, Bool, true, false, cond, ◌&&◌, nat_eq}
use Rattle.std.proofs.lemmas.List.{append_assoc, length-append, take_at, drop_at, drop_more}
use Rattle.desk_base.specs.declared.kinds.Used.{Used}
use Rattle.desk_base.specs.declared.referents.Referent.{Referent}
use Rattle.desk_base.specs.declared.referents.Referent.TheVariants as referents
use Rattle.desk_base.specs.Referents.{referent_of, may_be_none}
use Rattle.desk_format.specs.Trees.{Tree, Use, uses, uses_of, text_use, text_in_role, print, IsPlaced}
use Rattle.desk_format.specs.PoolBytes.{two}
use Rattle.desk_format.specs.Exchange.{put_two, patch}
use Rattle.desk_new_pool.specs.Printing.{Stands}

-- ---- bytes that go on

skip_by : (at n : ℕ) (bytes more : List ℕ) (us : List Used) → length bytes ≡ n → Stands (at + n) more us → Stands at (bytes ++ more) us
skip_by at n bytes more [] e h = tt
skip_by at n bytes more (u ∷ us) e h =
    let front : List ℕ = bytes ++ h.0 in
    let size : length (bytes ++ h.0) ≡ n + length h.0 = length-append bytes h.0 ∙ ap (λ (m : ℕ). m + length h.0) e in (
      bytes ++ h.0,
      (
        h.1.0,
        (
          ap (λ (l : List ℕ). bytes ++ l) h.1.1.0 ∙ sym (append_assoc bytes h.0 (two u.index ++ h.1.0)),
          (omega (arith, h.1.1.1.0), subst (λ (m : ℕ). Stands m h.1.0 us) (omega arith) h.1.1.1.1),
        ),
      ),
    )

pub skip : (at : ℕ) (bytes more : List ℕ) (us : List Used) → Stands (at + length bytes) more us → Stands at (bytes ++ more) us
skip at bytes more us h = skip_by at (length bytes) bytes more us refl h

put_at : (i n m : ℕ) (front rest : List ℕ) → length front ≡ i → put_two i n (front ++ (two m ++ rest)) ≡ front ++ (two n ++ rest)
put_at i n m front rest e =
    let behind : drop (i + 2) (front ++ (two m ++ rest)) ≡ rest =
    ap (drop (i + 2)) (sym (append_assoc front (two m) rest)) ∙ drop_at (front ++ two m) rest (i + 2) (length-append front (two m) ∙ ap (λ (k : ℕ). k + 2) e) in
    ap (λ (l : List ℕ). (l ++ two n) ++ drop (i + 2) (front ++ (two m ++ rest))) (take_at front (two m ++ rest) i e) ∙ ap (λ (l : List ℕ). (front ++ two n) ++ l) behind ∙ append_assoc front (two n) rest

-- Bytes before all uses stay.
patch_front : (g : Used → ℕ) (from at : ℕ) (done bytes : List ℕ) (us : List Used) → from + length done ≡ at → Stands at bytes us → patch g from us (done ++ bytes) ≡ done ++ patch g at us bytes
patch_front g from at done bytes [] e h = refl
patch_front g from at done bytes (u ∷ us) e h =
    let front : List ℕ = h.0 in
    let rest : List ℕ = h.1.0 in
    let place : u.at ≡ at + length h.0 = h.1.1.1.0 in
    let size : length (done ++ h.0) ≡ length done + length h.0 = length-append done h.0 in
    let outer : put_two (u.at - from) (g u) (done ++ bytes) ≡ done ++ (h.0 ++ (two (g u) ++ h.1.0)) =
    ap (λ (l : List ℕ). put_two (u.at - from) (g u) (done ++ l)) h.1.1.0 ∙ ap (put_two (u.at - from) (g u)) (sym (append_assoc done h.0 (two u.index ++ h.1.0)))
    ∙ put_at (u.at - from) (g u) u.index (done ++ h.0) h.1.0 (omega arith) ∙ append_assoc done h.0 (two (g u) ++ h.1.0) in
    let inner : put_two (u.at - at) (g u) bytes ≡ h.0 ++ (two (g u) ++ h.1.0) =
    ap (put_two (u.at - at) (g u)) h.1.1.0 ∙ put_at (u.at - at) (g u) u.index h.0 h.1.0 (omega arith) in
    let later : Stands at (h.0 ++ (two (g u) ++ h.1.0)) us = skip at h.0 (two (g u) ++ h.1.0) us (skip (at + length h.0) (two (g u)) h.1.0 us h.1.1.1.1) in
    ap (patch g from us) outer ∙ patch_front g from at done (h.0 ++ (two (g u) ++ h.1.0)) us e later ∙ ap (λ (l : List ℕ). done ++ patch g at us l) (sym inner)

-- ---- the steps of the code

pub record Ahead (at : ℕ) (left : List ℕ) (uses : List Used) (i : ℕ) (d : Used) : Type 0 where
  pub near : at ≤ (get_or uses i d).at
  pub within : (get_or uses i d).at - at + 2 ≤ length left
  pub later : Stands ((get_or uses i d).at + 2) (drop 2 (drop ((get_or uses i d).at - at) left)) (drop (i + 1) uses)
  pub same : Stands at left (drop (i + 1) uses)
  pub kept : (g : Used → ℕ) → g (get_or uses i d) ≡ (get_or uses i d).index → patch g at (drop i uses) left ≡ patch g at (drop (i + 1) uses) left
  pub put : (g : Used → ℕ) → patch g at (drop i uses) left ≡ (take ((get_or uses i d).at - at) left ++ two (g (get_or uses i d))) ++ patch g ((get_or uses i d).at + 2) (drop (i + 1) uses) (drop 2 (drop ((get_or uses i d).at - at) left))

ahead_by : (at : ℕ) (left : List ℕ) (uses : List Used) (i : ℕ) (d : Used) → drop i uses ≡ get_or uses i d ∷ drop (i + 1) uses → Stands at left (get_or uses i d ∷ drop (i + 1) uses) → Ahead at left uses i d
ahead_by at left uses i d e h =
    let u : Used = get_or uses i d in
    let us : List Used = drop (i + 1) uses in
    let place : u.at ≡ at + length h.0 = h.1.1.1.0 in
    let is : left ≡ h.0 ++ (two u.index ++ h.1.0) = h.1.1.0 in
    let total : length left ≡ length h.0 + length (two u.index ++ h.1.0) = ap length is ∙ length-append h.0 (two u.index ++ h.1.0) in
    let tail : length (two u.index ++ h.1.0) ≡ 2 + length h.1.0 = length-append (two u.index) h.1.0 in
    let width : length h.0 ≡ u.at - at = omega arith in
    let front : take (u.at - at) left ≡ h.0 = ap (take (u.at - at)) is ∙ take_at h.0 (two u.index ++ h.1.0) (u.at - at) width in
    let behind : drop 2 (drop (u.at - at) left) ≡ h.1.0 = ap (drop 2) (ap (drop (u.at - at)) is ∙ drop_at h.0 (two u.index ++ h.1.0) (u.at - at) width) ∙ drop_at (two u.index) h.1.0 2 refl in
    let next : at + length h.0 + 2 ≡ u.at + 2 = omega arith in
    let later : Stands (u.at + 2) h.1.0 us = subst (λ (m : ℕ). Stands m h.1.0 us) next h.1.1.1.1 in
    let one : (n : ℕ) → put_two (u.at - at) n left ≡ h.0 ++ (two n ++ h.1.0) = λ n. ap (put_two (u.at - at) n) is ∙ put_at (u.at - at) n u.index h.0 h.1.0 width in
    record {
      near = omega arith;
      within = omega arith;
      later = subst (λ (l : List ℕ). Stands (u.at + 2) l us) (sym behind) later;
      same = subst (λ (l : List ℕ). Stands at l us) (sym is) (skip at h.0 (two u.index ++ h.1.0) us (skip (at + length h.0) (two u.index) h.1.0 us h.1.1.1.1));
      kept = λ g own. ap (λ (l : List Used). patch g at l left) e ∙ ap (patch g at us) (one (g u) ∙ ap (λ (n : ℕ). h.0 ++ (two n ++ h.1.0)) own ∙ sym is);
      put = λ g. let size : length (h.0 ++ two (g u)) ≡ length h.0 + 2 = length-append h.0 (two (g u)) in
          ap (λ (l : List Used). patch g at l left) e ∙ ap (patch g at us) (one (g u) ∙ sym (append_assoc h.0 (two (g u)) h.1.0))
          ∙ patch_front g at (u.at + 2) (h.0 ++ two (g u)) h.1.0 us (omega arith) later
          ∙ ap (λ (l : List ℕ). (l ++ two (g u)) ++ patch g (u.at + 2) us h.1.0) (sym front) ∙ ap (λ (l : List ℕ). (take (u.at - at) left ++ two (g u)) ++ patch g (u.at + 2) us l) (sym behind);
    }

pub ahead : (at : ℕ) (left : List ℕ) (uses : List Used) (i : ℕ) (d : Used) → i < length uses → Stands at left (drop i uses) → Ahead at left uses i d
ahead at left uses i d lt h = let e : drop i uses ≡ get_or uses i d ∷ drop (i + 1) uses = drop_more uses i d lt in ahead_by at left uses i d e (subst (Stands at left) e h)

-- ---- the uses of a tree stand at their places

stand_used : (u : Use) (o : Option Used) (at : ℕ) (more : List ℕ) (vs : List Used) → ((v : Used) → o ≡ Some v → (v.at ≡ at) × (v.index ≡ u.index)) → Stands (at + 2) more vs → Stands at (two u.index ++ more) (uses_of o ++ vs)
stand_used u None at more vs same h = skip at (two u.index) more vs h
stand_used u (Some v) at more vs same h =
    let f = same v refl in
    ([], (more, (ap (λ (n : ℕ). two n ++ more) (sym (f.1)), (f.0 ∙ omega arith, subst (λ (m : ℕ). Stands m more vs) (omega arith) h))))

role_is : (t : Referent) (at i : ℕ) (v : Used) → text_in_role t at i ≡ Some v → (v.at ≡ at) × (v.index ≡ i)
role_is (referents.Text role form) at i v e =
    let same : record { at = at; index = i; role = role } ≡ v = cc in
    (sym (ap (λ (x : Used). x.at) same), sym (ap (λ (x : Used). x.index) same))
role_is (referents.Class form) at i v e = absurd cc
role_is (referents.NameAndType form) at i v e = absurd cc
role_is (referents.Entry choice) at i v e = absurd cc

use_by : (b : Bool) (u : Use) (v : Used) → cond b None (text_in_role (referent_of u.kind) u.at u.index) ≡ Some v → (v.at ≡ u.at) × (v.index ≡ u.index)
use_by true u v e = absurd cc
use_by false u v e = role_is (referent_of u.kind) u.at u.index v e

use_is : (u : Use) (v : Used) → text_use u ≡ Some v → (v.at ≡ u.at) × (v.index ≡ u.index)
use_is u v e = use_by (may_be_none u.kind && nat_eq u.index 0) u v e

pub stand_tree : (t : Tree Use) (at : ℕ) (more : List ℕ) (vs : List Used) → IsPlaced at t → Stands (at + length (print t)) more vs → Stands at (print t ++ more) (uses t ++ vs)
stand_tree Tree.nothing at more vs p h = subst (λ (m : ℕ). Stands m more vs) (omega arith) h
stand_tree (Tree.number bytes) at more vs p h = skip at bytes more vs h
stand_tree (Tree.raw bytes) at more vs p h = skip at bytes more vs h
stand_tree (Tree.code bytes) at more vs p h = skip at bytes more vs h
stand_tree (Tree.used u) at more vs p h = stand_used u (text_use u) at more vs (λ v e. let f = use_is u v e in (f.0 ∙ p, f.1)) h
stand_tree (Tree.both a b) at more vs p h =
    let size : length (print a ++ print b) ≡ length (print a) + length (print b) = length-append (print a) (print b) in
    let second : Stands (at + length (print a)) (print b ++ more) (uses b ++ vs) = stand_tree b (at + length (print a)) more vs p.1 (subst (λ (m : ℕ). Stands m more vs) (omega arith) h) in
    subst (λ (l : List ℕ). Stands at l ((uses a ++ uses b) ++ vs)) (sym (append_assoc (print a) (print b) more))
    (subst (λ (us : List Used). Stands at (print a ++ (print b ++ more)) us) (sym (append_assoc (uses a) (uses b) vs)) (stand_tree a at (print b ++ more) (uses b ++ vs) p.0 second))
stand_tree (Tree.member a) at more vs p h = stand_tree a at more vs p h
