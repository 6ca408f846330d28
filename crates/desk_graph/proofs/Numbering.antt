-- Names that are numbered.
use Rattle.std.proofs.Common.{◌≡◌, inl, inr, ℕ, zero, suc, ◌+◌, ◌<◌, Bool, true, false, cond, List, [], ◌∷◌, length, get_or, Option, Some, None, MatchOption, refl, sym, ap, subst, ◌∙◌, arith}
use Rattle.std.specs.List.{filter}
use Rattle.std.specs.declared.cmp.Ordering.TheVariants.{Less, Equal}
use Rattle.std.specs.Ordering.{nat_cmp}
use Rattle.std.specs.Cmp.Lexicographic.{slice_cmp}
use Rattle.std.proofs.lemmas.Cmp.{nat_list_cmp_total, tied_itself}
use Rattle.std.proofs.lemmas.Bool.{cases_order}
use Rattle.desk_base.specs.Names.{Text}
use Rattle.desk_packages.specs.Keys.{RiseBy, IsNowhere, IsPlaceOf}
use Rattle.desk_packages.proofs.Picks.{In}
use Rattle.desk_packages.proofs.Searched.{at_in}
use Rattle.desk_graph.specs.Application.{Pair}
use Rattle.desk_graph.specs.Tables.{as_is}
use Rattle.desk_graph.specs.Nodes.{firsts, nodes_from, defined_of, AreNodes, IsTable}

pub nodes_are : (passes : Text → Bool) (count : ℕ) (ns : List Text) → AreNodes count ns (nodes_from passes count ns)
nodes_are passes count [] = tt
nodes_are passes count (n ∷ ns) = elim (passes n) as (λ (b : Bool). AreNodes count (n ∷ ns) (cond b (Some count ∷ nodes_from passes (count + 1) ns) (None ∷ nodes_from passes count ns))) [
  | true ↦ (refl, nodes_are passes (count + 1) ns)
  | false ↦ nodes_are passes count ns
]

-- two tests that agree number alike
pub nodes_alike : (p q : Text → Bool) (count : ℕ) (ns : List Text) → ((t : Text) → p t ≡ q t) → nodes_from p count ns ≡ nodes_from q count ns
nodes_alike p q count [] same = refl
nodes_alike p q count (n ∷ ns) same =
    ap (λ (b : Bool). cond b (Some count ∷ nodes_from p (count + 1) ns) (None ∷ nodes_from p count ns)) (same n)
    ∙ ap (λ (os : List (Option ℕ)). cond (q n) (Some count ∷ os) (None ∷ nodes_from p count ns)) (nodes_alike p q (count + 1) ns same)
    ∙ ap (λ (os : List (Option ℕ)). cond (q n) (Some count ∷ nodes_from q (count + 1) ns) (None ∷ os)) (nodes_alike p q count ns same)

pub defined_pass : (passes : Text → Bool) (count : ℕ) (ns : List Text) → defined_of ns (nodes_from passes count ns) ≡ filter passes ns
defined_pass passes count [] = refl
defined_pass passes count (n ∷ ns) = elim (passes n) as (λ (b : Bool). defined_of (n ∷ ns) (cond b (Some count ∷ nodes_from passes (count + 1) ns) (None ∷ nodes_from passes count ns)) ≡ cond b (n ∷ filter passes ns) (filter passes ns)) [
  | true ↦ ap (λ (ms : List Text). n ∷ ms) (defined_pass passes (count + 1) ns)
  | false ↦ defined_pass passes count ns
]

pub nodes_long : (count : ℕ) (ns : List Text) (nodes : List (Option ℕ)) → AreNodes count ns nodes → length nodes ≡ length ns
nodes_long count [] [] a = refl
nodes_long count [] (o ∷ nodes) a = absurd a
nodes_long count (n ∷ ns) [] a = absurd a
nodes_long count (n ∷ ns) (None ∷ nodes) a = ap suc (nodes_long count ns nodes a)
nodes_long count (n ∷ ns) (Some k ∷ nodes) a = ap suc (nodes_long (count + 1) ns nodes a.1)

-- a name with a number stands at that place among those that have one
pub record NodeAt (count : ℕ) (ns : List Text) (nodes : List (Option ℕ)) (place number : ℕ) : Type 0 where
  pub at : ℕ
  pub is : number ≡ count + at
  pub within : at < length (defined_of ns nodes)
  pub name : (d : Text) → get_or (defined_of ns nodes) at d ≡ get_or ns place d

pub node_at : (count : ℕ) (ns : List Text) (nodes : List (Option ℕ)) (place number : ℕ) → AreNodes count ns nodes → place < length ns → get_or nodes place None ≡ Some number → NodeAt count ns nodes place number
node_at count [] nodes place number a h e = absurd (omega arith)
node_at count (n ∷ ns) [] place number a h e = absurd a
node_at count (n ∷ ns) (None ∷ nodes) zero number a h e = absurd cc
node_at count (n ∷ ns) (None ∷ nodes) (suc place) number a h e =
    let r : NodeAt count ns nodes place number = node_at count ns nodes place number a (omega arith) e in
    record { at = r.at; is = r.is; within = r.within; name = r.name }
node_at count (n ∷ ns) (Some k ∷ nodes) zero number a h e =
    let same : k ≡ number = cc in
    record { at = 0; is = omega (arith, same, a.0); within = omega arith; name = λ d. refl }
node_at count (n ∷ ns) (Some k ∷ nodes) (suc place) number a h e =
    let r : NodeAt (count + 1) ns nodes place number = node_at (count + 1) ns nodes place number a.1 (omega arith) e in
    record { at = suc r.at; is = omega (arith, r.is); within = omega (arith, r.within); name = r.name }

-- each of those stands among the names, with a number
pub record Numbered (ns : List Text) (nodes : List (Option ℕ)) (name : Text) : Type 0 where
  pub place : ℕ
  pub within : place < length ns
  pub is : (d : Text) → get_or ns place d ≡ name
  pub number : ℕ
  pub has : get_or nodes place None ≡ Some number

pub numbered : (ns : List Text) (nodes : List (Option ℕ)) (name : Text) → In (defined_of ns nodes) name → Numbered ns nodes name
numbered [] nodes name h = absurd h
numbered (n ∷ ns) [] name h = absurd h
numbered (n ∷ ns) (None ∷ nodes) name h =
    let r : Numbered ns nodes name = numbered ns nodes name h in
    record { place = suc r.place; within = omega (arith, r.within); is = r.is; number = r.number; has = r.has }
numbered (n ∷ ns) (Some k ∷ nodes) name (inl e) = record { place = 0; within = omega arith; is = λ d. e; number = k; has = refl }
numbered (n ∷ ns) (Some k ∷ nodes) name (inr h) =
    let r : Numbered ns nodes name = numbered ns nodes name h in
    record { place = suc r.place; within = omega (arith, r.within); is = r.is; number = r.number; has = r.has }

pub less_itself : (t : Text) → slice_cmp nat_cmp t t ≡ Less → ⊥
less_itself t less = let tied : slice_cmp nat_cmp t t ≡ Equal = tied_itself nat_list_cmp_total t in cc (tied, less)

-- one name stands at one place
pub one_place : (ns : List Text) (i j : ℕ) (name : Text) → RiseBy as_is ns → i < length ns → j < length ns → get_or ns i [] ≡ name → get_or ns j [] ≡ name → i ≡ j
one_place ns i j name rise h k e f = elim (cases_order i j) [
  | inl same ↦ same
  | inr apart ↦ elim apart [
    | inl lt ↦ absurd (less_itself name (ap (λ (t : Text). slice_cmp nat_cmp t name) (sym e) ∙ ap (slice_cmp nat_cmp (get_or ns i [])) (sym f) ∙ rise i j [] lt k))
    | inr gt ↦ absurd (less_itself name (ap (λ (t : Text). slice_cmp nat_cmp t name) (sym f) ∙ ap (slice_cmp nat_cmp (get_or ns j [])) (sym e) ∙ rise j i [] gt h))
  ]
]

-- ---- the names of a table

pub first_at : (known : List Pair) (i : ℕ) (d : Pair) → get_or (firsts known) i d.0 ≡ (get_or known i d).0
first_at [] i d = refl
first_at (k ∷ ks) zero d = refl
first_at (k ∷ ks) (suc i) d = first_at ks i d

pub firsts_long : (known : List Pair) → length (firsts known) ≡ length known
firsts_long [] = refl
firsts_long (k ∷ ks) = ap suc (firsts_long ks)

pub nowhere_named : (known : List Pair) (name : Text) → IsNowhere (λ (k : Pair). k.0) known name → IsNowhere as_is (firsts known) name
nowhere_named known name none k d h e = none k (d, []) (omega (arith, firsts_long known)) (sym (first_at known k (d, [])) ∙ e)

firsts_rise : (known : List Pair) → RiseBy (λ (k : Pair). k.0) known → RiseBy as_is (firsts known)
firsts_rise known rise i j d lt h =
    ap (λ (t : Text). slice_cmp nat_cmp t (get_or (firsts known) j d)) (first_at known i (d, []))
    ∙ ap (slice_cmp nat_cmp (get_or known i (d, [])).0) (first_at known j (d, []))
    ∙ rise i j (d, []) lt (omega (arith, firsts_long known))

module _ (known : List Pair) (nodes : List (Option ℕ)) (table : IsTable known nodes) (name : Text) where
  -- a name that is in no table has no node
  pub unknown : IsNowhere (λ (k : Pair). k.0) known name → IsNowhere as_is (defined_of (firsts known) nodes) name
  unknown none k d h e =
      let there : In (defined_of (firsts known) nodes) name = subst (In (defined_of (firsts known) nodes)) e (at_in (defined_of (firsts known) nodes) k d h) in
      let r : Numbered (firsts known) nodes name = numbered (firsts known) nodes name there in
      nowhere_named known name none r.place [] r.within (r.is [])

  module _ (place : ℕ) (at : IsPlaceOf (λ (k : Pair). k.0) known name place) where
    named : get_or (firsts known) place [] ≡ name
    named = first_at known place ([], []) ∙ at.1 ([], [])

    within : place < length (firsts known)
    within = omega (arith, firsts_long known, at.0)

    -- the node of a name is the number at its place
    pub node_is : (o : Option ℕ) → get_or nodes place None ≡ o → MatchOption o (IsNowhere as_is (defined_of (firsts known) nodes) name) (IsPlaceOf as_is (defined_of (firsts known) nodes) name)
    node_is (Some number) e =
        let r : NodeAt 0 (firsts known) nodes place number = node_at 0 (firsts known) nodes place number table.numbered within e in
        let same : r.at ≡ number = omega (arith, r.is) in
        let found : IsPlaceOf as_is (defined_of (firsts known) nodes) name r.at = (r.within, λ d. r.name d ∙ (here d)) in
        subst (IsPlaceOf as_is (defined_of (firsts known) nodes) name) same found
      where
        here : (d : Text) → get_or (firsts known) place d ≡ name
        here d = first_at known place (d, []) ∙ at.1 (d, [])
    node_is None e = λ k d h f.
        let there : In (defined_of (firsts known) nodes) name = subst (In (defined_of (firsts known) nodes)) f (at_in (defined_of (firsts known) nodes) k d h) in
        let r : Numbered (firsts known) nodes name = numbered (firsts known) nodes name there in
        let same : r.place ≡ place = one_place (firsts known) r.place place name (firsts_rise known table.rise) r.within within (r.is []) named in
        let none : Some r.number ≡ None = sym r.has ∙ ap (λ (i : ℕ). get_or nodes i None) same ∙ e in
        absurd cc
