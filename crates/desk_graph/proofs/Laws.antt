-- What an application without clashes and stranded classes is.
use Rattle.std.proofs.Common.{◌≡◌, ◌⊎◌, inl, inr, Bool, true, false, cond, not, ◌&&◌, List, [], ◌∷◌, ◌++◌, Option, Some, None, refl, sym, ap, ap₂, ◌∙◌}
use Rattle.std.specs.List.{find, list_any}
use Rattle.std.specs.Str.{bytes_eq}
use Rattle.std.proofs.lemmas.Bool.{cases_Bool, and_parts, false_from_ne_true}
use Rattle.std.proofs.lemmas.Slice.Eq.{bytes_eq-Decides}
use Rattle.desk_base.specs.Names.{Text}
use Rattle.desk_packages.proofs.Picks.{In, find_None}
use Rattle.desk_packages.proofs.Searched.{find_nothing}
use Rattle.desk_class.specs.Held.{ascending}
use Rattle.desk_graph.specs.Application.{Pair, defined_names, names, meets, with_other, clash_among, name_clash, strands, stranded_at, stranded_among, is_before, least_onto, stranded, OneImage, NoneStranded}
use Rattle.desk_graph.specs.declared.scanned.Scanned.{Scanned}
use Rattle.desk_class.proofs.Ascending.{from_contains, to_contains, in_ascending, from_ascending}
use Rattle.desk_graph.proofs.Orders.{tested, from_tested}

none_other : (d : Text) (o : Option Text) (rest : Option Pair) → with_other d o rest ≡ None → (o ≡ None) × (rest ≡ None)
none_other d None rest e = (refl, e)
none_other d (Some o) rest e = absurd cc

none_meets : (f : Text → Text) (names ds : List Text) → clash_among f names ds ≡ None → (d n : Text) → In ds d → In names n → meets f d n ≡ false
none_meets f names [] e d n h k = absurd h
none_meets f names (x ∷ ds) e d n (inl same) k =
    let p = none_other x (find (meets f x) names) (clash_among f names ds) e in
    ap (λ (t : Text). meets f t n) (sym same) ∙ find_None (meets f x) names n p.0 k
none_meets f names (x ∷ ds) e d n (inr h) k = none_meets f names ds (none_other x (find (meets f x) names) (clash_among f names ds) e).1 d n h k

pub one_image : (f : Text → Text) (ss : List Scanned) → name_clash f ss ≡ None → OneImage f ss
one_image f ss e d n is_defined is_name same = elim (cases_Bool (bytes_eq d n)) [
  | inl equal ↦ (bytes_eq-Decides d n).0 equal
  | inr other ↦
      let no : meets f d n ≡ false = none_meets f (ascending (names ss)) (ascending (defined_names ss)) e d n
      (in_ascending (defined_names ss) d (from_contains (defined_names ss) d is_defined)) (in_ascending (names ss) n (from_contains (names ss) n is_name)) in
      let yes : meets f d n ≡ true = ap (λ (b : Bool). not b && bytes_eq (f d) (f n)) other ∙ (bytes_eq-Decides (f d) (f n)).1 same in
      absurd cc
]

some_least : (q : Pair) (ps : List Pair) → least_onto (Some q) ps ≡ None → ⊥
some_least q [] e = cc
some_least q (p ∷ ps) e = elim (is_before p q) as (λ (b : Bool). least_onto (cond b (Some p) (Some q)) ps ≡ None → ⊥) [
  | true ↦ λ h. some_least p ps h
  | false ↦ λ h. some_least q ps h
] e

none_least : (ps : List Pair) → least_onto None ps ≡ None → ps ≡ []
none_least [] e = refl
none_least (p ∷ ps) e = absurd (some_least p ps e)

both_empty : {A : Type 0} (xs ys : List A) → xs ++ ys ≡ [] → (xs ≡ []) × (ys ≡ [])
both_empty [] ys e = (refl, e)
both_empty (x ∷ xs) ys e = absurd cc

none_at : (f : Text → Text) (defined : List Text) (path : Text) (ms : List Text) → stranded_at f defined path ms ≡ [] → (m : Text) → In ms m → strands f defined m ≡ false
none_at f defined path [] e m h = absurd h
none_at f defined path (x ∷ ms) e m h =
    elim (strands f defined x) as (λ (b : Bool). strands f defined x ≡ b → cond b ((path, x) ∷ stranded_at f defined path ms) (stranded_at f defined path ms) ≡ [] → strands f defined m ≡ false) [
      | true ↦ λ p q. absurd cc
      | false ↦ λ p q. elim h [ inl same ↦ ap (strands f defined) (sym same) ∙ p | inr later ↦ none_at f defined path ms q m later ]
    ] refl e

none_among : (f : Text → Text) (defined : List Text) (ss : List Scanned) → stranded_among f defined ss ≡ [] → (s : Scanned) → In ss s → s.selected ≡ false → stranded_at f defined s.path s.held ≡ []
none_among f defined [] e s h un = absurd h
none_among f defined (x ∷ ss) e s (inl same) un =
    let p = both_empty (cond x.selected [] (stranded_at f defined x.path x.held)) (stranded_among f defined ss) e in
    let here : cond s.selected [] (stranded_at f defined s.path s.held) ≡ [] = ap (λ (y : Scanned). cond y.selected [] (stranded_at f defined y.path y.held)) (sym same) ∙ p.0 in
    ap (λ (b : Bool). cond b [] (stranded_at f defined s.path s.held)) (sym un) ∙ here
none_among f defined (x ∷ ss) e s (inr h) un = none_among f defined ss (both_empty (cond x.selected [] (stranded_at f defined x.path x.held)) (stranded_among f defined ss) e).1 s h un

pub none_stranded : (f : Text → Text) (ss : List Scanned) → stranded f ss ≡ None → NoneStranded f ss
none_stranded f ss e s m is un holds is_defined =
    let none : stranded_among f (ascending (defined_names ss)) ss ≡ [] = none_least (stranded_among f (ascending (defined_names ss)) ss) e in
    let here : strands f (ascending (defined_names ss)) m ≡ false
    = none_at f (ascending (defined_names ss)) s.path s.held (none_among f (ascending (defined_names ss)) ss none s (from_contains ss s is) un) m (from_contains s.held m holds) in
    let known : list_any (bytes_eq m) (ascending (defined_names ss)) ≡ true = tested (ascending (defined_names ss)) m (in_ascending (defined_names ss) m (from_contains (defined_names ss) m is_defined)) in
    elim (cases_Bool (bytes_eq (f m) m)) [
      | inl same ↦ (bytes_eq-Decides (f m) m).0 same
      | inr other ↦
          let yes : strands f (ascending (defined_names ss)) m ≡ true = ap₂ (λ (a b : Bool). a && not b) known other in
          absurd cc
    ]

-- ---- and the other way round

no_pair : (f : Text → Text) (names ds : List Text) → ((d n : Text) → In ds d → In names n → f d ≡ f n → d ≡ n) → clash_among f names ds ≡ None
no_pair f names [] one = refl
no_pair f names (d ∷ ds) one =
    let none : find (meets f d) names ≡ None = find_nothing (meets f d) names (λ n is m.
    let p = and_parts (not (bytes_eq d n)) (bytes_eq (f d) (f n)) m in
    let same : bytes_eq d n ≡ true = (bytes_eq-Decides d n).1 (one d n (inl refl) is ((bytes_eq-Decides (f d) (f n)).0 p.1)) in
    let other : not (bytes_eq d n) ≡ false = ap not same in
    let k : not (bytes_eq d n) ≡ true = p.0 in
    cc) in
    ap (λ (o : Option Text). with_other d o (clash_among f names ds)) none ∙ no_pair f names ds (λ x n h k e. one x n (inr h) k e)

pub no_clash : (f : Text → Text) (ss : List Scanned) → OneImage f ss → name_clash f ss ≡ None
no_clash f ss one =
    no_pair f (ascending (names ss)) (ascending (defined_names ss))
    (λ d n h k e. one d n (to_contains (defined_names ss) d (from_ascending (defined_names ss) d h)) (to_contains (names ss) n (from_ascending (names ss) n k)) e)

nothing_at : (f : Text → Text) (defined : List Text) (path : Text) (ms : List Text) → ((m : Text) → In ms m → In defined m → f m ≡ m) → stranded_at f defined path ms ≡ []
nothing_at f defined path [] stays = refl
nothing_at f defined path (m ∷ ms) stays =
    let no : strands f defined m ≡ false = false_from_ne_true (strands f defined m) (λ e.
    let p = and_parts (list_any (bytes_eq m) defined) (not (bytes_eq (f m) m)) e in
    let same : bytes_eq (f m) m ≡ true = (bytes_eq-Decides (f m) m).1 (stays m (inl refl) (from_tested defined m p.0)) in
    let other : not (bytes_eq (f m) m) ≡ false = ap not same in
    let k : not (bytes_eq (f m) m) ≡ true = p.1 in
    cc) in
    ap (λ (b : Bool). cond b ((path, m) ∷ stranded_at f defined path ms) (stranded_at f defined path ms)) no ∙ nothing_at f defined path ms (λ x h. stays x (inr h))

nothing_among : (f : Text → Text) (defined : List Text) (ss : List Scanned) → ((s : Scanned) (m : Text) → In ss s → s.selected ≡ false → In s.held m → In defined m → f m ≡ m) → stranded_among f defined ss ≡ []
nothing_among f defined [] stays = refl
nothing_among f defined (s ∷ ss) stays =
    ap₂ (λ (xs ys : List Pair). xs ++ ys) (here (cases_Bool s.selected)) (nothing_among f defined ss (λ x m h. stays x m (inr h)))
  where
    here : ((s.selected ≡ true) ⊎ (s.selected ≡ false)) → cond s.selected [] (stranded_at f defined s.path s.held) ≡ []
    here (inl e) = ap (λ (b : Bool). cond b [] (stranded_at f defined s.path s.held)) e
    here (inr e) = ap (λ (b : Bool). cond b [] (stranded_at f defined s.path s.held)) e ∙ nothing_at f defined s.path s.held (λ m h k. stays s m (inl refl) e h k)

pub none_left : (f : Text → Text) (ss : List Scanned) → NoneStranded f ss → stranded f ss ≡ None
none_left f ss stays =
    ap (least_onto None)
    (nothing_among f (ascending (defined_names ss)) ss
    (λ s m is un h k. stays s m (to_contains ss s is) un (to_contains s.held m h) (to_contains (defined_names ss) m (from_ascending (defined_names ss) m k))))
