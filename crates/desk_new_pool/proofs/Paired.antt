-- Twins by a map from names and descriptors to the first member that has them.
use Rattle.std.proofs.Common.{◌≡◌, ℕ, ◌+◌, ◌<◌, Bool, true, false, cond, ◌&&◌, List, [], ◌∷◌, ◌++◌, map, length, get_or, take, drop, Option, Some, None, option_map, refl, ap, ap₂, sym, ◌∙◌, bytes_eq, nat_eq, arith, All}
use mathlib.Core.Bool.{and_assoc}
use Rattle.std.specs.List.{find}
use Rattle.std.specs.Ordering.{nat_cmp, is_eq, ordering_then, bool_cmp}
use Rattle.std.specs.BTreeMap as tree
use Rattle.std.specs.BTreeMap.{BTreeMap}
use Rattle.std.proofs.lemmas.List.{take_more, drop_more, map_push}
use Rattle.std.proofs.lemmas.List.Elements.{All-head, All-tail, All-take}
use Rattle.std.proofs.lemmas.Slice.Eq.{bytes_eq-Decides}
use Rattle.desk_base.specs.Names.{Text}
use Rattle.desk_base.specs.Misfits.{or_else}
use Rattle.desk_format.specs.declared.members.Member.{Member}
use Rattle.desk_format.specs.Members.{Named, Twins, same_kind, are_twins, twins_or, twins_behind}
use Rattle.desk_new_pool.specs.declared.twins.NumberedMember.{NumberedMember}
use Rattle.desk_new_pool.specs.Twins.{TellApart, IsNumbered, AreNumbered, member_in, places_of, Key, key_of, key_cmp, first_place, at_key}
use Rattle.std.proofs.lemmas.Bool.Decides.{nat_tests}
use Rattle.std.proofs.lemmas.Bool.{eqb-true}
use Rattle.std.proofs.lemmas.Cmp.{nat_eq_equiv}
use Rattle.desk_base.proofs.Orderings.{is_eq-then, is_eq-nat_cmp}
use Rattle.desk_format.proofs.MemberKinds.{is_eq-bool_cmp}

-- ---- equal keys

kind_turned : (a b : Bool) → same_kind a b ≡ same_kind b a
kind_turned true true = refl
kind_turned true false = refl
kind_turned false true = refl
kind_turned false false = refl

kind_is : (a b : Bool) → same_kind a b ≡ true → a ≡ b
kind_is true true h = refl
kind_is true false h = absurd cc
kind_is false true h = absurd cc
kind_is false false h = refl

abbrev same_key : Key → Key → Bool
same_key x y = (same_kind x.0 y.0 && nat_eq x.1 y.1) && nat_eq x.2 y.2

is_eq-key : (x y : Key) → is_eq (key_cmp x y) ≡ same_key x y
is_eq-key x y =
    is_eq-then (ordering_then (bool_cmp x.0 y.0) (nat_cmp x.1 y.1)) (nat_cmp x.2 y.2)
    ∙ ap (λ (b : Bool). b && is_eq (nat_cmp x.2 y.2)) (is_eq-then (bool_cmp x.0 y.0) (nat_cmp x.1 y.1))
    ∙ ap (λ (b : Bool). (b && is_eq (nat_cmp x.1 y.1)) && is_eq (nat_cmp x.2 y.2)) (is_eq-bool_cmp x.0 y.0)
    ∙ ap (λ (b : Bool). (same_kind x.0 y.0 && b) && is_eq (nat_cmp x.2 y.2)) (is_eq-nat_cmp x.1 y.1)
    ∙ ap (λ (b : Bool). (same_kind x.0 y.0 && nat_eq x.1 y.1) && b) (is_eq-nat_cmp x.2 y.2)

key_turned : (x y : Key) → same_key x y ≡ same_key y x
key_turned x y =
    ap (λ (b : Bool). (b && nat_eq x.1 y.1) && nat_eq x.2 y.2) (kind_turned x.0 y.0)
    ∙ ap (λ (b : Bool). (same_kind y.0 x.0 && b) && nat_eq x.2 y.2) (nat_eq_equiv.symm x.1 y.1)
    ∙ ap (λ (b : Bool). (same_kind y.0 x.0 && nat_eq y.1 x.1) && b) (nat_eq_equiv.symm x.2 y.2)

record SameParts (x y : Key) : Type 0 where
  kind : x.0 ≡ y.0
  name : x.1 ≡ y.1
  descriptor : x.2 ≡ y.2

and_left : (a b : Bool) → (a && b) ≡ true → a ≡ true
and_left true b h = refl
and_left false b h = absurd cc

and_right : (a b : Bool) → (a && b) ≡ true → b ≡ true
and_right true b h = h
and_right false b h = absurd cc

parts : (x y : Key) → same_key x y ≡ true → SameParts x y
parts x y h =
    let front : (same_kind x.0 y.0 && nat_eq x.1 y.1) ≡ true = and_left (same_kind x.0 y.0 && nat_eq x.1 y.1) (nat_eq x.2 y.2) h in
    record {
      kind = kind_is x.0 y.0 (and_left (same_kind x.0 y.0) (nat_eq x.1 y.1) front);
      name = eqb-true x.1 y.1 (and_right (same_kind x.0 y.0) (nat_eq x.1 y.1) front);
      descriptor = eqb-true x.2 y.2 (and_right (same_kind x.0 y.0 && nat_eq x.1 y.1) (nat_eq x.2 y.2) h);
    }

key_moved : (x y z : Key) → SameParts x y → same_key x z ≡ same_key y z
key_moved x y z h =
    ap (λ (b : Bool). (same_kind b z.0 && nat_eq x.1 z.1) && nat_eq x.2 z.2) h.kind
    ∙ ap (λ (n : ℕ). (same_kind y.0 z.0 && nat_eq n z.1) && nat_eq x.2 z.2) h.name
    ∙ ap (λ (n : ℕ). (same_kind y.0 z.0 && nat_eq y.1 z.1) && nat_eq n z.2) h.descriptor

-- ---- the first member of a key

find_same : {A : Type 0} (p q : A → Bool) (xs : List A) → ((x : A) → p x ≡ q x) → find p xs ≡ find q xs
find_same p q [] h = refl
find_same p q (x ∷ xs) h = ap (λ (b : Bool). cond b (Some x) (find p xs)) (h x) ∙ ap (λ o. cond (q x) (Some x) o) (find_same p q xs h)

push_by : {A : Type 0} (b : Bool) (x : A) (o r s : Option A) → o ≡ or_else r s → cond b (Some x) o ≡ or_else (cond b (Some x) r) s
push_by true x o r s h = refl
push_by false x o r s h = h

find-push : {A : Type 0} (p : A → Bool) (xs : List A) (y : A) → find p (xs ++ y ∷ []) ≡ or_else (find p xs) (cond (p y) (Some y) None)
find-push p [] y = refl
find-push p (x ∷ xs) y = push_by (p x) x (find p (xs ++ y ∷ [])) (find p xs) (cond (p y) (Some y) None) (find-push p xs y)

mapped : {A B : Type 0} (f : A → B) (o : Option A) (b : Bool) (y : A) → option_map f (or_else o (cond b (Some y) None)) ≡ or_else (option_map f o) (cond b (Some (f y)) None)
mapped f None true y = refl
mapped f None false y = refl
mapped f (Some x) b y = refl

place-push : (xs : List NumberedMember) (m : NumberedMember) (q : Key) → first_place (xs ++ m ∷ []) q ≡ or_else (first_place xs q) (cond (is_eq (key_cmp q (key_of m))) (Some m.member.at) None)
place-push xs m q =
    ap (option_map (λ (x : NumberedMember). x.member.at)) (find-push (λ (x : NumberedMember). is_eq (key_cmp q (key_of x))) xs m)
    ∙ mapped (λ (x : NumberedMember). x.member.at) (find (λ (x : NumberedMember). is_eq (key_cmp q (key_of x))) xs) (is_eq (key_cmp q (key_of m))) m

place_moved : (xs : List NumberedMember) (x y : Key) → SameParts x y → first_place xs x ≡ first_place xs y
place_moved xs x y h =
    ap (option_map (λ (m : NumberedMember). m.member.at))
    (find_same (λ (m : NumberedMember). is_eq (key_cmp x (key_of m))) (λ (m : NumberedMember). is_eq (key_cmp y (key_of m))) xs (λ m. is_eq-key x (key_of m) ∙ key_moved x y (key_of m) h ∙ sym (is_eq-key y (key_of m))))

or_none : {A : Type 0} (o : Option A) → o ≡ or_else o None
or_none None = refl
or_none (Some x) = refl

put_by : (b : Bool) (xs : List NumberedMember) (m : NumberedMember) (q : Key) (o : Option ℕ) → is_eq (key_cmp (key_of m) q) ≡ b → first_place xs (key_of m) ≡ None → o ≡ first_place xs q
    → cond b (Some m.member.at) o ≡ or_else (first_place xs q) (cond (is_eq (key_cmp q (key_of m))) (Some m.member.at) None)
put_by true xs m q o e none h =
    let same : same_key (key_of m) q ≡ true = sym (is_eq-key (key_of m) q) ∙ e in
    let there : first_place xs q ≡ None = sym (place_moved xs (key_of m) q (parts (key_of m) q same)) ∙ none in
    let back : is_eq (key_cmp q (key_of m)) ≡ true = is_eq-key q (key_of m) ∙ key_turned q (key_of m) ∙ same in
    sym (ap (λ (x : Option ℕ). or_else x (cond (is_eq (key_cmp q (key_of m))) (Some m.member.at) None)) there ∙ ap (λ (b : Bool). cond b (Some m.member.at) None) back)
put_by false xs m q o e none h =
    let back : is_eq (key_cmp q (key_of m)) ≡ false = is_eq-key q (key_of m) ∙ key_turned q (key_of m) ∙ sym (is_eq-key (key_of m) q) ∙ e in
    h ∙ or_none (first_place xs q) ∙ sym (ap (λ (b : Bool). or_else (first_place xs q) (cond b (Some m.member.at) None)) back)

-- a member of a new key is put into the map
pub places_more : (ms : List NumberedMember) (i : ℕ) (d : NumberedMember) (old new : BTreeMap Key ℕ) → i < length ms → at_key old (key_of (get_or ms i d)) ≡ None → tree.Updates key_cmp old new (key_of (get_or ms i d)) (Some (get_or ms i d).member.at)
    → ((q : Key) → at_key old q ≡ first_place (take i ms) q) → (q : Key) → at_key new q ≡ first_place (take (i + 1) ms) q
places_more ms i d old new lt none up h q =
    let m : NumberedMember = get_or ms i d in
    up.0 q ∙ put_by (is_eq (key_cmp (key_of m) q)) (take i ms) m q (at_key old q) refl (sym (h (key_of m)) ∙ none) (h q)
    ∙ sym (place-push (take i ms) m q) ∙ ap (λ (l : List NumberedMember). first_place l q) (sym (take_more ms i d lt))

-- ---- twins by their keys

-- numbers are equal where the texts are
numbers_by : (numbers : Text → Option ℕ) (t u : Text) (k n : ℕ) (a b : Bool) → TellApart numbers → numbers t ≡ Some k → numbers u ≡ Some n → nat_eq k n ≡ a → bytes_eq t u ≡ b → a ≡ b
numbers_by numbers t u k n true true h p q r s = refl
numbers_by numbers t u k n false false h p q r s = refl
numbers_by numbers t u k n true false h p q r s =
    let same : n ≡ k = sym (eqb-true k n r) in
    let is : t ≡ u = h t u k p (q ∙ ap (λ (m : ℕ). Some m) same) in
    let yes : bytes_eq t u ≡ true = (bytes_eq-Decides t u).1 is in
    absurd cc
numbers_by numbers t u k n false true h p q r s =
    let is : t ≡ u = (bytes_eq-Decides t u).0 s in
    let some : Some k ≡ Some n = sym p ∙ ap numbers is ∙ q in
    let same : k ≡ n = cc in
    let yes : nat_eq k n ≡ true = grind (arith, nat_tests) in
    absurd cc

twin_by : (a b : Bool) (n m d e : ℕ) → ((same_kind a b && nat_eq n m) && nat_eq d e) ≡ (same_kind b a && (nat_eq m n && nat_eq e d))
twin_by a b n m d e = and_assoc (same_kind a b) (nat_eq n m) (nat_eq d e)
    ∙ ap (λ (x : Bool). x && (nat_eq n m && nat_eq d e)) (kind_turned a b)
    ∙ ap (λ (x : Bool). same_kind b a && (x && nat_eq d e)) (nat_eq_equiv.symm n m)
    ∙ ap (λ (x : Bool). same_kind b a && (nat_eq m n && x)) (nat_eq_equiv.symm d e)

at_by : (b : Bool) (x : NumberedMember) (o : Option Member) (r : Option NumberedMember) → option_map (λ (y : Member). y.at) o ≡ option_map (λ (y : NumberedMember). y.member.at) r
    → option_map (λ (y : Member). y.at) (cond b (Some x.member) o) ≡ option_map (λ (y : NumberedMember). y.member.at) (cond b (Some x) r)
at_by true x o r h = refl
at_by false x o r h = h

twin_key : (named : Member → Named) (names descriptors : Text → Option ℕ) (m b : NumberedMember) → TellApart names → TellApart descriptors → IsNumbered named names descriptors m → IsNumbered named names descriptors b
    → is_eq (key_cmp (key_of m) (key_of b)) ≡ are_twins named b.member m.member
twin_key named names descriptors m b apart apart' is there =
    is_eq-key (key_of m) (key_of b) ∙ twin_by m.member.method b.member.method m.name b.name m.descriptor b.descriptor
    ∙ ap₂ (λ (u v : Bool). same_kind b.member.method m.member.method && (u && v))
    (numbers_by names (named b.member).name (named m.member).name b.name m.name (nat_eq b.name m.name) (bytes_eq (named b.member).name (named m.member).name) apart there.name is.name refl refl)
    (numbers_by descriptors (named b.member).descriptor (named m.member).descriptor b.descriptor m.descriptor (nat_eq b.descriptor m.descriptor) (bytes_eq (named b.member).descriptor (named m.member).descriptor) apart' there.descriptor is.descriptor refl refl)

find_twin_by : (named : Member → Named) (names descriptors : Text → Option ℕ) (m : NumberedMember) (xs : List NumberedMember) → TellApart names → TellApart descriptors → IsNumbered named names descriptors m → All (IsNumbered named names descriptors) xs
    → option_map (λ (y : Member). y.at) (find (λ b. are_twins named b m.member) (map member_in xs)) ≡ first_place xs (key_of m)
find_twin_by named names descriptors m [] apart apart' is all = refl
find_twin_by named names descriptors m (x ∷ xs) apart apart' is all =
    ap (λ (b : Bool). option_map (λ (y : Member). y.at) (cond b (Some x.member) (find (λ b. are_twins named b m.member) (map member_in xs))))
    (sym (twin_key named names descriptors m x apart apart' is (All-head (IsNumbered named names descriptors) x xs all)))
    ∙ at_by (is_eq (key_cmp (key_of m) (key_of x))) x (find (λ b. are_twins named b m.member) (map member_in xs)) (find (λ y. is_eq (key_cmp (key_of m) (key_of y))) xs)
    (find_twin_by named names descriptors m xs apart apart' is (All-tail (IsNumbered named names descriptors) x xs all))

find_twin : (named : Member → Named) (ms : List NumberedMember) (i : ℕ) (d : NumberedMember) → i < length ms → AreNumbered named ms
    → option_map (λ (y : Member). y.at) (find (λ b. are_twins named b (get_or ms i d).member) (map member_in (take i ms))) ≡ first_place (take i ms) (key_of (get_or ms i d))
find_twin named ms i d lt all = find_twin_by named all.names all.descriptors (get_or ms i d) (take i ms) all.names_apart all.descriptors_apart (all.each i d lt) (All-take (IsNumbered named all.names all.descriptors) i ms all.each)

some_twin : (o : Option Member) (m : Member) (later : Option Twins) (a : ℕ) → option_map (λ (y : Member). y.at) o ≡ Some a → Some (record { first = a; second = m.at }) ≡ option_map places_of (twins_or o m later)
some_twin None m later a h = absurd cc
some_twin (Some x) m later a h = let e : x.at ≡ a = cc in ap (λ (n : ℕ). Some (record { first = n; second = m.at })) (sym e)

no_twin : (o : Option Member) (m : Member) (later : Option Twins) → option_map (λ (y : Member). y.at) o ≡ None → twins_or o m later ≡ later
no_twin None m later h = refl
no_twin (Some x) m later h = absurd cc

behind_at : (named : Member → Named) (ms : List NumberedMember) (i : ℕ) (d : NumberedMember) → i < length ms → twins_behind named (map member_in (take i ms)) (map member_in (drop i ms))
    ≡ twins_or (find (λ b. are_twins named b (get_or ms i d).member) (map member_in (take i ms))) (get_or ms i d).member (twins_behind named (map member_in (take i ms) ++ (get_or ms i d).member ∷ []) (map member_in (drop (i + 1) ms)))
behind_at named ms i d lt = ap (λ (l : List NumberedMember). twins_behind named (map member_in (take i ms)) (map member_in l)) (drop_more ms i d lt)

pub twins_found : (named : Member → Named) (ms : List NumberedMember) (i : ℕ) (d : NumberedMember) (a : ℕ) → i < length ms → AreNumbered named ms → Some a ≡ first_place (take i ms) (key_of (get_or ms i d))
    → Some (record { first = a; second = (get_or ms i d).member.at }) ≡ option_map places_of (twins_behind named (map member_in (take i ms)) (map member_in (drop i ms)))
twins_found named ms i d a lt all h =
    some_twin (find (λ b. are_twins named b (get_or ms i d).member) (map member_in (take i ms))) (get_or ms i d).member (twins_behind named (map member_in (take i ms) ++ (get_or ms i d).member ∷ []) (map member_in (drop (i + 1) ms))) a
    (find_twin named ms i d lt all ∙ sym h)
    ∙ ap (option_map places_of) (sym (behind_at named ms i d lt))

pub twins_later : (named : Member → Named) (ms : List NumberedMember) (i : ℕ) (d : NumberedMember) → i < length ms → AreNumbered named ms → first_place (take i ms) (key_of (get_or ms i d)) ≡ None
    → twins_behind named (map member_in (take i ms)) (map member_in (drop i ms)) ≡ twins_behind named (map member_in (take (i + 1) ms)) (map member_in (drop (i + 1) ms))
twins_later named ms i d lt all h =
    let m : NumberedMember = get_or ms i d in
    let one : map member_in (take (i + 1) ms) ≡ map member_in (take i ms) ++ m.member ∷ [] = ap (map member_in) (take_more ms i d lt) ∙ map_push member_in (take i ms) m in
    behind_at named ms i d lt
    ∙ no_twin (find (λ b. are_twins named b m.member) (map member_in (take i ms))) m.member (twins_behind named (map member_in (take i ms) ++ m.member ∷ []) (map member_in (drop (i + 1) ms))) (find_twin named ms i d lt all ∙ h)
    ∙ ap (λ (l : List Member). twins_behind named l (map member_in (drop (i + 1) ms))) (sym one)
