-- The scan takes the text of each formed descriptor.
use Rattle.std.proofs.Common.{◌≡◌, ℕ, ◌+◌, ◌-◌, ◌≤◌, ◌<◌, Bool, true, false, not, ◌&&◌, ◌==◌, List, [], ◌∷◌, ◌++◌, refl, sym, ap, subst, ◌∙◌, arith}
use Rattle.std.specs.Prelude.{if◌then◌else◌}
use Rattle.std.specs.List.{list_all}
use Rattle.std.proofs.lemmas.Bool.{and_parts, not-true, eqb-true, lt-ltb, leb-true}
use Rattle.desk_base.specs.Names.{Text, is_reserved}
use Rattle.desk_names.proofs.Bytes.{name_from, class_name_is}
use Rattle.desk_base.specs.Descriptors.{FieldType, Returned, Descriptor, DescriptorKind, type_text, types_text, returned_text, text_with, as_is, print, is_base, is_wide, is_type, units, units_of, is_returned, is_formed, kind_of, IsDescriptor}
use Rattle.desk_base.specs.Descriptors.{Position, Awaited, behind, behind_in_type, behind_in_name, step, run, is_over, start, is_descriptor}
use Rattle.desk_names.proofs.Scanned.{wide_at, unit_is, narrow}

third : (x y z : Bool) (a b c d : Awaited) → x ≡ false → y ≡ false → z ≡ true → (if x then a else if y then b else if z then c else d) ≡ c
third x y z a b c d p q r = ap (λ (v : Bool). if v then a else if y then b else if z then c else d) p ∙ ap (λ (v : Bool). if v then b else if z then c else d) q ∙ ap (λ (v : Bool). if v then c else d) r

fourth : (x y z : Bool) (a b c d : Awaited) → x ≡ false → y ≡ false → z ≡ false → (if x then a else if y then b else if z then c else d) ≡ d
fourth x y z a b c d p q r = ap (λ (v : Bool). if v then a else if y then b else if z then c else d) p ∙ ap (λ (v : Bool). if v then b else if z then c else d) q ∙ ap (λ (v : Bool). if v then c else d) r

-- a byte that passes a test is none that fails it
pub other : (test : ℕ → Bool) (k : Bool) (b x : ℕ) → test b ≡ not k → test x ≡ k → (b == x) ≡ false
other test k b x h e = go (b == x) refl
  where
    apart : (l : Bool) → not l ≡ l → ⊥
    apart true w = absurd cc
    apart false w = absurd cc

    go : (c : Bool) → (b == x) ≡ c → c ≡ false
    go true w = absurd (apart k (sym h ∙ ap test (eqb-true b x w) ∙ e))
    go false w = refl

base_step : (place : Position) (d c : ℕ) → is_base c ≡ true → behind_in_type place d c ≡ behind place (d == 0 && is_wide c)
base_step place d c h = third _ _ _ _ _ _ _ (other is_base false c 91 h refl) (other is_base false c 76 h refl) h

name_step : (place : Position) (i : Bool) (b : ℕ) → (b == 47) ≡ false → is_reserved b ≡ false → behind_in_name place i b ≡ Awaited.name_rest place true
name_step place i b e h = fourth _ _ _ _ _ _ _ (other is_reserved true b 59 h refl) e h

run_name : (place : Position) (i : Bool) (n s : Text) → name_from is_reserved i n ≡ true → run (Awaited.name_rest place i) (n ++ 59 ∷ s) ≡ run (behind place false) s
unfolding run step name_from
run_name place i [] s h = ap (λ (w : Bool). run (if w then behind place false else Awaited.wrong) s) h
run_name place i (b ∷ n) s h = go (b == 47) refl h (run_name place false n s) (run_name place true n s)
  where
    go : (c : Bool) → (b == 47) ≡ c → (if c then i && name_from is_reserved false n else not (is_reserved b) && name_from is_reserved true n) ≡ true
        → (name_from is_reserved false n ≡ true → run (Awaited.name_rest place false) (n ++ 59 ∷ s) ≡ run (behind place false) s)
        → (name_from is_reserved true n ≡ true → run (Awaited.name_rest place true) (n ++ 59 ∷ s) ≡ run (behind place false) s)
        → run (behind_in_name place i b) (n ++ 59 ∷ s) ≡ run (behind place false) s
    go true e k f g =
        ap (λ (x : ℕ). run (behind_in_name place i x) (n ++ 59 ∷ s)) (eqb-true b 47 e)
        ∙ ap (λ (w : Bool). run (if w then Awaited.name_rest place false else Awaited.wrong) (n ++ 59 ∷ s)) (and_parts _ _ k).0
        ∙ f (and_parts _ _ k).1
    go false e k f g =
        ap (λ (st : Awaited). run st (n ++ 59 ∷ s)) (name_step place i b e (not-true _ (and_parts _ _ k).0))
        ∙ g (and_parts _ _ k).1

run_type : (place : Position) (d : ℕ) (t : FieldType) (s : Text) → is_type (255 - d) t ≡ true → run (Awaited.type_behind place d) (type_text as_is t s) ≡ run (behind place (wide_at d t)) s
unfolding run step type_text is_type wide_at
run_type place d (FieldType.base c) s h = ap (λ (st : Awaited). run st s) (base_step place d c h)
run_type place d (FieldType.class n) s h = run_name place false n s (sym (class_name_is n) ∙ h)
run_type place d (FieldType.array t) s h =
    let one : 1 ≤ 255 - d = leb-true 1 (255 - d) (and_parts _ _ h).0 in
    let l : d < 255 = omega (arith, one) in
    let less : 255 - d - 1 ≡ 255 - (d + 1) = omega arith in
    ap (λ (w : Bool). run (if w then Awaited.type_behind place (d + 1) else Awaited.wrong) (type_text as_is t s)) (lt-ltb d 255 l)
    ∙ run_type place (d + 1) t s (subst (λ (n : ℕ). is_type n t ≡ true) less (and_parts _ _ h).1)
    ∙ ap (λ (w : Bool). run (behind place w) s) (narrow d t)

unit_step : (u : ℕ) (w : Bool) (n : ℕ) → (if w then 2 else 1) ≡ n → u + n ≤ 255 → behind (Position.parameter u) w ≡ Awaited.type_behind (Position.parameter (u + n)) 0
unit_step u true n e h =
    let l : u < 254 = omega (arith, e, h) in
    ap (λ (c : Bool). if c then Awaited.type_behind (Position.parameter (u + 2)) 0 else Awaited.wrong) (lt-ltb u 254 l) ∙ ap (λ (k : ℕ). Awaited.type_behind (Position.parameter (u + k)) 0) e
unit_step u false n e h =
    let l : u < 255 = omega (arith, e, h) in
    ap (λ (c : Bool). if c then Awaited.type_behind (Position.parameter (u + 1)) 0 else Awaited.wrong) (lt-ltb u 255 l) ∙ ap (λ (k : ℕ). Awaited.type_behind (Position.parameter (u + k)) 0) e

run_types : (u : ℕ) (ts : List FieldType) (s : Text) → list_all (is_type 255) ts ≡ true → u + units_of ts ≤ 255 → run (Awaited.type_behind (Position.parameter u) 0) (types_text as_is ts (41 ∷ s)) ≡ run (Awaited.type_behind Position.result 0) s
unfolding run step types_text units_of
run_types u [] s h r = refl
run_types u (t ∷ ts) s h r =
    let p = and_parts _ _ h in
    let one : u + units t ≤ 255 = omega (arith, r) in
    let two : u + units t + units_of ts ≤ 255 = omega (arith, r) in
    run_type (Position.parameter u) 0 t (types_text as_is ts (41 ∷ s)) p.0
    ∙ ap (λ (st : Awaited). run st (types_text as_is ts (41 ∷ s))) (unit_step u (wide_at 0 t) (units t) (sym (unit_is t (wide_at 0 t) refl)) one)
    ∙ run_types (u + units t) ts s p.1 two

run_returned : (r : Returned) → is_returned r ≡ true → run (Awaited.type_behind Position.result 0) (returned_text as_is r) ≡ Awaited.over
unfolding run step returned_text is_returned
run_returned Returned.void h = refl
run_returned (Returned.value t) h = run_type Position.result 0 t [] h

takes : (d : Descriptor) → is_formed d ≡ true → run (start (kind_of d)) (print d) ≡ Awaited.over
unfolding run step text_with is_formed kind_of
takes (Descriptor.field t) h = run_type Position.alone 0 t [] h
takes (Descriptor.method ts r) h =
    let p = and_parts _ _ h in
    let q = and_parts _ _ p.0 in
    let room : units_of ts ≤ 255 = leb-true _ _ q.1 in
    run_types 0 ts (returned_text as_is r) q.0 (omega (arith, room)) ∙ run_returned r p.1
takes (Descriptor.returned r) h = run_returned r h

-- the scan takes what a tree prints
pub taken : (kind : DescriptorKind) (s : Text) (d : Descriptor) → IsDescriptor kind s d → is_descriptor kind s ≡ true
unfolding is_descriptor
taken kind s d r = ap (λ (k : DescriptorKind). is_over (run (start k) s)) (sym r.kind) ∙ ap (λ (t : Text). is_over (run (start (kind_of d)) t)) (sym r.prints) ∙ ap is_over (takes d r.formed)
