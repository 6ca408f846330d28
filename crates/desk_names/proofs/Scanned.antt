-- The scan ends well exactly at the texts of formed descriptors.
use Rattle.std.proofs.Common.{◌≡◌, ℕ, ◌+◌, ◌-◌, ◌≤◌, ◌<◌, Bool, true, false, not, ◌&&◌, ◌==◌, nat_lt, List, [], ◌∷◌, ◌++◌, refl, sym, ap, subst, ◌∙◌, arith, ◌⊎◌, inl, inr}
use Rattle.std.specs.Prelude.{if◌then◌else◌}
use Rattle.std.specs.List.{list_all}
use Rattle.std.proofs.lemmas.Bool.{and_from, eqb-true, ltb-true, le-leb}
use Rattle.desk_base.specs.Names.{Text, is_reserved}
use Rattle.desk_names.proofs.Bytes.{name_from, class_name_is}
use Rattle.desk_base.specs.Descriptors.{FieldType, Returned, Descriptor, DescriptorKind, type_text, types_text, returned_text, text_with, as_is, is_base, is_wide, is_type, units, units_of, is_returned, is_formed, kind_of, IsDescriptor}
use Rattle.desk_base.specs.Descriptors.{Position, Awaited, behind, ends, step, run, is_over, is_descriptor}

-- What a text that completes a state is made of

pub record Parameters (u : ℕ) (s : Text) : Type 0 where
  pub trees : List FieldType
  pub result : Returned
  pub formed : list_all (is_type 255) trees ≡ true
  pub last : is_returned result ≡ true
  pub room : u + units_of trees ≤ 255
  pub is : s ≡ types_text as_is trees (41 ∷ returned_text as_is result)

-- behind a type, which is wide or not
pub After : Position → Bool → Text → Type 0
After Position.alone wide s = s ≡ []
After Position.result wide s = s ≡ []
After (Position.parameter u) true s = Parameters (u + 2) s
After (Position.parameter u) false s = Parameters (u + 1) s

-- whether a type behind so many `[` takes two units
unfoldable pub wide_at : ℕ → FieldType → Bool
wide_at d (FieldType.base c) = (d == 0) && is_wide c
wide_at d _ = false

pub record Typed (place : Position) (d : ℕ) (s : Text) : Type 0 where
  pub tree : FieldType
  pub more : Text
  pub formed : is_type (255 - d) tree ≡ true
  pub is : s ≡ type_text as_is tree more
  pub after : After place (wide_at d tree) more

pub record Named (place : Position) (inside : Bool) (s : Text) : Type 0 where
  pub name : Text
  pub more : Text
  pub formed : name_from is_reserved inside name ≡ true
  pub is : s ≡ name ++ 59 ∷ more
  pub after : After place false more

pub Emptied : Position → Text → Type 0
Emptied Position.alone s = ⊥
Emptied Position.result s = s ≡ 86 ∷ []
Emptied (Position.parameter u) s = (r : Returned) × (is_returned r ≡ true) × (s ≡ 41 ∷ returned_text as_is r)

pub record Ended (place : Position) (d : ℕ) (s : Text) : Type 0 where
  pub none : d ≡ 0
  pub is : Emptied place s

pub record Opened (s : Text) : Type 0 where
  pub more : Text
  pub is : s ≡ 40 ∷ more
  pub after : Parameters 0 more

pub Completes : Awaited → Text → Type 0
Completes Awaited.opening s = Opened s
Completes (Awaited.type_behind place d) s = Typed place d s ⊎ Ended place d s
Completes (Awaited.name_rest place inside) s = Named place inside s
Completes Awaited.over s = s ≡ []
Completes Awaited.wrong s = ⊥

-- One byte back

pub unit_is : (t : FieldType) (k : Bool) → wide_at 0 t ≡ k → units t ≡ (if k then 2 else 1)
unfolding units wide_at
unit_is (FieldType.base c) k e = ap (λ (w : Bool). if w then 2 else 1) e
unit_is (FieldType.class x) k e = ap (λ (w : Bool). if w then 2 else 1) e
unit_is (FieldType.array t) k e = ap (λ (w : Bool). if w then 2 else 1) e

one_more : (u : ℕ) (s more : Text) (t : FieldType) (k : Bool) → wide_at 0 t ≡ k → is_type 255 t ≡ true → s ≡ type_text as_is t more → After (Position.parameter u) k more → Parameters u s
unfolding types_text units_of After
one_more u s more t true w h e p =
    let n : units t ≡ 2 = unit_is t true w in
    record { trees = t ∷ p.trees; result = p.result; formed = and_from _ _ h p.formed; last = p.last; room = omega (arith, n, p.room); is = e ∙ ap (type_text as_is t) p.is }
one_more u s more t false w h e p =
    let n : units t ≡ 1 = unit_is t false w in
    record { trees = t ∷ p.trees; result = p.result; formed = and_from _ _ h p.formed; last = p.last; room = omega (arith, n, p.room); is = e ∙ ap (type_text as_is t) p.is }

assembled : (u : ℕ) (s : Text) → u ≤ 255 → Completes (Awaited.type_behind (Position.parameter u) 0) s → Parameters u s
unfolding Completes Emptied types_text units_of
assembled u s le (inl t) = one_more u s t.more t.tree (wide_at 0 t.tree) refl t.formed t.is t.after
assembled u s le (inr n) = record { trees = []; result = n.is.0; formed = refl; last = n.is.1; room = omega (arith, le); is = n.is.2 }

after_behind : (place : Position) (wide : Bool) (s : Text) → Completes (behind place wide) s → After place wide s
unfolding Completes After
after_behind Position.alone wide s h = h
after_behind Position.result wide s h = h
after_behind (Position.parameter u) true s h = go (nat_lt u 254) refl h
  where
    go : (c : Bool) → nat_lt u 254 ≡ c → Completes (if c then Awaited.type_behind (Position.parameter (u + 2)) 0 else Awaited.wrong) s → Parameters (u + 2) s
    go true e k = let l : u < 254 = ltb-true u 254 e in assembled (u + 2) s (omega (arith, l)) k
    go false e k = absurd k
after_behind (Position.parameter u) false s h = go (nat_lt u 255) refl h
  where
    go : (c : Bool) → nat_lt u 255 ≡ c → Completes (if c then Awaited.type_behind (Position.parameter (u + 1)) 0 else Awaited.wrong) s → Parameters (u + 1) s
    go true e k = let l : u < 255 = ltb-true u 255 e in assembled (u + 1) s (omega (arith, l)) k
    go false e k = absurd k

-- what stands behind a byte that begins no type
ends_outcome : (b : ℕ) (s : Text) (c : Bool) → (b == 86) ≡ c → Completes (if c then Awaited.over else Awaited.wrong) s → b ∷ s ≡ 86 ∷ []
unfolding Completes
ends_outcome b s true e h = ap (λ (x : ℕ). x ∷ s) (eqb-true b 86 e) ∙ ap (λ (t : Text). 86 ∷ t) h
ends_outcome b s false e h = absurd h

returned_back : (s : Text) → Completes (Awaited.type_behind Position.result 0) s → (r : Returned) × (is_returned r ≡ true) × (s ≡ returned_text as_is r)
unfolding Completes After Emptied returned_text is_returned
returned_back s (inl t) = (Returned.value t.tree, t.formed, t.is ∙ ap (type_text as_is t.tree) t.after)
returned_back s (inr n) = (Returned.void, refl, n.is)

ends_parameter : (b : ℕ) (s : Text) (c : Bool) → (b == 41) ≡ c → Completes (if c then Awaited.type_behind Position.result 0 else Awaited.wrong) s → (r : Returned) × (is_returned r ≡ true) × (b ∷ s ≡ 41 ∷ returned_text as_is r)
unfolding Completes
ends_parameter b s true e h =
    let r = returned_back s h in
    (r.0, r.1, ap (λ (x : ℕ). x ∷ s) (eqb-true b 41 e) ∙ ap (λ (t : Text). 41 ∷ t) r.2)
ends_parameter b s false e h = absurd h

ends_back : (place : Position) (b : ℕ) (s : Text) → Completes (ends place b) s → Emptied place (b ∷ s)
unfolding Completes Emptied
ends_back Position.alone b s h = absurd h
ends_back Position.result b s h = ends_outcome b s (b == 86) refl h
ends_back (Position.parameter u) b s h = ends_parameter b s (b == 41) refl h

pub narrow : (d : ℕ) (t : FieldType) → wide_at (d + 1) t ≡ false
unfolding wide_at
narrow d (FieldType.base c) = let e : (d + 1 == 0) ≡ false = grind arith in ap (λ (x : Bool). x && is_wide c) e
narrow d (FieldType.class x) = refl
narrow d (FieldType.array t) = refl

module _ (place : Position) (d : ℕ) (b : ℕ) (s : Text) where
  by_end : (c : Bool) → (d == 0) ≡ c → Completes (if c then ends place b else Awaited.wrong) s → Typed place d (b ∷ s) ⊎ Ended place d (b ∷ s)
  unfolding Completes
  by_end true e h = inr (record { none = eqb-true d 0 e; is = ends_back place b s h })
  by_end false e h = absurd h

  by_base : (c : Bool) → is_base b ≡ c → Completes (if c then behind place (d == 0 && is_wide b) else if d == 0 then ends place b else Awaited.wrong) s → Typed place d (b ∷ s) ⊎ Ended place d (b ∷ s)
  unfolding type_text is_type wide_at
  by_base true e h = inl (record { tree = FieldType.base b; more = s; formed = e; is = refl; after = after_behind place (d == 0 && is_wide b) s h })
  by_base false e h = by_end (d == 0) refl h

  by_class : (c : Bool) → (b == 76) ≡ c → Completes (if c then Awaited.name_rest place false else if is_base b then behind place (d == 0 && is_wide b) else if d == 0 then ends place b else Awaited.wrong) s → Typed place d (b ∷ s) ⊎ Ended place d (b ∷ s)
  unfolding Completes type_text is_type wide_at
  by_class true e h = inl (record { tree = FieldType.class h.name; more = h.more; formed = class_name_is h.name ∙ h.formed; is = ap (λ (x : ℕ). x ∷ s) (eqb-true b 76 e) ∙ ap (λ (t : Text). 76 ∷ t) h.is; after = h.after })
  by_class false e h = by_base (is_base b) refl h

  longer : (b ≡ 91) → d < 255 → Typed place (d + 1) s ⊎ Ended place (d + 1) s → Typed place d (b ∷ s) ⊎ Ended place d (b ∷ s)
  unfolding type_text is_type wide_at
  longer e l (inl t) =
      let one : 1 ≤ 255 - d = omega (arith, l) in
      let less : 255 - (d + 1) ≡ 255 - d - 1 = omega arith in
      inl (record {
        tree = FieldType.array t.tree;
        more = t.more;
        formed = and_from _ _ (le-leb 1 (255 - d) one) (subst (λ (n : ℕ). is_type n t.tree ≡ true) less t.formed);
        is = ap (λ (x : ℕ). x ∷ s) e ∙ ap (λ (t : Text). 91 ∷ t) t.is;
        after = subst (λ (w : Bool). After place w t.more) (narrow d t.tree) t.after;
      })
  longer e l (inr n) = let z : d + 1 ≡ 0 = n.none in absurd (omega (arith, z))

  by_room : (b ≡ 91) → (c : Bool) → nat_lt d 255 ≡ c → Completes (if c then Awaited.type_behind place (d + 1) else Awaited.wrong) s → Typed place d (b ∷ s) ⊎ Ended place d (b ∷ s)
  unfolding Completes
  by_room e true l h = longer e (ltb-true d 255 l) h
  by_room e false l h = absurd h

  by_array : (c : Bool) → (b == 91) ≡ c → Completes (if c then (if nat_lt d 255 then Awaited.type_behind place (d + 1) else Awaited.wrong) else if b == 76 then Awaited.name_rest place false else if is_base b then behind place (d == 0 && is_wide b) else if d == 0 then ends place b else Awaited.wrong) s → Typed place d (b ∷ s) ⊎ Ended place d (b ∷ s)
  by_array true e h = by_room (eqb-true b 91 e) (nat_lt d 255) refl h
  by_array false e h = by_class (b == 76) refl h

name_with : (i : Bool) (b : ℕ) (t : Text) (c : Bool) → (b == 47) ≡ c → (if c then i && name_from is_reserved false t else not (is_reserved b) && name_from is_reserved true t) ≡ true → name_from is_reserved i (b ∷ t) ≡ true
unfolding name_from
name_with i b t c e h = subst (λ (x : Bool). (if x then i && name_from is_reserved false t else not (is_reserved b) && name_from is_reserved true t) ≡ true) (sym e) h

module _ (place : Position) (b : ℕ) (s : Text) where
  by_plain : (inside : Bool) → (b == 47) ≡ false → (c : Bool) → is_reserved b ≡ c → Completes (if c then Awaited.wrong else Awaited.name_rest place true) s → Named place inside (b ∷ s)
  unfolding Completes
  by_plain i n true e h = absurd h
  by_plain i n false e h = record { name = b ∷ h.name; more = h.more; formed = name_with i b h.name false n (and_from _ _ (ap not e) h.formed); is = ap (λ (t : Text). b ∷ t) h.is; after = h.after }

  by_slash : (inside c : Bool) → (b == 47) ≡ c → Completes (if c then (if inside then Awaited.name_rest place false else Awaited.wrong) else if is_reserved b then Awaited.wrong else Awaited.name_rest place true) s → Named place inside (b ∷ s)
  unfolding Completes
  by_slash true true e h = record { name = b ∷ h.name; more = h.more; formed = name_with true b h.name true e h.formed; is = ap (λ (t : Text). b ∷ t) h.is; after = h.after }
  by_slash false true e h = absurd h
  by_slash i false e h = by_plain i e (is_reserved b) refl h

  by_semicolon : (inside c : Bool) → (b == 59) ≡ c → Completes (if c then (if inside then behind place false else Awaited.wrong) else if b == 47 then (if inside then Awaited.name_rest place false else Awaited.wrong) else if is_reserved b then Awaited.wrong else Awaited.name_rest place true) s → Named place inside (b ∷ s)
  unfolding Completes name_from
  by_semicolon true true e h = record { name = []; more = s; formed = refl; is = ap (λ (x : ℕ). x ∷ s) (eqb-true b 59 e); after = after_behind place false s h }
  by_semicolon false true e h = absurd h
  by_semicolon i false e h = by_slash i (b == 47) refl h

opens_back : (b : ℕ) (s : Text) (c : Bool) → (b == 40) ≡ c → Completes (if c then Awaited.type_behind (Position.parameter 0) 0 else Awaited.wrong) s → Opened (b ∷ s)
unfolding Completes
opens_back b s true e h = record { more = s; is = ap (λ (x : ℕ). x ∷ s) (eqb-true b 40 e); after = assembled 0 s (omega arith) h }
opens_back b s false e h = absurd h

back : (st : Awaited) (b : ℕ) (s : Text) → Completes (step st b) s → Completes st (b ∷ s)
unfolding Completes step
back Awaited.opening b s h = opens_back b s (b == 40) refl h
back (Awaited.type_behind place d) b s h = by_array place d b s (b == 91) refl h
back (Awaited.name_rest place inside) b s h = by_semicolon place b s inside (b == 59) refl h
back Awaited.over b s h = absurd h
back Awaited.wrong b s h = absurd h

at_end : (st : Awaited) → is_over st ≡ true → Completes st []
unfolding Completes
at_end Awaited.opening h = absurd cc
at_end (Awaited.type_behind place d) h = absurd cc
at_end (Awaited.name_rest place inside) h = absurd cc
at_end Awaited.over h = refl
at_end Awaited.wrong h = absurd cc

pub completes : (st : Awaited) (s : Text) → is_over (run st s) ≡ true → Completes st s
unfolding run
completes st [] h = at_end st h
completes st (b ∷ s) h = back st b s (completes (step st b) s h)

-- A text that the scan takes is printed by a tree.
pub tree_of : (kind : DescriptorKind) (s : Text) → is_descriptor kind s ≡ true → (t : Descriptor) × IsDescriptor kind s t
unfolding is_descriptor Completes After Emptied text_with is_formed kind_of
tree_of DescriptorKind.field s h = alone (completes (Awaited.type_behind Position.alone 0) s h)
  where
    alone : Completes (Awaited.type_behind Position.alone 0) s → (t : Descriptor) × IsDescriptor DescriptorKind.field s t
    alone (inl t) = (Descriptor.field t.tree, record { kind = refl; formed = t.formed; prints = sym (t.is ∙ ap (type_text as_is t.tree) t.after) })
    alone (inr n) = absurd n.is
tree_of DescriptorKind.return s h =
    let r = returned_back s (completes (Awaited.type_behind Position.result 0) s h) in
    (Descriptor.returned r.0, record { kind = refl; formed = r.1; prints = sym r.2 })
tree_of DescriptorKind.method s h =
    let o : Opened s = completes Awaited.opening s h in
    let p : Parameters 0 o.more = o.after in
    let room : units_of p.trees ≤ 255 = omega (arith, p.room) in
    (Descriptor.method p.trees p.result, record { kind = refl; formed = and_from _ _ (and_from _ _ p.formed (le-leb _ _ room)) p.last; prints = sym (o.is ∙ ap (λ (t : Text). 40 ∷ t) p.is) })
