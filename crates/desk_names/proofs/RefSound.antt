-- A text that completes a reference is printed by one, in front of what stands behind it.
use Rattle.std.proofs.Common.{◌≡◌, ℕ, zero, suc, ◌+◌, ◌-◌, ◌≤◌, ◌<◌, Bool, true, false, not, ◌&&◌, ◌||◌, ◌==◌, nat_lt, [], ◌∷◌, ◌++◌, refl, sym, ap, subst, ◌∙◌, arith, add-one, ◌⊎◌, inl, inr}
use Rattle.std.specs.Prelude.{if◌then◌else◌}
use Rattle.std.specs.List.{list_all}
use Rattle.std.proofs.lemmas.Bool.{and_parts, and_from, both_ways, eqb-true, ltb-true, le-leb}
use Rattle.desk_names.specs.declared.signatures.Spot.TheVariants as spots
use Rattle.desk_names.specs.declared.signatures.RefState.{RefState}
use Rattle.desk_names.specs.declared.signatures.RefState.TheVariants as ref_states
use Rattle.desk_base.specs.Names.{Text}
use Rattle.desk_base.specs.Descriptors.{is_base, as_is}
use Rattle.desk_base.specs.Signatures.{JavaType, Ref, ClassType, Inner, Args, Arg, java_text, ref_text, inner_text, args_text, each_text, arg_text, is_java, is_ref, is_inner, is_args, is_each, is_arg, is_mark, is_signature_identifier}
use Rattle.desk_names.specs.SignatureScan.{ref_behind, in_class, ref_step}
use Rattle.desk_names.proofs.Bytes.{name_from, signature_name_is}
use Rattle.desk_names.proofs.Takes.{other}

-- what stands behind a class type's arguments, and then P
pub record ClosedOf (P : Text → Type 0) (k : ℕ) (s : Text) : Type 0 where
  pub inner : Inner
  pub more : Text
  pub formed : is_inner k inner ≡ true
  pub is : s ≡ inner_text as_is inner (59 ∷ more)
  pub after : P more

-- further arguments, the `>`, and then P
pub record RestOf (P : Text → Type 0) (k : ℕ) (s : Text) : Type 0 where
  pub rest : Args
  pub more : Text
  pub formed : is_each k rest ≡ true
  pub is : s ≡ each_text as_is rest (62 ∷ more)
  pub after : P more

-- a suffix of an identifier, of which something has been read or not
unfoldable pub is_tail : Bool → Text → Bool
is_tail inside [] = inside
is_tail inside (b ∷ t) = not (is_mark b) && is_tail true t

tail_all : (t : Text) → is_tail true t ≡ list_all (λ b. not (is_mark b)) t
unfolding is_tail
tail_all [] = refl
tail_all (b ∷ t) = ap (λ (x : Bool). not (is_mark b) && x) (tail_all t)

pub is_tail_identifier : (t : Text) → is_tail false t ≡ true → is_signature_identifier t ≡ true
unfolding is_tail
is_tail_identifier [] h = absurd cc
is_tail_identifier (b ∷ t) h = ap (λ (x : Bool). not (is_mark b) && x) (sym (tail_all t)) ∙ h

-- Throughout, P is what stands behind the whole reference.
module _ (P : Text → Type 0) where
  -- behind a reference, in so many open argument lists, of which at most 64 stand one within another
  unfoldable pub Behind : ℕ → Text → Type 0
  Behind zero s = P s
  Behind (suc d) s = RestOf (ClosedOf (Behind d) (64 - d)) (64 - suc d) s

  pub record RefAt (d : ℕ) (base : Bool) (s : Text) : Type 0 where
    pub tree : JavaType
    pub more : Text
    pub allowed : (base ≡ true) ⊎ ((r : Ref) × (tree ≡ JavaType.ref r))
    pub formed : is_java (64 - d) tree ≡ true
    pub is : s ≡ java_text as_is tree more
    pub after : Behind d more

  -- the rest of a name by a test, its arguments and inner names
  pub record ClassAt (test : Text → Bool) (d : ℕ) (s : Text) : Type 0 where
    pub name : Text
    pub args : Args
    pub inner : Inner
    pub more : Text
    pub named : test name ≡ true
    pub args_formed : is_args (64 - d) args ≡ true
    pub inner_formed : is_inner (64 - d) inner ≡ true
    pub is : s ≡ name ++ args_text as_is args (inner_text as_is inner (59 ∷ more))
    pub after : Behind d more

  pub record VariableAt (i : Bool) (d : ℕ) (s : Text) : Type 0 where
    pub name : Text
    pub more : Text
    pub named : is_tail i name ≡ true
    pub is : s ≡ name ++ 59 ∷ more
    pub after : Behind d more

  -- in an argument list, with an argument before or not
  abbrev pub ArgsAt : ℕ → Bool → Text → Type 0
  ArgsAt zero some s = Unit {0}
  ArgsAt (suc d) true s = Behind (suc d) s
  ArgsAt (suc d) false s = (a : Arg) × (more : Text) × (is_arg (64 - suc d) a ≡ true) × (s ≡ arg_text as_is a more) × RestOf (ClosedOf (Behind d) (64 - d)) (64 - suc d) more

  unfoldable pub Fits : RefState → Text → Type 0
  Fits (ref_states.Ref d base) s = RefAt d base s
  Fits (ref_states.Class d (spots.Package i)) s = ClassAt (name_from is_mark i) d s
  Fits (ref_states.Class d (spots.Inner i)) s = ClassAt (is_tail i) d s
  Fits (ref_states.Class d spots.Closed) s = ClosedOf (Behind d) (64 - d) s
  Fits (ref_states.Variable d i) s = VariableAt i d s
  Fits (ref_states.Args d some) s = ArgsAt d some s
  Fits ref_states.Over s = P s
  Fits ref_states.Wrong s = ⊥

  behind_by : (d : ℕ) (s : Text) → Fits (ref_behind d) s → Behind d s
  unfolding Fits Behind
  behind_by zero s h = h
  behind_by (suc d) s h = subst (λ (c : Bool). Fits (if c then ref_states.Over else ref_states.Args (suc d) true) s) (never d) h
    where
      never : (d : ℕ) → (suc d == 0) ≡ false
      never d = grind arith

  -- an argument in front of what fits behind it
  arg_front : (d : ℕ) (a : Arg) (some : Bool) (s more : Text) → is_arg (64 - suc d) a ≡ true → s ≡ arg_text as_is a more → Behind (suc d) more → ArgsAt (suc d) some s
  unfolding Behind each_text is_each
  arg_front d a false s more h e p = (a, more, h, e, p)
  arg_front d a true s more h e p = record { rest = Args.more a p.rest; more = p.more; formed = and_from _ _ h p.formed; is = e ∙ ap (arg_text as_is a) p.is; after = p.after }

  -- a class type behind its name: `;`, `.` and more, or `<` and arguments
  pub record TailAt (wide : Bool) (d : ℕ) (s : Text) : Type 0 where
    pub args : Args
    pub inner : Inner
    pub more : Text
    pub narrow : (wide ≡ true) ⊎ (args ≡ Args.none)
    pub args_formed : is_args (64 - d) args ≡ true
    pub inner_formed : is_inner (64 - d) inner ≡ true
    pub is : s ≡ args_text as_is args (inner_text as_is inner (59 ∷ more))
    pub after : Behind d more

  pub java_ref : (k : ℕ) (r : Ref) → is_java k (JavaType.ref r) ≡ true → is_ref k r ≡ true
  unfolding is_java
  java_ref k r h = h

  pub java_print : (r : Ref) (t : Text) → java_text as_is (JavaType.ref r) t ≡ ref_text as_is r t
  unfolding java_text
  java_print r t = refl

  name_nil : name_from is_mark true [] ≡ true
  unfolding name_from
  name_nil = refl

  module _ (d : ℕ) (b : ℕ) (s : Text) where
    list_front : (wide : Bool) → wide ≡ true → d < 64 → b ≡ 60 → ArgsAt (suc d) false s → TailAt wide d (b ∷ s)
    unfolding args_text is_args
    list_front wide w l e (a, more, h, is, r) =
        let one : 1 ≤ 64 - d = omega (arith, l) in
        let less : 64 - suc d ≡ 64 - d - 1 = omega arith in
        record {
          args = Args.more a r.rest;
          inner = r.after.inner;
          more = r.after.more;
          narrow = inl w;
          args_formed = and_from _ _ (and_from _ _ (le-leb 1 (64 - d) one) (subst (λ (k : ℕ). is_arg k a ≡ true) less h)) (subst (λ (k : ℕ). is_each k r.rest ≡ true) less r.formed);
          inner_formed = r.after.formed;
          is = ap (λ (x : ℕ). x ∷ s) e ∙ ap (λ (t : Text). 60 ∷ t) (is ∙ ap (arg_text as_is a) (r.is ∙ ap (λ (t : Text). each_text as_is r.rest (62 ∷ t)) r.after.is));
          after = r.after.after;
        }

    by_list : (wide c : Bool) → (b == 60) ≡ c → Fits (if c then (if wide && nat_lt d 64 then ref_states.Args (d + 1) false else ref_states.Wrong) else ref_states.Wrong) s → TailAt wide d (b ∷ s)
    unfolding Fits
    by_list wide false e h = absurd h
    by_list wide true e h = go (wide && nat_lt d 64) refl h
      where
        go : (c : Bool) → (wide && nat_lt d 64) ≡ c → Fits (if c then ref_states.Args (d + 1) false else ref_states.Wrong) s → TailAt wide d (b ∷ s)
        go true w k = list_front wide (and_parts _ _ w).0 (ltb-true d 64 (and_parts _ _ w).1) (eqb-true b 60 e) (subst (λ (n : ℕ). ArgsAt n false s) (add-one d) k)
        go false w k = absurd k

    by_dot : (wide c : Bool) → (b == 46) ≡ c → Fits (if c then ref_states.Class d (spots.Inner false) else if b == 60 then (if wide && nat_lt d 64 then ref_states.Args (d + 1) false else ref_states.Wrong) else ref_states.Wrong) s → TailAt wide d (b ∷ s)
    unfolding Fits args_text is_args inner_text is_inner
    by_dot wide true e h = record { args = Args.none; inner = Inner.dot h.name h.args h.inner; more = h.more; narrow = inr refl; args_formed = refl; inner_formed = and_from _ _ (and_from _ _ (is_tail_identifier h.name h.named) h.args_formed) h.inner_formed; is = ap (λ (x : ℕ). x ∷ s) (eqb-true b 46 e) ∙ ap (λ (t : Text). 46 ∷ t) h.is; after = h.after }
    by_dot wide false e h = by_list wide (b == 60) refl h

    by_semi : (wide c : Bool) → (b == 59) ≡ c → Fits (if c then ref_behind d else if b == 46 then ref_states.Class d (spots.Inner false) else if b == 60 then (if wide && nat_lt d 64 then ref_states.Args (d + 1) false else ref_states.Wrong) else ref_states.Wrong) s → TailAt wide d (b ∷ s)
    unfolding args_text is_args inner_text is_inner
    by_semi wide true e h = record { args = Args.none; inner = Inner.done; more = s; narrow = inr refl; args_formed = refl; inner_formed = refl; is = ap (λ (x : ℕ). x ∷ s) (eqb-true b 59 e); after = behind_by d s h }
    by_semi wide false e h = by_dot wide (b == 46) refl h

    tail_back : (wide : Bool) → Fits (in_class d wide b) s → TailAt wide d (b ∷ s)
    tail_back wide h = by_semi wide (b == 59) refl h

    closed_none : (x : Args) (i : Inner) (m : Text) → (false ≡ true) ⊎ (x ≡ Args.none) → is_inner (64 - d) i ≡ true → b ∷ s ≡ args_text as_is x (inner_text as_is i (59 ∷ m)) → Behind d m → ClosedOf (Behind d) (64 - d) (b ∷ s)
    unfolding args_text
    closed_none x i m (inl w) h e p = absurd (both_ways false refl w)
    closed_none x i m (inr w) h e p = record { inner = i; more = m; formed = h; is = e ∙ ap (λ (y : Args). args_text as_is y (inner_text as_is i (59 ∷ m))) w; after = p }

    closed_back : Fits (in_class d false b) s → ClosedOf (Behind d) (64 - d) (b ∷ s)
    closed_back h =
        let t : TailAt false d (b ∷ s) = tail_back false h in
        closed_none t.args t.inner t.more t.narrow t.inner_formed t.is t.after

    class_front : (test : Text → Bool) → test [] ≡ true → TailAt true d (b ∷ s) → ClassAt test d (b ∷ s)
    class_front test e t = record { name = []; args = t.args; inner = t.inner; more = t.more; named = e; args_formed = t.args_formed; inner_formed = t.inner_formed; is = t.is; after = t.after }

    inner_back : (i c : Bool) → is_mark b ≡ c → Fits (if not c then ref_states.Class d (spots.Inner true) else if i then in_class d true b else ref_states.Wrong) s → ClassAt (is_tail i) d (b ∷ s)
    unfolding Fits is_tail
    inner_back i false e h = record { name = b ∷ h.name; args = h.args; inner = h.inner; more = h.more; named = and_from _ _ (ap not e) h.named; args_formed = h.args_formed; inner_formed = h.inner_formed; is = ap (λ (t : Text). b ∷ t) h.is; after = h.after }
    inner_back true true e h = class_front (is_tail true) refl (tail_back true h)
    inner_back false true e h = absurd h

    variable_back : (i c : Bool) → is_mark b ≡ c → Fits (if not c then ref_states.Variable d true else if i && b == 59 then ref_behind d else ref_states.Wrong) s → VariableAt i d (b ∷ s)
    unfolding Fits is_tail
    variable_back i false e h = record { name = b ∷ h.name; more = h.more; named = and_from _ _ (ap not e) h.named; is = ap (λ (t : Text). b ∷ t) h.is; after = h.after }
    variable_back i true e h = go (i && b == 59) refl h
      where
        go : (c : Bool) → (i && b == 59) ≡ c → Fits (if c then ref_behind d else ref_states.Wrong) s → VariableAt i d (b ∷ s)
        go true w k = record { name = []; more = s; named = (and_parts _ _ w).0; is = ap (λ (x : ℕ). x ∷ s) (eqb-true b 59 (and_parts _ _ w).1); after = behind_by d s k }
        go false w k = absurd k

    -- a reference by its first byte
    class_ref : b ≡ 76 → ClassAt (name_from is_mark false) d s → (r : Ref) × (more : Text) × (is_ref (64 - d) r ≡ true) × (b ∷ s ≡ ref_text as_is r more) × Behind d more
    unfolding ref_text is_ref
    class_ref e h = (Ref.class (ClassType.named h.name h.args h.inner), h.more, and_from _ _ (and_from _ _ (signature_name_is h.name ∙ h.named) h.args_formed) h.inner_formed, ap (λ (x : ℕ). x ∷ s) e ∙ ap (λ (t : Text). 76 ∷ t) h.is, h.after)

    variable_ref : b ≡ 84 → VariableAt false d s → (r : Ref) × (more : Text) × (is_ref (64 - d) r ≡ true) × (b ∷ s ≡ ref_text as_is r more) × Behind d more
    unfolding ref_text is_ref
    variable_ref e h = (Ref.variable h.name, h.more, is_tail_identifier h.name h.named, ap (λ (x : ℕ). x ∷ s) e ∙ ap (λ (t : Text). 84 ∷ t) h.is, h.after)

    array_ref : b ≡ 91 → RefAt d true s → (r : Ref) × (more : Text) × (is_ref (64 - d) r ≡ true) × (b ∷ s ≡ ref_text as_is r more) × Behind d more
    unfolding ref_text is_ref
    array_ref e h = (Ref.array h.tree, h.more, h.formed, ap (λ (x : ℕ). x ∷ s) e ∙ ap (λ (t : Text). 91 ∷ t) h.is, h.after)

    as_java : (base : Bool) → (r : Ref) × (more : Text) × (is_ref (64 - d) r ≡ true) × (b ∷ s ≡ ref_text as_is r more) × Behind d more → RefAt d base (b ∷ s)
    unfolding java_text is_java
    as_java base (r, more, h, e, p) = record { tree = JavaType.ref r; more = more; allowed = inr (r, refl); formed = h; is = e; after = p }

    ref_base : (base c : Bool) → (base && is_base b) ≡ c → Fits (if c then ref_behind d else ref_states.Wrong) s → RefAt d base (b ∷ s)
    unfolding Fits java_text is_java
    ref_base base true e h = record { tree = JavaType.base b; more = s; allowed = inl (and_parts _ _ e).0; formed = (and_parts _ _ e).1; is = refl; after = behind_by d s h }
    ref_base base false e h = absurd h

    ref_array : (base c : Bool) → (b == 91) ≡ c → Fits (if c then ref_states.Ref d true else if base && is_base b then ref_behind d else ref_states.Wrong) s → RefAt d base (b ∷ s)
    unfolding Fits
    ref_array base true e h = as_java base (array_ref (eqb-true b 91 e) h)
    ref_array base false e h = ref_base base (base && is_base b) refl h

    ref_variable : (base c : Bool) → (b == 84) ≡ c → Fits (if c then ref_states.Variable d false else if b == 91 then ref_states.Ref d true else if base && is_base b then ref_behind d else ref_states.Wrong) s → RefAt d base (b ∷ s)
    unfolding Fits
    ref_variable base true e h = as_java base (variable_ref (eqb-true b 84 e) h)
    ref_variable base false e h = ref_array base (b == 91) refl h

    ref_back : (base c : Bool) → (b == 76) ≡ c → Fits (if c then ref_states.Class d (spots.Package false) else if b == 84 then ref_states.Variable d false else if b == 91 then ref_states.Ref d true else if base && is_base b then ref_behind d else ref_states.Wrong) s → RefAt d base (b ∷ s)
    unfolding Fits
    ref_back base true e h = as_java base (class_ref (eqb-true b 76 e) h)
    ref_back base false e h = ref_variable base (b == 84) refl h

    -- a name before arguments
    plain_name : (i : Bool) → is_mark b ≡ false → (n : Text) → name_from is_mark true n ≡ true → name_from is_mark i (b ∷ n) ≡ true
    unfolding name_from
    plain_name i e n h = subst (λ (c : Bool). (if c then i && name_from is_mark false n else not (is_mark b) && name_from is_mark true n) ≡ true) (sym (other is_mark true b 47 e refl)) (and_from _ _ (ap not e) h)

    slash_name : b ≡ 47 → (n : Text) → name_from is_mark false n ≡ true → name_from is_mark true (b ∷ n) ≡ true
    unfolding name_from
    slash_name e n h = subst (λ (x : ℕ). (if x == 47 then name_from is_mark false n else not (is_mark x) && name_from is_mark true n) ≡ true) (sym e) h

    named_more : (test : Text → Bool) (h : ClassAt (name_from is_mark true) d s) → test (b ∷ h.name) ≡ true → ClassAt test d (b ∷ s)
    named_more test h e = record { name = b ∷ h.name; args = h.args; inner = h.inner; more = h.more; named = e; args_formed = h.args_formed; inner_formed = h.inner_formed; is = ap (λ (t : Text). b ∷ t) h.is; after = h.after }

    package_slash : (c : Bool) → (b == 47) ≡ c → Fits (if c then ref_states.Class d (spots.Package false) else in_class d true b) s → ClassAt (name_from is_mark true) d (b ∷ s)
    unfolding Fits
    package_slash true e h = record { name = b ∷ h.name; args = h.args; inner = h.inner; more = h.more; named = slash_name (eqb-true b 47 e) h.name h.named; args_formed = h.args_formed; inner_formed = h.inner_formed; is = ap (λ (t : Text). b ∷ t) h.is; after = h.after }
    package_slash false e h = class_front (name_from is_mark true) nil (tail_back true h)
      where
        nil : name_from is_mark true [] ≡ true
        nil = name_nil

    package_back : (i c : Bool) → is_mark b ≡ c → Fits (if not c then ref_states.Class d (spots.Package true) else if not i then ref_states.Wrong else if b == 47 then ref_states.Class d (spots.Package false) else in_class d true b) s → ClassAt (name_from is_mark i) d (b ∷ s)
    unfolding Fits
    package_back i false e h = named_more (name_from is_mark i) h (plain_name i e h.name h.named)
    package_back true true e h = package_slash (b == 47) refl h
    package_back false true e h = absurd h

  module _ (d : ℕ) (b : ℕ) (s : Text) (some : Bool) where
    one_ref_front : (r : Ref) × (more : Text) × (is_ref (64 - suc d) r ≡ true) × (b ∷ s ≡ ref_text as_is r more) × Behind (suc d) more → ArgsAt (suc d) some (b ∷ s)
    unfolding is_arg arg_text
    one_ref_front (r, more, h, e, p) = arg_front d (Arg.exactly r) some (b ∷ s) more h e p

    args_array : (c : Bool) → (b == 91) ≡ c → Fits (if c then ref_states.Ref (suc d) true else ref_states.Wrong) s → ArgsAt (suc d) some (b ∷ s)
    unfolding Fits
    args_array true e h = one_ref_front (array_ref (suc d) b s (eqb-true b 91 e) h)
    args_array false e h = absurd h

    args_variable : (c : Bool) → (b == 84) ≡ c → Fits (if c then ref_states.Variable (suc d) false else if b == 91 then ref_states.Ref (suc d) true else ref_states.Wrong) s → ArgsAt (suc d) some (b ∷ s)
    unfolding Fits
    args_variable true e h = one_ref_front (variable_ref (suc d) b s (eqb-true b 84 e) h)
    args_variable false e h = args_array (b == 91) refl h

    args_class : (c : Bool) → (b == 76) ≡ c → Fits (if c then ref_states.Class (suc d) (spots.Package false) else if b == 84 then ref_states.Variable (suc d) false else if b == 91 then ref_states.Ref (suc d) true else ref_states.Wrong) s → ArgsAt (suc d) some (b ∷ s)
    unfolding Fits
    args_class true e h = one_ref_front (class_ref (suc d) b s (eqb-true b 76 e) h)
    args_class false e h = args_variable (b == 84) refl h

    end_front : some ≡ true → b ≡ 62 → ClosedOf (Behind d) (64 - d) s → ArgsAt (suc d) some (b ∷ s)
    unfolding Behind each_text is_each
    end_front w e h =
        let done : Behind (suc d) (b ∷ s) = record { rest = Args.none; more = s; formed = refl; is = ap (λ (x : ℕ). x ∷ s) e; after = h } in
        subst (λ (c : Bool). ArgsAt (suc d) c (b ∷ s)) (sym w) done

    args_end : (c : Bool) → (b == 62) ≡ c → Fits (if c then (if some && nat_lt 0 (suc d) then ref_states.Class (suc d - 1) spots.Closed else ref_states.Wrong) else if b == 76 then ref_states.Class (suc d) (spots.Package false) else if b == 84 then ref_states.Variable (suc d) false else if b == 91 then ref_states.Ref (suc d) true else ref_states.Wrong) s → ArgsAt (suc d) some (b ∷ s)
    unfolding Fits
    args_end true e h = go (some && nat_lt 0 (suc d)) refl h
      where
        go : (c : Bool) → (some && nat_lt 0 (suc d)) ≡ c → Fits (if c then ref_states.Class (suc d - 1) spots.Closed else ref_states.Wrong) s → ArgsAt (suc d) some (b ∷ s)
        go true w k = let less : suc d - 1 ≡ d = omega arith in end_front (and_parts _ _ w).0 (eqb-true b 62 e) (subst (λ (n : ℕ). ClosedOf (Behind n) (64 - n) s) less k)
        go false w k = absurd k
    args_end false e h = args_class (b == 76) refl h

    signed : (make : Ref → Arg) (x : ℕ) → ((r : Ref) → is_ref (64 - suc d) r ≡ true → is_arg (64 - suc d) (make r) ≡ true) → ((r : Ref) (t : Text) → arg_text as_is (make r) t ≡ x ∷ ref_text as_is r t) → b ≡ x → RefAt (suc d) false s → ArgsAt (suc d) some (b ∷ s)
    signed make x f g e h = go h.allowed
      where
        go : (false ≡ true) ⊎ ((r : Ref) × (h.tree ≡ JavaType.ref r)) → ArgsAt (suc d) some (b ∷ s)
        go (inl w) = absurd (both_ways false refl w)
        go (inr (r, w)) = arg_front d (make r) some (b ∷ s) h.more (f r (java_ref (64 - suc d) r (subst (λ (j : JavaType). is_java (64 - suc d) j ≡ true) w h.formed))) (ap (λ (y : ℕ). y ∷ s) e ∙ ap (λ (t : Text). x ∷ t) (h.is ∙ ap (λ (j : JavaType). java_text as_is j h.more) w ∙ java_print r h.more) ∙ sym (g r h.more)) h.after

    extends_formed : (r : Ref) → is_ref (64 - suc d) r ≡ true → is_arg (64 - suc d) (Arg.extends r) ≡ true
    unfolding is_arg
    extends_formed r h = h

    above_formed : (r : Ref) → is_ref (64 - suc d) r ≡ true → is_arg (64 - suc d) (Arg.super_of r) ≡ true
    unfolding is_arg
    above_formed r h = h

    extends_print : (r : Ref) (t : Text) → arg_text as_is (Arg.extends r) t ≡ 43 ∷ ref_text as_is r t
    unfolding arg_text
    extends_print r t = refl

    above_print : (r : Ref) (t : Text) → arg_text as_is (Arg.super_of r) t ≡ 45 ∷ ref_text as_is r t
    unfolding arg_text
    above_print r t = refl

    args_sign : (c e : Bool) → (b == 43) ≡ c → (b == 45) ≡ e → Fits (if c || e then ref_states.Ref (suc d) false else if b == 62 then (if some && nat_lt 0 (suc d) then ref_states.Class (suc d - 1) spots.Closed else ref_states.Wrong) else if b == 76 then ref_states.Class (suc d) (spots.Package false) else if b == 84 then ref_states.Variable (suc d) false else if b == 91 then ref_states.Ref (suc d) true else ref_states.Wrong) s → ArgsAt (suc d) some (b ∷ s)
    unfolding Fits
    args_sign true e p q h = signed Arg.extends 43 extends_formed extends_print (eqb-true b 43 p) h
    args_sign false true p q h = signed Arg.super_of 45 above_formed above_print (eqb-true b 45 q) h
    args_sign false false p q h = args_end (b == 62) refl h

    args_any : (c : Bool) → (b == 42) ≡ c → Fits (if c then ref_states.Args (suc d) true else if b == 43 || b == 45 then ref_states.Ref (suc d) false else if b == 62 then (if some && nat_lt 0 (suc d) then ref_states.Class (suc d - 1) spots.Closed else ref_states.Wrong) else if b == 76 then ref_states.Class (suc d) (spots.Package false) else if b == 84 then ref_states.Variable (suc d) false else if b == 91 then ref_states.Ref (suc d) true else ref_states.Wrong) s → ArgsAt (suc d) some (b ∷ s)
    unfolding Fits arg_text is_arg
    args_any true e h = arg_front d Arg.any some (b ∷ s) s refl (ap (λ (x : ℕ). x ∷ s) (eqb-true b 42 e)) h
    args_any false e h = args_sign (b == 43) (b == 45) refl refl h

  pub ref_back_step : (st : RefState) (b : ℕ) (s : Text) → Fits (ref_step st b) s → Fits st (b ∷ s)
  unfolding Fits ref_step
  ref_back_step (ref_states.Ref d base) b s h = ref_back d b s base (b == 76) refl h
  ref_back_step (ref_states.Class d (spots.Package i)) b s h = package_back d b s i (is_mark b) refl h
  ref_back_step (ref_states.Class d (spots.Inner i)) b s h = inner_back d b s i (is_mark b) refl h
  ref_back_step (ref_states.Class d spots.Closed) b s h = closed_back d b s h
  ref_back_step (ref_states.Variable d i) b s h = variable_back d b s i (is_mark b) refl h
  ref_back_step (ref_states.Args zero some) b s h = tt
  ref_back_step (ref_states.Args (suc d) some) b s h = args_any d b s some (b == 42) refl h
  ref_back_step ref_states.Over b s h = absurd h
  ref_back_step ref_states.Wrong b s h = absurd h
