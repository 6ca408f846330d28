-- What is made of a signature byte by byte, along the states of the scan, is what is made of its tree.
use Rattle.std.proofs.Common.{◌≡◌, ℕ, ◌+◌, ◌-◌, ◌≤◌, ◌<◌, Bool, true, false, not, ◌&&◌, ◌==◌, List, [], ◌∷◌, ◌++◌, Option, Some, None, refl, sym, ap, subst, ◌∙◌, arith}
use Rattle.std.specs.Prelude.{if◌then◌else◌}
use Rattle.std.specs.List.{list_all}
use Rattle.std.proofs.lemmas.Bool.{and_parts, not-true, lt-ltb, leb-true}
use Rattle.desk_names.specs.declared.signatures.Owner.{Owner}
use Rattle.desk_names.specs.declared.signatures.Owner.TheVariants as owners
use Rattle.desk_names.specs.declared.signatures.RefPlace.{RefPlace}
use Rattle.desk_names.specs.declared.signatures.RefPlace.TheVariants as ref_places
use Rattle.desk_names.specs.declared.signatures.Spot.{Spot}
use Rattle.desk_names.specs.declared.signatures.Spot.TheVariants as spots
use Rattle.desk_names.specs.declared.signatures.RefState.{RefState}
use Rattle.desk_names.specs.declared.signatures.RefState.TheVariants as ref_states
use Rattle.desk_names.specs.declared.signatures.SigState.{SigState}
use Rattle.desk_names.specs.declared.signatures.SigState.TheVariants as sig_states
use Rattle.desk_base.specs.Names.{Text}
use Rattle.desk_base.specs.Descriptors.{is_base, as_is}
use Rattle.desk_base.specs.Signatures.{JavaType, Ref, ClassType, Inner, Args, Arg, Param, Thrown, Signature, kind_of, is_mark, is_signature_identifier, is_signature_name, is_java, is_ref, is_class, is_inner, is_args, is_each, is_arg, is_bound, is_param, is_result, is_thrown, is_signature, java_text, ref_text, class_text, inner_text, args_text, each_text, arg_text, bound_text, bounds_text, each_param, params_text, classes_text, javas_text, result_text, thrown_text, signature_text}
use Rattle.desk_names.specs.SignatureScan.{ref_behind, in_class, ref_step, after, at_place, first_bound, body_step, sig_step, may_end, sig_start}
use Rattle.desk_names.specs.SignaturePieces.{is_naming}
use Rattle.desk_names.proofs.Takes.{other}
use Rattle.desk_names.proofs.OneSignature.{stopped, behind_stopped, ends_class, ref_mark, params_mark, bounds_mark, bound_by_mark}
use Rattle.desk_names.proofs.Emitted.{puts, emit_java, emit_ref, emit_class, emit_inner, emit_args, emit_each, emit_arg, emit_bound, emit_bounds, emit_each_param, emit_params, emit_classes, emit_javas, emit_result, emit_thrown, emit_signature}

base_step : (d c : ℕ) → is_base c ≡ true → ref_step (ref_states.Ref d true) c ≡ ref_behind d
unfolding ref_step
base_step d c h =
    ap (λ (v : Bool). if v then ref_states.Class d (spots.Package false) else if c == 84 then ref_states.Variable d false else if c == 91 then ref_states.Ref d true else if is_base c then ref_behind d else ref_states.Wrong) (other is_base false c 76 h refl)
    ∙ ap (λ (v : Bool). if v then ref_states.Variable d false else if c == 91 then ref_states.Ref d true else if is_base c then ref_behind d else ref_states.Wrong) (other is_base false c 84 h refl)
    ∙ ap (λ (v : Bool). if v then ref_states.Ref d true else if is_base c then ref_behind d else ref_states.Wrong) (other is_base false c 91 h refl)
    ∙ ap (λ (v : Bool). if v then ref_behind d else ref_states.Wrong) h

args_open : (d : ℕ) → d < 64 → in_class d true 60 ≡ ref_states.Args (d + 1) false
args_open d h = ap (λ (c : Bool). if c then ref_states.Args (d + 1) false else ref_states.Wrong) (lt-ltb d 64 h)

list_behind : (d : ℕ) → ref_behind (d + 1) ≡ ref_states.Args (d + 1) true
list_behind d = let e : (d + 1 == 0) ≡ false = grind arith in ap (λ (c : Bool). if c then ref_states.Over else ref_states.Args (d + 1) true) e

args_close : (d : ℕ) → ref_step (ref_states.Args (d + 1) true) 62 ≡ ref_states.Class d spots.Closed
unfolding ref_step
args_close d =
    let e : 0 < d + 1 = omega arith in
    let f : d + 1 - 1 ≡ d = omega arith in
    ap (λ (v : Bool). if v then ref_states.Class (d + 1 - 1) spots.Closed else ref_states.Wrong) (lt-ltb 0 (d + 1) e) ∙ ap (λ (n : ℕ). ref_states.Class n spots.Closed) f

-- a place in a class type at which a name is whole, or its arguments
spot : Bool → Spot
spot true = spots.Inner true
spot false = spots.Closed

semi_step : (d : ℕ) (w : Bool) → ref_step (ref_states.Class d (spot w)) 59 ≡ ref_behind d
unfolding ref_step spot
semi_step d true = refl
semi_step d false = refl

dot_step : (d : ℕ) (w : Bool) → ref_step (ref_states.Class d (spot w)) 46 ≡ ref_states.Class d (spots.Inner false)
unfolding ref_step spot
dot_step d true = refl
dot_step d false = refl

inner_step : (d : ℕ) (i : Bool) (b : ℕ) → is_mark b ≡ false → ref_step (ref_states.Class d (spots.Inner i)) b ≡ ref_states.Class d (spots.Inner true)
unfolding ref_step
inner_step d i b h = ap (λ (m : Bool). if not m then ref_states.Class d (spots.Inner true) else if i then in_class d true b else ref_states.Wrong) h

variable_step : (d : ℕ) (i : Bool) (b : ℕ) → is_mark b ≡ false → ref_step (ref_states.Variable d i) b ≡ ref_states.Variable d true
unfolding ref_step
variable_step d i b h = ap (λ (m : Bool). if not m then ref_states.Variable d true else if i && b == 59 then ref_behind d else ref_states.Wrong) h

param_step : (o : Owner) (i : Bool) (b : ℕ) (t : Text) → is_mark b ≡ false → sig_step (sig_states.ParamName o i) b t ≡ sig_states.ParamName o true
unfolding sig_step
param_step o i b t h = ap (λ (m : Bool). if not m then sig_states.ParamName o true else if i && b == 58 then first_bound o t else sig_states.Wrong) h

next_step : (o : Owner) (b : ℕ) (t : Text) → is_mark b ≡ false → sig_step (sig_states.Bounds o) b t ≡ sig_states.ParamName o true
unfolding sig_step
next_step o b t h = ap (λ (m : Bool). if not m then sig_states.ParamName o true else if b == 58 then sig_states.In (ref_places.Bound o) (ref_states.Ref 0 false) else if b == 62 then sig_states.Body o else sig_states.Wrong) h

module _ (X : Type 0) (put : ℕ → X → X) (name : Text → X → X) (nil : X) (R : SigState → Text → X)
    (plain : (st : SigState) (b : ℕ) (t : Text) → is_naming st ≡ false → R st (b ∷ t) ≡ put b (R (sig_step st b t) t))
    (named_by : (place : RefPlace) (d : ℕ) (n t : Text) → is_signature_name n ≡ true → stopped t ≡ true → R (sig_states.In place (ref_states.Class d (spots.Package false))) (n ++ t) ≡ name n (R (sig_states.In place (ref_states.Class d (spots.Inner true))) t))
    (ended : (st : SigState) → may_end st ≡ true → R st [] ≡ nil) where
  step_to : (st next : SigState) (b : ℕ) (t : Text) → is_naming st ≡ false → sig_step st b t ≡ next → R st (b ∷ t) ≡ put b (R next t)
  step_to st next b t h e = plain st b t h ∙ ap (λ (s : SigState). put b (R s t)) e

  within_to : (place : RefPlace) (st : RefState) (next : RefState) (b : ℕ) (t : Text) → is_naming (sig_states.In place st) ≡ false → ref_step st b ≡ next → R (sig_states.In place st) (b ∷ t) ≡ put b (R (at_place place next) t)
  unfolding sig_step
  within_to place st next b t h e = plain (sig_states.In place st) b t h ∙ ap (λ (s : RefState). put b (R (at_place place s) t)) e

  -- an identifier's bytes
  all_on : (st : SigState) → is_naming st ≡ false → ((b : ℕ) (t : Text) → is_mark b ≡ false → sig_step st b t ≡ st) → (n t : Text) → list_all (λ b. not (is_mark b)) n ≡ true → R st (n ++ t) ≡ puts X put name n (R st t)
  unfolding puts
  all_on st h stay [] t k = refl
  all_on st h stay (b ∷ n) t k =
      let p = and_parts _ _ k in
      step_to st st b (n ++ t) h (stay b (n ++ t) (not-true _ p.0)) ∙ ap (put b) (all_on st h stay n t p.1)

  identifier_on : (st inside : SigState) → is_naming st ≡ false → is_naming inside ≡ false → ((b : ℕ) (t : Text) → is_mark b ≡ false → sig_step st b t ≡ inside) → ((b : ℕ) (t : Text) → is_mark b ≡ false → sig_step inside b t ≡ inside) → (n t : Text) → is_signature_identifier n ≡ true → R st (n ++ t) ≡ puts X put name n (R inside t)
  unfolding puts
  identifier_on st inside h g first stay [] t k = absurd cc
  identifier_on st inside h g first stay (b ∷ n) t k =
      let p = and_parts _ _ k in
      step_to st inside b (n ++ t) h (first b (n ++ t) (not-true _ p.0)) ∙ ap (put b) (all_on inside g stay n t p.1)

  module _ (place : RefPlace) where
    inner_on : (d : ℕ) (n t : Text) → is_signature_identifier n ≡ true → R (sig_states.In place (ref_states.Class d (spots.Inner false))) (n ++ t) ≡ puts X put name n (R (sig_states.In place (ref_states.Class d (spots.Inner true))) t)
    unfolding sig_step
    inner_on d n t h = identifier_on (sig_states.In place (ref_states.Class d (spots.Inner false))) (sig_states.In place (ref_states.Class d (spots.Inner true))) refl refl (λ b t k. ap (at_place place) (inner_step d false b k)) (λ b t k. ap (at_place place) (inner_step d true b k)) n t h

    variable_on : (d : ℕ) (n t : Text) → is_signature_identifier n ≡ true → R (sig_states.In place (ref_states.Variable d false)) (n ++ 59 ∷ t) ≡ puts X put name n (put 59 (R (at_place place (ref_behind d)) t))
    unfolding sig_step ref_step
    variable_on d n t h = identifier_on (sig_states.In place (ref_states.Variable d false)) (sig_states.In place (ref_states.Variable d true)) refl refl (λ b t k. ap (at_place place) (variable_step d false b k)) (λ b t k. ap (at_place place) (variable_step d true b k)) n (59 ∷ t) h ∙ ap (puts X put name n) (within_to place (ref_states.Variable d true) (ref_behind d) 59 t refl refl)

    spot_plain : (d : ℕ) (w : Bool) → is_naming (sig_states.In place (ref_states.Class d (spot w))) ≡ false
    unfolding spot
    spot_plain d true = refl
    spot_plain d false = refl

    args_ref : (d : ℕ) (some : Bool) (r : Ref) (t : Text) → R (sig_states.In place (ref_states.Args d some)) (ref_text as_is r t) ≡ R (sig_states.In place (ref_states.Ref d false)) (ref_text as_is r t)
    unfolding ref_step ref_text class_text
    args_ref d some (Ref.class (ClassType.named n x i)) t = within_to place (ref_states.Args d some) (ref_states.Class d (spots.Package false)) 76 _ refl refl ∙ sym (within_to place (ref_states.Ref d false) (ref_states.Class d (spots.Package false)) 76 _ refl refl)
    args_ref d some (Ref.variable n) t = within_to place (ref_states.Args d some) (ref_states.Variable d false) 84 _ refl refl ∙ sym (within_to place (ref_states.Ref d false) (ref_states.Variable d false) 84 _ refl refl)
    args_ref d some (Ref.array j) t = within_to place (ref_states.Args d some) (ref_states.Ref d true) 91 _ refl refl ∙ sym (within_to place (ref_states.Ref d false) (ref_states.Ref d true) 91 _ refl refl)

    mutual
      unfolding sig_step ref_step java_text is_java emit_java spot

      java_on : (d : ℕ) (j : JavaType) (t : Text) → is_java (64 - d) j ≡ true → R (sig_states.In place (ref_states.Ref d true)) (java_text as_is j t) ≡ emit_java X put name j (R (at_place place (ref_behind d)) t)
      java_on d (JavaType.base c) t h = within_to place (ref_states.Ref d true) (ref_behind d) c t refl (base_step d c h)
      java_on d (JavaType.ref r) t h = ref_on d true r t h

      ref_on : (d : ℕ) (base : Bool) (r : Ref) (t : Text) → is_ref (64 - d) r ≡ true → R (sig_states.In place (ref_states.Ref d base)) (ref_text as_is r t) ≡ emit_ref X put name r (R (at_place place (ref_behind d)) t)
      ref_on d base (Ref.class c) t h = class_on d (sig_states.In place (ref_states.Ref d base)) c t refl (λ t. refl) h
      ref_on d base (Ref.variable n) t h = within_to place (ref_states.Ref d base) (ref_states.Variable d false) 84 _ refl refl ∙ ap (put 84) (variable_on d n t h)
      ref_on d base (Ref.array j) t h = within_to place (ref_states.Ref d base) (ref_states.Ref d true) 91 _ refl refl ∙ ap (put 91) (java_on d j t h)

      class_on : (d : ℕ) (st : SigState) (c : ClassType) (t : Text) → is_naming st ≡ false → ((t : Text) → sig_step st 76 t ≡ sig_states.In place (ref_states.Class d (spots.Package false))) → is_class (64 - d) c ≡ true → R st (class_text as_is c t) ≡ emit_class X put name c (R (at_place place (ref_behind d)) t)
      class_on d st (ClassType.named n x i) t g to h =
          let p = and_parts _ _ h in
          let q = and_parts _ _ p.0 in
          step_to st (sig_states.In place (ref_states.Class d (spots.Package false))) 76 (n ++ args_text as_is x (inner_text as_is i (59 ∷ t))) g (to (n ++ args_text as_is x (inner_text as_is i (59 ∷ t))))
          ∙ ap (put 76) (named_by place d n (args_text as_is x (inner_text as_is i (59 ∷ t))) q.0 (behind_stopped x i t)
          ∙ ap (name n) (args_on d x (inner_text as_is i (59 ∷ t)) (emit_inner X put name i (put 59 (R (at_place place (ref_behind d)) t))) q.1 (inners_on d true i t p.1) (inners_on d false i t p.1)))

      inners_on : (d : ℕ) (w : Bool) (i : Inner) (t : Text) → is_inner (64 - d) i ≡ true → R (sig_states.In place (ref_states.Class d (spot w))) (inner_text as_is i (59 ∷ t)) ≡ emit_inner X put name i (put 59 (R (at_place place (ref_behind d)) t))
      inners_on d w Inner.done t h = within_to place (ref_states.Class d (spot w)) (ref_behind d) 59 t (spot_plain d w) (semi_step d w)
      inners_on d w (Inner.dot n x i) t h =
          let p = and_parts _ _ h in
          let q = and_parts _ _ p.0 in
          within_to place (ref_states.Class d (spot w)) (ref_states.Class d (spots.Inner false)) 46 (n ++ args_text as_is x (inner_text as_is i (59 ∷ t))) (spot_plain d w) (dot_step d w)
          ∙ ap (put 46) (inner_on d n (args_text as_is x (inner_text as_is i (59 ∷ t))) q.0
          ∙ ap (puts X put name n) (args_on d x (inner_text as_is i (59 ∷ t)) (emit_inner X put name i (put 59 (R (at_place place (ref_behind d)) t))) q.1 (inners_on d true i t p.1) (inners_on d false i t p.1)))

      args_on : (d : ℕ) (x : Args) (t : Text) (out : X) → is_args (64 - d) x ≡ true → R (sig_states.In place (ref_states.Class d (spot true))) t ≡ out → R (sig_states.In place (ref_states.Class d (spot false))) t ≡ out → R (sig_states.In place (ref_states.Class d (spots.Inner true))) (args_text as_is x t) ≡ emit_args X put name x out
      args_on d Args.none t out h p q = p
      args_on d (Args.more a rest) t out h p q =
          let v = and_parts _ _ h in
          let u = and_parts _ _ v.0 in
          let one : 1 ≤ 64 - d = leb-true 1 (64 - d) u.0 in
          let l : d < 64 = omega (arith, one) in
          let less : 64 - d - 1 ≡ 64 - (d + 1) = omega arith in
          within_to place (ref_states.Class d (spots.Inner true)) (ref_states.Args (d + 1) false) 60 (arg_text as_is a (each_text as_is rest (62 ∷ t))) refl (args_open d l)
          ∙ ap (put 60) (arg_on d false a (each_text as_is rest (62 ∷ t)) (subst (λ (k : ℕ). is_arg k a ≡ true) less u.1)
          ∙ ap (emit_arg X put name a) (each_on d rest t (subst (λ (k : ℕ). is_each k rest ≡ true) less v.1) ∙ ap (λ (y : X). emit_each X put name rest (put 62 y)) q))

      each_on : (d : ℕ) (x : Args) (t : Text) → is_each (64 - (d + 1)) x ≡ true → R (sig_states.In place (ref_states.Args (d + 1) true)) (each_text as_is x (62 ∷ t)) ≡ emit_each X put name x (put 62 (R (sig_states.In place (ref_states.Class d (spot false))) t))
      each_on d Args.none t h = within_to place (ref_states.Args (d + 1) true) (ref_states.Class d spots.Closed) 62 t refl (args_close d)
      each_on d (Args.more a rest) t h = arg_on d true a (each_text as_is rest (62 ∷ t)) (and_parts _ _ h).0 ∙ ap (emit_arg X put name a) (each_on d rest t (and_parts _ _ h).1)

      arg_on : (d : ℕ) (some : Bool) (a : Arg) (t : Text) → is_arg (64 - (d + 1)) a ≡ true → R (sig_states.In place (ref_states.Args (d + 1) some)) (arg_text as_is a t) ≡ emit_arg X put name a (R (sig_states.In place (ref_states.Args (d + 1) true)) t)
      arg_on d some Arg.any t h = within_to place (ref_states.Args (d + 1) some) (ref_states.Args (d + 1) true) 42 t refl refl
      arg_on d some (Arg.exactly r) t h = args_ref (d + 1) some r t ∙ ref_on (d + 1) false r t h ∙ ap (λ (s : RefState). emit_ref X put name r (R (at_place place s) t)) (list_behind d)
      arg_on d some (Arg.extends r) t h = within_to place (ref_states.Args (d + 1) some) (ref_states.Ref (d + 1) false) 43 (ref_text as_is r t) refl refl ∙ ap (put 43) (ref_on (d + 1) false r t h ∙ ap (λ (s : RefState). emit_ref X put name r (R (at_place place s) t)) (list_behind d))
      arg_on d some (Arg.super_of r) t h = within_to place (ref_states.Args (d + 1) some) (ref_states.Ref (d + 1) false) 45 (ref_text as_is r t) refl refl ∙ ap (put 45) (ref_on (d + 1) false r t h ∙ ap (λ (s : RefState). emit_ref X put name r (R (at_place place s) t)) (list_behind d))

  -- a type at a state that goes on as within a reference, but for one byte that begins no type
  entered : (place : RefPlace) (st : SigState) (x : ℕ) → is_naming st ≡ false → is_base x ≡ false → (76 == x) ≡ false → (84 == x) ≡ false → (91 == x) ≡ false → ((b : ℕ) (t : Text) → (b == x) ≡ false → sig_step st b t ≡ at_place place (ref_step (ref_states.Ref 0 true) b)) → (j : JavaType) (t : Text) → is_java 64 j ≡ true → R st (java_text as_is j t) ≡ emit_java X put name j (R (after place) t)
  unfolding sig_step java_text ref_text class_text is_java
  entered place st x g base l v a to (JavaType.base c) t h = step_to st (at_place place (ref_step (ref_states.Ref 0 true) c)) c t g (to c t (other is_base false c x h base)) ∙ sym (plain (sig_states.In place (ref_states.Ref 0 true)) c t refl) ∙ java_on place 0 (JavaType.base c) t h
  entered place st x g base l v a to (JavaType.ref (Ref.class (ClassType.named n y i))) t h = step_to st (at_place place (ref_step (ref_states.Ref 0 true) 76)) 76 _ g (to 76 _ l) ∙ sym (plain (sig_states.In place (ref_states.Ref 0 true)) 76 _ refl) ∙ java_on place 0 (JavaType.ref (Ref.class (ClassType.named n y i))) t h
  entered place st x g base l v a to (JavaType.ref (Ref.variable n)) t h = step_to st (at_place place (ref_step (ref_states.Ref 0 true) 84)) 84 _ g (to 84 _ v) ∙ sym (plain (sig_states.In place (ref_states.Ref 0 true)) 84 _ refl) ∙ java_on place 0 (JavaType.ref (Ref.variable n)) t h
  entered place st x g base l v a to (JavaType.ref (Ref.array j)) t h = step_to st (at_place place (ref_step (ref_states.Ref 0 true) 91)) 91 _ g (to 91 _ a) ∙ sym (plain (sig_states.In place (ref_states.Ref 0 true)) 91 _ refl) ∙ java_on place 0 (JavaType.ref (Ref.array j)) t h

  parameter_to : (b : ℕ) (t : Text) → (b == 41) ≡ false → sig_step sig_states.Parameters b t ≡ at_place ref_places.Parameter (ref_step (ref_states.Ref 0 true) b)
  unfolding sig_step
  parameter_to b t h = ap (λ (c : Bool). if c then sig_states.Outcome else at_place ref_places.Parameter (ref_step (ref_states.Ref 0 true) b)) h

  outcome_to : (b : ℕ) (t : Text) → (b == 86) ≡ false → sig_step sig_states.Outcome b t ≡ at_place ref_places.Outcome (ref_step (ref_states.Ref 0 true) b)
  unfolding sig_step
  outcome_to b t h = ap (λ (c : Bool). if c then sig_states.Throws else at_place ref_places.Outcome (ref_step (ref_states.Ref 0 true) b)) h

  thrown_on : (ts : List Thrown) → list_all (is_thrown 64) ts ≡ true → R sig_states.Throws (thrown_text as_is ts) ≡ emit_thrown X put name ts nil
  unfolding sig_step thrown_text emit_thrown is_thrown
  thrown_on [] h = ended sig_states.Throws refl
  thrown_on (Thrown.class c ∷ ts) h =
      let p = and_parts _ _ h in
      step_to sig_states.Throws sig_states.Thrown 94 _ refl refl ∙ ap (put 94) (class_on ref_places.Thrown 0 sig_states.Thrown c (thrown_text as_is ts) refl (λ t. refl) p.0 ∙ ap (emit_class X put name c) (thrown_on ts p.1))
  thrown_on (Thrown.variable n ∷ ts) h =
      let p = and_parts _ _ h in
      step_to sig_states.Throws sig_states.Thrown 94 _ refl refl ∙ ap (put 94) (step_to sig_states.Thrown (sig_states.In ref_places.Thrown (ref_states.Variable 0 false)) 84 _ refl refl ∙ ap (put 84) (variable_on ref_places.Thrown 0 n (thrown_text as_is ts) p.0 ∙ ap (λ (y : X). puts X put name n (put 59 y)) (thrown_on ts p.1)))

  result_on : (r : Option JavaType) (t : Text) → is_result 64 r ≡ true → R sig_states.Outcome (result_text as_is r t) ≡ emit_result X put name r (R sig_states.Throws t)
  unfolding sig_step result_text emit_result is_result
  result_on None t h = step_to sig_states.Outcome sig_states.Throws 86 t refl refl
  result_on (Some j) t h = entered ref_places.Outcome sig_states.Outcome 86 refl refl refl refl refl outcome_to j t h

  javas_on : (js : List JavaType) (t : Text) → list_all (is_java 64) js ≡ true → R sig_states.Parameters (javas_text as_is js (41 ∷ t)) ≡ emit_javas X put name js (put 41 (R sig_states.Outcome t))
  unfolding sig_step javas_text emit_javas
  javas_on [] t h = step_to sig_states.Parameters sig_states.Outcome 41 t refl refl
  javas_on (j ∷ js) t h = entered ref_places.Parameter sig_states.Parameters 41 refl refl refl refl refl parameter_to j _ (and_parts _ _ h).0 ∙ ap (emit_java X put name j) (javas_on js t (and_parts _ _ h).1)

  classes_on : (cs : List ClassType) → list_all (is_class 64) cs ≡ true → R sig_states.Supers (classes_text as_is cs) ≡ emit_classes X put name cs nil
  unfolding sig_step classes_text emit_classes
  classes_on [] h = ended sig_states.Supers refl
  classes_on (c ∷ cs) h = class_on ref_places.Super 0 sig_states.Supers c (classes_text as_is cs) refl (λ t. refl) (and_parts _ _ h).0 ∙ ap (emit_class X put name c) (classes_on cs (and_parts _ _ h).1)

  bounds_on : (o : Owner) (rs : List Ref) (t : Text) → list_all (is_ref 64) rs ≡ true → R (sig_states.Bounds o) (bounds_text as_is rs t) ≡ emit_bounds X put name rs (R (sig_states.Bounds o) t)
  unfolding sig_step bounds_text emit_bounds
  bounds_on o [] t h = refl
  bounds_on o (r ∷ rs) t h = step_to (sig_states.Bounds o) (sig_states.In (ref_places.Bound o) (ref_states.Ref 0 false)) 58 _ refl refl ∙ ap (put 58) (ref_on (ref_places.Bound o) 0 false r (bounds_text as_is rs t) (and_parts _ _ h).0 ∙ ap (emit_ref X put name r) (bounds_on o rs t (and_parts _ _ h).1))

  -- behind a parameter's first `:`
  first_on : (o : Owner) (b : Option Ref) (t : Text) → is_bound 64 b ≡ true → ends_class t ≡ false → R (first_bound o (bound_text as_is b t)) (bound_text as_is b t) ≡ emit_bound X put name b (R (sig_states.Bounds o) t)
  unfolding bound_text emit_bound is_bound
  first_on o None t h k = ap (λ (c : Bool). R (if c then sig_states.In (ref_places.Bound o) (ref_states.Ref 0 false) else sig_states.Bounds o) t) (bound_by_mark t ∙ k)
  first_on o (Some r) t h k = ap (λ (c : Bool). R (if c then sig_states.In (ref_places.Bound o) (ref_states.Ref 0 false) else sig_states.Bounds o) (ref_text as_is r t)) (bound_by_mark (ref_text as_is r t) ∙ ref_mark 64 r t h) ∙ ref_on (ref_places.Bound o) 0 false r t h

  colon_to : (o : Owner) (t : Text) → sig_step (sig_states.ParamName o true) 58 t ≡ first_bound o t
  unfolding sig_step
  colon_to o t = refl

  param_on : (o : Owner) (st : SigState) → is_naming st ≡ false → ((b : ℕ) (t : Text) → is_mark b ≡ false → sig_step st b t ≡ sig_states.ParamName o true) → (p : Param) (t : Text) → is_param 64 p ≡ true → ends_class t ≡ false → R st (p.name ++ 58 ∷ bound_text as_is p.bound (bounds_text as_is p.others t)) ≡ puts X put name p.name (put 58 (emit_bound X put name p.bound (emit_bounds X put name p.others (R (sig_states.Bounds o) t))))
  param_on o st g to p t h k =
      let q2 = and_parts _ _ h in
      let q1 = and_parts _ _ q2.0 in
      identifier_on st (sig_states.ParamName o true) g refl to (λ b t k. param_step o true b t k) p.name (58 ∷ bound_text as_is p.bound (bounds_text as_is p.others t)) q1.0
      ∙ ap (puts X put name p.name) (step_to (sig_states.ParamName o true) (first_bound o (bound_text as_is p.bound (bounds_text as_is p.others t))) 58 (bound_text as_is p.bound (bounds_text as_is p.others t)) refl (colon_to o (bound_text as_is p.bound (bounds_text as_is p.others t)))
      ∙ ap (put 58) (first_on o p.bound (bounds_text as_is p.others t) q1.1 (bounds_mark p.others t k) ∙ ap (emit_bound X put name p.bound) (bounds_on o p.others t q2.1)))

  next_on : (o : Owner) (ps : List Param) (t : Text) → list_all (is_param 64) ps ≡ true → R (sig_states.Bounds o) (each_param as_is ps (62 ∷ t)) ≡ emit_each_param X put name ps (put 62 (R (sig_states.Body o) t))
  unfolding sig_step each_param emit_each_param
  next_on o [] t h = step_to (sig_states.Bounds o) (sig_states.Body o) 62 t refl refl
  next_on o (p ∷ ps) t h = param_on o (sig_states.Bounds o) refl (next_step o) p (each_param as_is ps (62 ∷ t)) (and_parts _ _ h).0 (params_mark 64 ps t (and_parts _ _ h).1) ∙ ap (λ (y : X). puts X put name p.name (put 58 (emit_bound X put name p.bound (emit_bounds X put name p.others y)))) (next_on o ps t (and_parts _ _ h).1)

  -- type parameters in front of a text that begins with a byte that isn't `<`
  params_on : (o : Owner) (ps : List Param) (b : ℕ) (t : Text) → (b == 60) ≡ false → list_all (is_param 64) ps ≡ true → R (sig_states.Opening o) (params_text as_is ps (b ∷ t)) ≡ emit_params X put name ps (R (sig_states.Body o) (b ∷ t))
  unfolding sig_step params_text emit_params each_param emit_each_param
  params_on o [] b t e h = step_to (sig_states.Opening o) (body_step o b) b t refl (ap (λ (c : Bool). if c then sig_states.ParamName o false else body_step o b) e) ∙ sym (plain (sig_states.Body o) b t refl)
  params_on o (p ∷ ps) b t e h = step_to (sig_states.Opening o) (sig_states.ParamName o false) 60 _ refl refl ∙ ap (put 60) (param_on o (sig_states.ParamName o false) refl (param_step o false) p (each_param as_is ps (62 ∷ b ∷ t)) (and_parts _ _ h).0 (params_mark 64 ps (b ∷ t) (and_parts _ _ h).1) ∙ ap (λ (y : X). puts X put name p.name (put 58 (emit_bound X put name p.bound (emit_bounds X put name p.others y)))) (next_on o ps (b ∷ t) (and_parts _ _ h).1))

  class_params : (ps : List Param) (c : ClassType) (t : Text) → list_all (is_param 64) ps ≡ true → R (sig_states.Opening owners.Class) (params_text as_is ps (class_text as_is c t)) ≡ emit_params X put name ps (R (sig_states.Body owners.Class) (class_text as_is c t))
  unfolding class_text
  class_params ps (ClassType.named n x i) t h = params_on owners.Class ps 76 (n ++ args_text as_is x (inner_text as_is i (59 ∷ t))) refl h

  pub walked : (s : Signature) → is_signature 64 s ≡ true → R (sig_start (kind_of s)) (signature_text as_is s) ≡ emit_signature X put name s nil
  unfolding sig_step signature_text is_signature emit_signature kind_of
  walked (Signature.field r) h = ref_on ref_places.Alone 0 false r [] h ∙ ap (emit_ref X put name r) (ended sig_states.Over refl)
  walked (Signature.class ps c cs) h =
      let p = and_parts _ _ h in
      let q = and_parts _ _ p.1 in
      class_params ps c (classes_text as_is cs) p.0 ∙ ap (emit_params X put name ps) (class_on ref_places.Super 0 (sig_states.Body owners.Class) c (classes_text as_is cs) refl (λ t. refl) q.0 ∙ ap (emit_class X put name c) (classes_on cs q.1))
  walked (Signature.method ps js r ts) h =
      let p3 = and_parts _ _ h in
      let p2 = and_parts _ _ p3.0 in
      let p1 = and_parts _ _ p2.0 in
      params_on owners.Method ps 40 (javas_text as_is js (41 ∷ result_text as_is r (thrown_text as_is ts))) refl p1.0
      ∙ ap (emit_params X put name ps) (step_to (sig_states.Body owners.Method) sig_states.Parameters 40 _ refl refl
      ∙ ap (put 40) (javas_on js (result_text as_is r (thrown_text as_is ts)) p1.1
      ∙ ap (λ (y : X). emit_javas X put name js (put 41 y)) (result_on r (thrown_text as_is ts) p2.1 ∙ ap (emit_result X put name r) (thrown_on ts p3.1))))
