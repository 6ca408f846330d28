-- A text that the scan of signatures takes is printed by a signature.
use Rattle.std.proofs.Common.{◌≡◌, ℕ, Bool, true, false, not, ◌&&◌, ◌==◌, List, [], ◌∷◌, ◌++◌, Option, Some, None, refl, sym, ap, subst, ◌∙◌, ◌⊎◌, inl, inr}
use Rattle.std.specs.Prelude.{if◌then◌else◌}
use Rattle.std.specs.List.{list_all}
use Rattle.std.proofs.lemmas.Bool.{and_parts, and_from, both_ways, eqb-true}
use Rattle.desk_names.specs.declared.signatures.Owner.{Owner}
use Rattle.desk_names.specs.declared.signatures.Owner.TheVariants as owners
use Rattle.desk_names.specs.declared.signatures.RefPlace.{RefPlace}
use Rattle.desk_names.specs.declared.signatures.RefPlace.TheVariants as ref_places
use Rattle.desk_names.specs.declared.signatures.Spot.TheVariants as spots
use Rattle.desk_names.specs.declared.signatures.RefState.{RefState}
use Rattle.desk_names.specs.declared.signatures.RefState.TheVariants as ref_states
use Rattle.desk_names.specs.declared.signatures.SigState.{SigState}
use Rattle.desk_names.specs.declared.signatures.SigState.TheVariants as sig_states
use Rattle.desk_base.specs.Names.{Text}
use Rattle.desk_base.specs.Descriptors.{as_is}
use Rattle.desk_base.specs.Signatures.{JavaType, Ref, ClassType, Param, Thrown, Signature, SignatureKind, IsSignature, is_mark, is_java, is_ref, is_class, is_bound, is_param, is_result, is_thrown, is_signature, java_text, ref_text, class_text, bound_text, bounds_text, each_param, params_text, classes_text, javas_text, result_text, thrown_text, signature_text, kind_of}
use Rattle.desk_names.specs.SignatureScan.{ref_step, after, at_place, has_bound, first_bound, body_step, sig_step, sig_run, may_end, is_sound_signature}
use Rattle.desk_names.proofs.Bytes.{signature_name_is}
use Rattle.desk_names.proofs.RefSound.{Behind, RefAt, Fits, is_tail, is_tail_identifier, java_ref, java_print, ref_back_step}

-- What a text that completes a state is made of

pub record ThrownList (s : Text) : Type 0 where
  pub thrown : List Thrown
  pub formed : list_all (is_thrown 64) thrown ≡ true
  pub is : s ≡ thrown_text as_is thrown

-- behind a `^`
pub record ThrownAt (s : Text) : Type 0 where
  pub first : Thrown
  pub thrown : List Thrown
  pub one : is_thrown 64 first ≡ true
  pub formed : list_all (is_thrown 64) thrown ≡ true
  pub is : 94 ∷ s ≡ thrown_text as_is (first ∷ thrown)

pub record Results (s : Text) : Type 0 where
  pub result : Option JavaType
  pub thrown : List Thrown
  pub returns : is_result 64 result ≡ true
  pub throws : list_all (is_thrown 64) thrown ≡ true
  pub is : s ≡ result_text as_is result (thrown_text as_is thrown)

pub record ParameterList (s : Text) : Type 0 where
  pub types : List JavaType
  pub result : Option JavaType
  pub thrown : List Thrown
  pub formed : list_all (is_java 64) types ≡ true
  pub returns : is_result 64 result ≡ true
  pub throws : list_all (is_thrown 64) thrown ≡ true
  pub is : s ≡ javas_text as_is types (41 ∷ result_text as_is result (thrown_text as_is thrown))

pub record SuperList (s : Text) : Type 0 where
  pub classes : List ClassType
  pub formed : list_all (is_class 64) classes ≡ true
  pub is : s ≡ classes_text as_is classes

pub record ClassBody (s : Text) : Type 0 where
  pub first : ClassType
  pub classes : List ClassType
  pub formed : list_all (is_class 64) (first ∷ classes) ≡ true
  pub is : s ≡ class_text as_is first (classes_text as_is classes)

pub record MethodBody (s : Text) : Type 0 where
  pub more : Text
  pub parameters : ParameterList more
  pub is : s ≡ 40 ∷ more

-- behind type parameters
abbrev pub BodyOf : Owner → Text → Type 0
BodyOf owners.Class s = ClassBody s
BodyOf owners.Method s = MethodBody s

pub record BoundList (o : Owner) (s : Text) : Type 0 where
  pub others : List Ref
  pub params : List Param
  pub more : Text
  pub bounds_formed : list_all (is_ref 64) others ≡ true
  pub params_formed : list_all (is_param 64) params ≡ true
  pub is : s ≡ bounds_text as_is others (each_param as_is params (62 ∷ more))
  pub after : BodyOf o more

pub record NameRest (o : Owner) (i : Bool) (s : Text) : Type 0 where
  pub name : Text
  pub bound : Option Ref
  pub others : List Ref
  pub params : List Param
  pub more : Text
  pub named : is_tail i name ≡ true
  pub bounded : is_bound 64 bound ≡ true
  pub bounds_formed : list_all (is_ref 64) others ≡ true
  pub params_formed : list_all (is_param 64) params ≡ true
  pub is : s ≡ name ++ 58 ∷ bound_text as_is bound (bounds_text as_is others (each_param as_is params (62 ∷ more)))
  pub after : BodyOf o more

pub record Opened (o : Owner) (s : Text) : Type 0 where
  pub params : List Param
  pub more : Text
  pub formed : list_all (is_param 64) params ≡ true
  pub is : s ≡ params_text as_is params more
  pub after : BodyOf o more

-- behind a reference at a place
unfoldable pub After : RefPlace → Text → Type 0
After ref_places.Alone s = s ≡ []
After (ref_places.Bound o) s = BoundList o s
After ref_places.Super s = SuperList s
After ref_places.Parameter s = ParameterList s
After ref_places.Outcome s = ThrownList s
After ref_places.Thrown s = ThrownList s

unfoldable pub Completes : SigState → Text → Type 0
Completes (sig_states.Opening o) s = Opened o s
Completes (sig_states.ParamName o i) s = NameRest o i s
Completes (sig_states.Bounds o) s = BoundList o s
Completes (sig_states.Body o) s = BodyOf o s
Completes sig_states.Supers s = SuperList s
Completes sig_states.Parameters s = ParameterList s
Completes sig_states.Outcome s = Results s
Completes sig_states.Throws s = ThrownList s
Completes sig_states.Thrown s = ThrownAt s
Completes (sig_states.In place state) s = Fits (After place) state s
Completes sig_states.Over s = s ≡ []
Completes sig_states.Wrong s = ⊥

-- what completes the state behind a reference's byte
behind_place : (place : RefPlace) (s : Text) → Completes (after place) s → After place s
unfolding Completes After
behind_place ref_places.Alone s h = h
behind_place (ref_places.Bound o) s h = h
behind_place ref_places.Super s h = h
behind_place ref_places.Parameter s h = h
behind_place ref_places.Outcome s h = h
behind_place ref_places.Thrown s h = h

within : (place : RefPlace) (st : RefState) (s : Text) → Completes (at_place place st) s → Fits (After place) st s
unfolding Completes Fits
within place ref_states.Over s h = behind_place place s h
within place ref_states.Wrong s h = h
within place (ref_states.Ref d base) s h = h
within place (ref_states.Class d spot) s h = h
within place (ref_states.Variable d i) s h = h
within place (ref_states.Args d some) s h = h

-- a class type, from its name on
pub record ClassHere (place : RefPlace) (s : Text) : Type 0 where
  pub tree : ClassType
  pub more : Text
  pub formed : is_class 64 tree ≡ true
  pub is : 76 ∷ s ≡ class_text as_is tree more
  pub after : After place more

class_here : (place : RefPlace) (s : Text) → Completes (sig_states.In place (ref_states.Class 0 (spots.Package false))) s → ClassHere place s
unfolding Completes Fits Behind class_text is_class
class_here place s h = record { tree = ClassType.named h.name h.args h.inner; more = h.more; formed = and_from _ _ (and_from _ _ (signature_name_is h.name ∙ h.named) h.args_formed) h.inner_formed; is = ap (λ (t : Text). 76 ∷ t) h.is; after = h.after }

-- a type, or a reference alone
pub record TypeHere (place : RefPlace) (s : Text) : Type 0 where
  pub tree : JavaType
  pub more : Text
  pub formed : is_java 64 tree ≡ true
  pub is : s ≡ java_text as_is tree more
  pub after : After place more

pub record RefHere (place : RefPlace) (s : Text) : Type 0 where
  pub tree : Ref
  pub more : Text
  pub formed : is_ref 64 tree ≡ true
  pub is : s ≡ ref_text as_is tree more
  pub after : After place more

type_here : (place : RefPlace) (b : ℕ) (s : Text) → Completes (at_place place (ref_step (ref_states.Ref 0 true) b)) s → TypeHere place (b ∷ s)
unfolding Fits Behind
type_here place b s h =
    let r : RefAt (After place) 0 true (b ∷ s) = ref_back_step (After place) (ref_states.Ref 0 true) b s (within place (ref_step (ref_states.Ref 0 true) b) s h) in
    record { tree = r.tree; more = r.more; formed = r.formed; is = r.is; after = r.after }

ref_here : (place : RefPlace) (s : Text) → Completes (sig_states.In place (ref_states.Ref 0 false)) s → RefHere place s
unfolding Completes Fits Behind
ref_here place s h = go h h.allowed
  where
    go : (t : RefAt (After place) 0 false s) → (false ≡ true) ⊎ ((r : Ref) × (t.tree ≡ JavaType.ref r)) → RefHere place s
    go t (inl w) = absurd (both_ways false refl w)
    go t (inr (r, w)) = record { tree = r; more = t.more; formed = java_ref (After place) 64 r (subst (λ (j : JavaType). is_java 64 j ≡ true) w t.formed); is = t.is ∙ ap (λ (j : JavaType). java_text as_is j t.more) w ∙ java_print (After place) r t.more; after = t.after }

-- One byte back

class_body : (b : ℕ) (s : Text) (c : Bool) → (b == 76) ≡ c → Completes (if c then sig_states.In ref_places.Super (ref_states.Class 0 (spots.Package false)) else sig_states.Wrong) s → ClassBody (b ∷ s)
unfolding Completes After
class_body b s true e h =
    let k : ClassHere ref_places.Super s = class_here ref_places.Super s h in
    let l : SuperList k.more = k.after in
    record { first = k.tree; classes = l.classes; formed = and_from _ _ k.formed l.formed; is = ap (λ (x : ℕ). x ∷ s) (eqb-true b 76 e) ∙ k.is ∙ ap (class_text as_is k.tree) l.is }
class_body b s false e h = absurd h

method_body : (b : ℕ) (s : Text) (c : Bool) → (b == 40) ≡ c → Completes (if c then sig_states.Parameters else sig_states.Wrong) s → MethodBody (b ∷ s)
unfolding Completes
method_body b s true e h = record { more = s; parameters = h; is = ap (λ (x : ℕ). x ∷ s) (eqb-true b 40 e) }
method_body b s false e h = absurd h

body_back : (o : Owner) (b : ℕ) (s : Text) → Completes (body_step o b) s → BodyOf o (b ∷ s)
body_back owners.Class b s h = class_body b s (b == 76) refl h
body_back owners.Method b s h = method_body b s (b == 40) refl h

super_back : (b : ℕ) (s : Text) → ClassBody (b ∷ s) → SuperList (b ∷ s)
unfolding classes_text
super_back b s h = record { classes = h.first ∷ h.classes; formed = h.formed; is = h.is }

param_of : Text → Option Ref → List Ref → Param
param_of name bound others = record { name = name; bound = bound; others = others }

opened_back : (o : Owner) (b : ℕ) (s : Text) (c : Bool) → (b == 60) ≡ c → Completes (if c then sig_states.ParamName o false else body_step o b) s → Opened o (b ∷ s)
unfolding Completes params_text each_param param_of
opened_back o b s true e h = record {
  params = param_of h.name h.bound h.others ∷ h.params;
  more = h.more;
  formed = and_from _ _ (and_from _ _ (and_from _ _ (is_tail_identifier h.name h.named) h.bounded) h.bounds_formed) h.params_formed;
  is = ap (λ (x : ℕ). x ∷ s) (eqb-true b 60 e) ∙ ap (λ (t : Text). 60 ∷ t) h.is;
  after = h.after;
}
opened_back o b s false e h = record { params = []; more = b ∷ s; formed = refl; is = refl; after = body_back o b s h }

name_more : (o : Owner) (i : Bool) (b : ℕ) (s : Text) → is_mark b ≡ false → NameRest o true s → NameRest o i (b ∷ s)
unfolding is_tail
name_more o i b s e h = record { name = b ∷ h.name; bound = h.bound; others = h.others; params = h.params; more = h.more; named = and_from _ _ (ap not e) h.named; bounded = h.bounded; bounds_formed = h.bounds_formed; params_formed = h.params_formed; is = ap (λ (t : Text). b ∷ t) h.is; after = h.after }

first_back : (o : Owner) (s : Text) (c : Bool) → Completes (if c then sig_states.In (ref_places.Bound o) (ref_states.Ref 0 false) else sig_states.Bounds o) s → NameRest o true (58 ∷ s)
unfolding Completes After is_tail bound_text is_bound
first_back o s true h =
    let r : RefHere (ref_places.Bound o) s = ref_here (ref_places.Bound o) s h in
    let l : BoundList o r.more = r.after in
    record { name = []; bound = Some r.tree; others = l.others; params = l.params; more = l.more; named = refl; bounded = r.formed; bounds_formed = l.bounds_formed; params_formed = l.params_formed; is = ap (λ (t : Text). 58 ∷ t) (r.is ∙ ap (ref_text as_is r.tree) l.is); after = l.after }
first_back o s false h = record { name = []; bound = None; others = h.others; params = h.params; more = h.more; named = refl; bounded = refl; bounds_formed = h.bounds_formed; params_formed = h.params_formed; is = ap (λ (t : Text). 58 ∷ t) h.is; after = h.after }

colon_back : (o : Owner) (i : Bool) (b : ℕ) (s : Text) (c : Bool) → (i && b == 58) ≡ c → Completes (if c then first_bound o s else sig_states.Wrong) s → NameRest o i (b ∷ s)
unfolding Completes
colon_back o i b s true e h =
    let p = and_parts i (b == 58) e in
    subst (λ (j : Bool). NameRest o j (b ∷ s)) (sym p.0) (subst (λ (x : ℕ). NameRest o true (x ∷ s)) (sym (eqb-true b 58 p.1)) (first_back o s (has_bound s) h))
colon_back o i b s false e h = absurd h

name_back : (o : Owner) (i : Bool) (b : ℕ) (s : Text) (c : Bool) → is_mark b ≡ c → Completes (if not c then sig_states.ParamName o true else if i && b == 58 then first_bound o s else sig_states.Wrong) s → NameRest o i (b ∷ s)
unfolding Completes
name_back o i b s false e h = name_more o i b s e h
name_back o i b s true e h = colon_back o i b s (i && b == 58) refl h

end_back : (o : Owner) (b : ℕ) (s : Text) (c : Bool) → (b == 62) ≡ c → Completes (if c then sig_states.Body o else sig_states.Wrong) s → BoundList o (b ∷ s)
unfolding Completes bounds_text each_param
end_back o b s true e h = record { others = []; params = []; more = s; bounds_formed = refl; params_formed = refl; is = ap (λ (x : ℕ). x ∷ s) (eqb-true b 62 e); after = h }
end_back o b s false e h = absurd h

bound_back : (o : Owner) (b : ℕ) (s : Text) (c : Bool) → (b == 58) ≡ c → Completes (if c then sig_states.In (ref_places.Bound o) (ref_states.Ref 0 false) else if b == 62 then sig_states.Body o else sig_states.Wrong) s → BoundList o (b ∷ s)
unfolding After bounds_text
bound_back o b s true e h =
    let r : RefHere (ref_places.Bound o) s = ref_here (ref_places.Bound o) s h in
    let l : BoundList o r.more = r.after in
    record { others = r.tree ∷ l.others; params = l.params; more = l.more; bounds_formed = and_from _ _ r.formed l.bounds_formed; params_formed = l.params_formed; is = ap (λ (x : ℕ). x ∷ s) (eqb-true b 58 e) ∙ ap (λ (t : Text). 58 ∷ t) (r.is ∙ ap (ref_text as_is r.tree) l.is); after = l.after }
bound_back o b s false e h = end_back o b s (b == 62) refl h

bounds_back : (o : Owner) (b : ℕ) (s : Text) (c : Bool) → is_mark b ≡ c → Completes (if not c then sig_states.ParamName o true else if b == 58 then sig_states.In (ref_places.Bound o) (ref_states.Ref 0 false) else if b == 62 then sig_states.Body o else sig_states.Wrong) s → BoundList o (b ∷ s)
unfolding Completes bounds_text each_param param_of
bounds_back o b s false e h =
    let n : NameRest o false (b ∷ s) = name_more o false b s e h in
    record { others = []; params = param_of n.name n.bound n.others ∷ n.params; more = n.more; bounds_formed = refl; params_formed = and_from _ _ (and_from _ _ (and_from _ _ (is_tail_identifier n.name n.named) n.bounded) n.bounds_formed) n.params_formed; is = n.is; after = n.after }
bounds_back o b s true e h = bound_back o b s (b == 58) refl h

parameters_back : (b : ℕ) (s : Text) (c : Bool) → (b == 41) ≡ c → Completes (if c then sig_states.Outcome else at_place ref_places.Parameter (ref_step (ref_states.Ref 0 true) b)) s → ParameterList (b ∷ s)
unfolding Completes After javas_text
parameters_back b s true e h = record { types = []; result = h.result; thrown = h.thrown; formed = refl; returns = h.returns; throws = h.throws; is = ap (λ (x : ℕ). x ∷ s) (eqb-true b 41 e) ∙ ap (λ (t : Text). 41 ∷ t) h.is }
parameters_back b s false e h =
    let j : TypeHere ref_places.Parameter (b ∷ s) = type_here ref_places.Parameter b s h in
    let l : ParameterList j.more = j.after in
    record { types = j.tree ∷ l.types; result = l.result; thrown = l.thrown; formed = and_from _ _ j.formed l.formed; returns = l.returns; throws = l.throws; is = j.is ∙ ap (java_text as_is j.tree) l.is }

results_back : (b : ℕ) (s : Text) (c : Bool) → (b == 86) ≡ c → Completes (if c then sig_states.Throws else at_place ref_places.Outcome (ref_step (ref_states.Ref 0 true) b)) s → Results (b ∷ s)
unfolding Completes After result_text is_result
results_back b s true e h = record { result = None; thrown = h.thrown; returns = refl; throws = h.formed; is = ap (λ (x : ℕ). x ∷ s) (eqb-true b 86 e) ∙ ap (λ (t : Text). 86 ∷ t) h.is }
results_back b s false e h =
    let j : TypeHere ref_places.Outcome (b ∷ s) = type_here ref_places.Outcome b s h in
    let l : ThrownList j.more = j.after in
    record { result = Some j.tree; thrown = l.thrown; returns = j.formed; throws = l.formed; is = j.is ∙ ap (java_text as_is j.tree) l.is }

throws_back : (b : ℕ) (s : Text) (c : Bool) → (b == 94) ≡ c → Completes (if c then sig_states.Thrown else sig_states.Wrong) s → ThrownList (b ∷ s)
unfolding Completes
throws_back b s true e h = record { thrown = h.first ∷ h.thrown; formed = and_from _ _ h.one h.formed; is = ap (λ (x : ℕ). x ∷ s) (eqb-true b 94 e) ∙ h.is }
throws_back b s false e h = absurd h

variable_thrown : (b : ℕ) (s : Text) (c : Bool) → (b == 84) ≡ c → Completes (if c then sig_states.In ref_places.Thrown (ref_states.Variable 0 false) else sig_states.Wrong) s → ThrownAt (b ∷ s)
unfolding Completes Fits Behind After thrown_text is_thrown
variable_thrown b s true e h =
    let l : ThrownList h.more = h.after in
    record { first = Thrown.variable h.name; thrown = l.thrown; one = is_tail_identifier h.name h.named; formed = l.formed; is = ap (λ (x : ℕ). 94 ∷ x ∷ s) (eqb-true b 84 e) ∙ ap (λ (t : Text). 94 ∷ 84 ∷ t) (h.is ∙ ap (λ (t : Text). h.name ++ 59 ∷ t) l.is) }
variable_thrown b s false e h = absurd h

class_thrown : (b : ℕ) (s : Text) (c : Bool) → (b == 76) ≡ c → Completes (if c then sig_states.In ref_places.Thrown (ref_states.Class 0 (spots.Package false)) else if b == 84 then sig_states.In ref_places.Thrown (ref_states.Variable 0 false) else sig_states.Wrong) s → ThrownAt (b ∷ s)
unfolding After thrown_text is_thrown
class_thrown b s true e h =
    let k : ClassHere ref_places.Thrown s = class_here ref_places.Thrown s h in
    let l : ThrownList k.more = k.after in
    record { first = Thrown.class k.tree; thrown = l.thrown; one = k.formed; formed = l.formed; is = ap (λ (x : ℕ). 94 ∷ x ∷ s) (eqb-true b 76 e) ∙ ap (λ (t : Text). 94 ∷ t) (k.is ∙ ap (class_text as_is k.tree) l.is) }
class_thrown b s false e h = variable_thrown b s (b == 84) refl h

back : (st : SigState) (b : ℕ) (s : Text) → Completes (sig_step st b s) s → Completes st (b ∷ s)
unfolding Completes sig_step
back (sig_states.Opening o) b s h = opened_back o b s (b == 60) refl h
back (sig_states.ParamName o i) b s h = name_back o i b s (is_mark b) refl h
back (sig_states.Bounds o) b s h = bounds_back o b s (is_mark b) refl h
back (sig_states.Body o) b s h = body_back o b s h
back sig_states.Supers b s h = super_back b s (body_back owners.Class b s h)
back sig_states.Parameters b s h = parameters_back b s (b == 41) refl h
back sig_states.Outcome b s h = results_back b s (b == 86) refl h
back sig_states.Throws b s h = throws_back b s (b == 94) refl h
back sig_states.Thrown b s h = class_thrown b s (b == 76) refl h
back (sig_states.In place state) b s h = ref_back_step (After place) state b s (within place (ref_step state b) s h)
back sig_states.Over b s h = absurd h
back sig_states.Wrong b s h = absurd h

at_end : (st : SigState) → may_end st ≡ true → Completes st []
unfolding Completes classes_text thrown_text
at_end (sig_states.Opening o) h = absurd cc
at_end (sig_states.ParamName o i) h = absurd cc
at_end (sig_states.Bounds o) h = absurd cc
at_end (sig_states.Body o) h = absurd cc
at_end sig_states.Supers h = record { classes = []; formed = refl; is = refl }
at_end sig_states.Parameters h = absurd cc
at_end sig_states.Outcome h = absurd cc
at_end sig_states.Throws h = record { thrown = []; formed = refl; is = refl }
at_end sig_states.Thrown h = absurd cc
at_end (sig_states.In place state) h = absurd cc
at_end sig_states.Over h = refl
at_end sig_states.Wrong h = absurd cc

completes : (st : SigState) (s : Text) → may_end (sig_run st s) ≡ true → Completes st s
unfolding sig_run
completes st [] h = at_end st h
completes st (b ∷ s) h = back st b s (completes (sig_step st b s) s h)

-- A text that the scan takes is printed by a signature.
pub signature_of : (kind : SignatureKind) (s : Text) → is_sound_signature kind s ≡ true → (t : Signature) × IsSignature kind s t
unfolding is_sound_signature Completes After signature_text is_signature kind_of
signature_of SignatureKind.field s h =
    let r : RefHere ref_places.Alone s = ref_here ref_places.Alone s (completes (sig_states.In ref_places.Alone (ref_states.Ref 0 false)) s h) in
    let e : r.more ≡ [] = r.after in
    (Signature.field r.tree, record { kind = refl; formed = r.formed; prints = sym (r.is ∙ ap (ref_text as_is r.tree) e) })
signature_of SignatureKind.class s h =
    let o : Opened owners.Class s = completes (sig_states.Opening owners.Class) s h in
    let k : ClassBody o.more = o.after in
    (Signature.class o.params k.first k.classes, record { kind = refl; formed = and_from _ _ o.formed k.formed; prints = sym (o.is ∙ ap (params_text as_is o.params) k.is) })
signature_of SignatureKind.method s h =
    let o : Opened owners.Method s = completes (sig_states.Opening owners.Method) s h in
    let m : MethodBody o.more = o.after in
    let p : ParameterList m.more = m.parameters in
    (Signature.method o.params p.types p.result p.thrown, record { kind = refl; formed = and_from _ _ (and_from _ _ (and_from _ _ o.formed p.formed) p.returns) p.throws; prints = sym (o.is ∙ ap (params_text as_is o.params) (m.is ∙ ap (λ (t : Text). 40 ∷ t) p.is)) })
