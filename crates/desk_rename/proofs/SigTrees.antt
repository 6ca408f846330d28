-- Exchanging the class names of a signature's tree.
use Rattle.std.proofs.Common.{◌≡◌, ℕ, ◌-◌, true, List, [], ◌∷◌, Option, Some, None, map, refl, ap, ◌∙◌}
use Rattle.std.specs.List.{list_all}
use Rattle.std.proofs.lemmas.Bool.{and_parts}
use Rattle.desk_base.specs.Names.{Text}
use Rattle.desk_base.specs.Signatures.{JavaType, Ref, ClassType, Inner, Args, Arg, Param, Thrown, Signature, is_signature_name, map_java, map_ref, map_class, map_inner, map_args, map_arg, map_bound, map_refs, map_params, map_param, map_classes, map_javas, map_result, map_thrown, map_signature, java_names, ref_names, class_names, inner_names, args_names, arg_names, bound_names, refs_names, params_names, classes_names, javas_names, result_names, thrown_names, signature_names, is_java, is_ref, is_class, is_inner, is_args, is_each, is_arg, is_bound, is_param, is_result, is_thrown, is_signature}

-- the names of an exchanged tree are the exchanged names

mutual
  unfolding map_java map_ref map_class map_inner map_args map_arg java_names ref_names class_names inner_names args_names arg_names

  java_mapped : (f : Text → Text) (j : JavaType) (more : List Text) → java_names (map_java f j) (map f more) ≡ map f (java_names j more)
  java_mapped f (JavaType.base c) more = refl
  java_mapped f (JavaType.ref r) more = ref_mapped f r more

  ref_mapped : (f : Text → Text) (r : Ref) (more : List Text) → ref_names (map_ref f r) (map f more) ≡ map f (ref_names r more)
  ref_mapped f (Ref.class c) more = class_mapped f c more
  ref_mapped f (Ref.variable n) more = refl
  ref_mapped f (Ref.array j) more = java_mapped f j more

  class_mapped : (f : Text → Text) (c : ClassType) (more : List Text) → class_names (map_class f c) (map f more) ≡ map f (class_names c more)
  class_mapped f (ClassType.named n args inner) more =
      ap (λ (l : List Text). f n ∷ args_names (map_args f args) l) (inner_mapped f inner more)
      ∙ ap (λ (l : List Text). f n ∷ l) (args_mapped f args (inner_names inner more))

  inner_mapped : (f : Text → Text) (i : Inner) (more : List Text) → inner_names (map_inner f i) (map f more) ≡ map f (inner_names i more)
  inner_mapped f Inner.done more = refl
  inner_mapped f (Inner.dot n args inner) more =
      ap (args_names (map_args f args)) (inner_mapped f inner more) ∙ args_mapped f args (inner_names inner more)

  args_mapped : (f : Text → Text) (a : Args) (more : List Text) → args_names (map_args f a) (map f more) ≡ map f (args_names a more)
  args_mapped f Args.none more = refl
  args_mapped f (Args.more a rest) more = ap (arg_names (map_arg f a)) (args_mapped f rest more) ∙ arg_mapped f a (args_names rest more)

  arg_mapped : (f : Text → Text) (a : Arg) (more : List Text) → arg_names (map_arg f a) (map f more) ≡ map f (arg_names a more)
  arg_mapped f Arg.any more = refl
  arg_mapped f (Arg.exactly r) more = ref_mapped f r more
  arg_mapped f (Arg.extends r) more = ref_mapped f r more
  arg_mapped f (Arg.super_of r) more = ref_mapped f r more

bound_mapped : (f : Text → Text) (b : Option Ref) (more : List Text) → bound_names (map_bound f b) (map f more) ≡ map f (bound_names b more)
unfolding map_bound bound_names
bound_mapped f None more = refl
bound_mapped f (Some r) more = ref_mapped f r more

refs_mapped : (f : Text → Text) (rs : List Ref) (more : List Text) → refs_names (map_refs f rs) (map f more) ≡ map f (refs_names rs more)
unfolding map_refs refs_names
refs_mapped f [] more = refl
refs_mapped f (r ∷ rs) more = ap (ref_names (map_ref f r)) (refs_mapped f rs more) ∙ ref_mapped f r (refs_names rs more)

params_mapped : (f : Text → Text) (ps : List Param) (more : List Text) → params_names (map_params f ps) (map f more) ≡ map f (params_names ps more)
unfolding map_params params_names
params_mapped f [] more = refl
params_mapped f (p ∷ ps) more =
    ap (λ (l : List Text). bound_names (map_bound f p.bound) (refs_names (map_refs f p.others) l)) (params_mapped f ps more)
    ∙ ap (bound_names (map_bound f p.bound)) (refs_mapped f p.others (params_names ps more))
    ∙ bound_mapped f p.bound (refs_names p.others (params_names ps more))

classes_mapped : (f : Text → Text) (cs : List ClassType) → classes_names (map_classes f cs) ≡ map f (classes_names cs)
unfolding map_classes classes_names
classes_mapped f [] = refl
classes_mapped f (c ∷ cs) = ap (class_names (map_class f c)) (classes_mapped f cs) ∙ class_mapped f c (classes_names cs)

javas_mapped : (f : Text → Text) (js : List JavaType) (more : List Text) → javas_names (map_javas f js) (map f more) ≡ map f (javas_names js more)
unfolding map_javas javas_names
javas_mapped f [] more = refl
javas_mapped f (j ∷ js) more = ap (java_names (map_java f j)) (javas_mapped f js more) ∙ java_mapped f j (javas_names js more)

result_mapped : (f : Text → Text) (r : Option JavaType) (more : List Text) → result_names (map_result f r) (map f more) ≡ map f (result_names r more)
unfolding map_result result_names
result_mapped f None more = refl
result_mapped f (Some j) more = java_mapped f j more

thrown_mapped : (f : Text → Text) (ts : List Thrown) → thrown_names (map_thrown f ts) ≡ map f (thrown_names ts)
unfolding map_thrown thrown_names
thrown_mapped f [] = refl
thrown_mapped f (Thrown.class c ∷ ts) = ap (class_names (map_class f c)) (thrown_mapped f ts) ∙ class_mapped f c (thrown_names ts)
thrown_mapped f (Thrown.variable n ∷ ts) = thrown_mapped f ts

pub signature_mapped : (f : Text → Text) (s : Signature) → signature_names (map_signature f s) ≡ map f (signature_names s)
unfolding map_signature signature_names
signature_mapped f (Signature.field r) = ref_mapped f r []
signature_mapped f (Signature.class ps c cs) =
    ap (λ (l : List Text). params_names (map_params f ps) (class_names (map_class f c) l)) (classes_mapped f cs)
    ∙ ap (params_names (map_params f ps)) (class_mapped f c (classes_names cs))
    ∙ params_mapped f ps (class_names c (classes_names cs))
signature_mapped f (Signature.method ps js r ts) =
    ap (λ (l : List Text). params_names (map_params f ps) (javas_names (map_javas f js) (result_names (map_result f r) l))) (thrown_mapped f ts)
    ∙ ap (λ (l : List Text). params_names (map_params f ps) (javas_names (map_javas f js) l)) (result_mapped f r (thrown_names ts))
    ∙ ap (params_names (map_params f ps)) (javas_mapped f js (result_names r (thrown_names ts)))
    ∙ params_mapped f ps (javas_names js (result_names r (thrown_names ts)))

-- two exchanges of which the second stands behind the first, where both come to a third at the names of signatures

abbrev pub ComesTo : (Text → Text) → (Text → Text) → (Text → Text) → Type 0
ComesTo f g h = (n : Text) → is_signature_name n ≡ true → f (g n) ≡ h n

two : {A B C : Type 0} (c : A → B → C) (a b : A) (x y : B) → a ≡ b → x ≡ y → c a x ≡ c b y
two c a b x y p q = ap (λ z. c z x) p ∙ ap (c b) q

three : {A B C D : Type 0} (c : A → B → C → D) (a b : A) (x y : B) (u v : C) → a ≡ b → x ≡ y → u ≡ v → c a x u ≡ c b y v
three c a b x y u v p q r = ap (λ z. c z x u) p ∙ ap (λ z. c b z u) q ∙ ap (c b y) r

mutual
  unfolding map_java map_ref map_class map_inner map_args map_arg is_java is_ref is_class is_inner is_args is_each is_arg

  java_twice : (f g h : Text → Text) → ComesTo f g h → (k : ℕ) (j : JavaType) → is_java k j ≡ true → map_java f (map_java g j) ≡ map_java h j
  java_twice f g h same k (JavaType.base c) w = refl
  java_twice f g h same k (JavaType.ref r) w = ap JavaType.ref (ref_twice f g h same k r w)

  ref_twice : (f g h : Text → Text) → ComesTo f g h → (k : ℕ) (r : Ref) → is_ref k r ≡ true → map_ref f (map_ref g r) ≡ map_ref h r
  ref_twice f g h same k (Ref.class c) w = ap Ref.class (class_twice f g h same k c w)
  ref_twice f g h same k (Ref.variable n) w = refl
  ref_twice f g h same k (Ref.array j) w = ap Ref.array (java_twice f g h same k j w)

  class_twice : (f g h : Text → Text) → ComesTo f g h → (k : ℕ) (c : ClassType) → is_class k c ≡ true → map_class f (map_class g c) ≡ map_class h c
  class_twice f g h same k (ClassType.named n args inner) w =
      let p = and_parts _ _ w in
      let q = and_parts _ _ p.0 in
      three ClassType.named _ _ _ _ _ _ (same n q.0) (args_twice f g h same k args q.1) (inner_twice f g h same k inner p.1)

  inner_twice : (f g h : Text → Text) → ComesTo f g h → (k : ℕ) (i : Inner) → is_inner k i ≡ true → map_inner f (map_inner g i) ≡ map_inner h i
  inner_twice f g h same k Inner.done w = refl
  inner_twice f g h same k (Inner.dot n args inner) w =
      let p = and_parts _ _ w in
      two (Inner.dot n) _ _ _ _ (args_twice f g h same k args (and_parts _ _ p.0).1) (inner_twice f g h same k inner p.1)

  args_twice : (f g h : Text → Text) → ComesTo f g h → (k : ℕ) (a : Args) → is_args k a ≡ true → map_args f (map_args g a) ≡ map_args h a
  args_twice f g h same k Args.none w = refl
  args_twice f g h same k (Args.more a rest) w =
      let p = and_parts _ _ w in
      two Args.more _ _ _ _ (arg_twice f g h same (k - 1) a (and_parts _ _ p.0).1) (each_twice f g h same (k - 1) rest p.1)

  each_twice : (f g h : Text → Text) → ComesTo f g h → (k : ℕ) (a : Args) → is_each k a ≡ true → map_args f (map_args g a) ≡ map_args h a
  each_twice f g h same k Args.none w = refl
  each_twice f g h same k (Args.more a rest) w =
      let p = and_parts _ _ w in
      two Args.more _ _ _ _ (arg_twice f g h same k a p.0) (each_twice f g h same k rest p.1)

  arg_twice : (f g h : Text → Text) → ComesTo f g h → (k : ℕ) (a : Arg) → is_arg k a ≡ true → map_arg f (map_arg g a) ≡ map_arg h a
  arg_twice f g h same k Arg.any w = refl
  arg_twice f g h same k (Arg.exactly r) w = ap Arg.exactly (ref_twice f g h same k r w)
  arg_twice f g h same k (Arg.extends r) w = ap Arg.extends (ref_twice f g h same k r w)
  arg_twice f g h same k (Arg.super_of r) w = ap Arg.super_of (ref_twice f g h same k r w)

bound_twice : (f g h : Text → Text) → ComesTo f g h → (k : ℕ) (b : Option Ref) → is_bound k b ≡ true → map_bound f (map_bound g b) ≡ map_bound h b
unfolding map_bound is_bound
bound_twice f g h same k None w = refl
bound_twice f g h same k (Some r) w = ap (λ (x : Ref). Some x) (ref_twice f g h same k r w)

refs_twice : (f g h : Text → Text) → ComesTo f g h → (k : ℕ) (rs : List Ref) → list_all (is_ref k) rs ≡ true → map_refs f (map_refs g rs) ≡ map_refs h rs
unfolding map_refs
refs_twice f g h same k [] w = refl
refs_twice f g h same k (r ∷ rs) w = two (λ (x : Ref) (xs : List Ref). x ∷ xs) _ _ _ _ (ref_twice f g h same k r (and_parts _ _ w).0) (refs_twice f g h same k rs (and_parts _ _ w).1)

param_twice : (f g h : Text → Text) → ComesTo f g h → (k : ℕ) (p : Param) → is_param k p ≡ true → map_param f (map_param g p) ≡ map_param h p
param_twice f g h same k p w =
    let q = and_parts _ _ w in
    let b = bound_twice f g h same k p.bound (and_parts _ _ q.0).1 in
    let o = refs_twice f g h same k p.others q.1 in
    λ i. record { name = p.name; bound = b i; others = o i }

params_twice : (f g h : Text → Text) → ComesTo f g h → (k : ℕ) (ps : List Param) → list_all (is_param k) ps ≡ true → map_params f (map_params g ps) ≡ map_params h ps
unfolding map_params
params_twice f g h same k [] w = refl
params_twice f g h same k (p ∷ ps) w = two (λ (x : Param) (xs : List Param). x ∷ xs) _ _ _ _ (param_twice f g h same k p (and_parts _ _ w).0) (params_twice f g h same k ps (and_parts _ _ w).1)

classes_twice : (f g h : Text → Text) → ComesTo f g h → (k : ℕ) (cs : List ClassType) → list_all (is_class k) cs ≡ true → map_classes f (map_classes g cs) ≡ map_classes h cs
unfolding map_classes
classes_twice f g h same k [] w = refl
classes_twice f g h same k (c ∷ cs) w = two (λ (x : ClassType) (xs : List ClassType). x ∷ xs) _ _ _ _ (class_twice f g h same k c (and_parts _ _ w).0) (classes_twice f g h same k cs (and_parts _ _ w).1)

javas_twice : (f g h : Text → Text) → ComesTo f g h → (k : ℕ) (js : List JavaType) → list_all (is_java k) js ≡ true → map_javas f (map_javas g js) ≡ map_javas h js
unfolding map_javas
javas_twice f g h same k [] w = refl
javas_twice f g h same k (j ∷ js) w = two (λ (x : JavaType) (xs : List JavaType). x ∷ xs) _ _ _ _ (java_twice f g h same k j (and_parts _ _ w).0) (javas_twice f g h same k js (and_parts _ _ w).1)

result_twice : (f g h : Text → Text) → ComesTo f g h → (k : ℕ) (r : Option JavaType) → is_result k r ≡ true → map_result f (map_result g r) ≡ map_result h r
unfolding map_result is_result
result_twice f g h same k None w = refl
result_twice f g h same k (Some j) w = ap (λ (x : JavaType). Some x) (java_twice f g h same k j w)

thrown_twice : (f g h : Text → Text) → ComesTo f g h → (k : ℕ) (ts : List Thrown) → list_all (is_thrown k) ts ≡ true → map_thrown f (map_thrown g ts) ≡ map_thrown h ts
unfolding map_thrown is_thrown
thrown_twice f g h same k [] w = refl
thrown_twice f g h same k (Thrown.class c ∷ ts) w = two (λ (x : Thrown) (xs : List Thrown). x ∷ xs) _ _ _ _ (ap Thrown.class (class_twice f g h same k c (and_parts _ _ w).0)) (thrown_twice f g h same k ts (and_parts _ _ w).1)
thrown_twice f g h same k (Thrown.variable n ∷ ts) w = ap (λ (xs : List Thrown). Thrown.variable n ∷ xs) (thrown_twice f g h same k ts (and_parts _ _ w).1)

pub signature_twice : (f g h : Text → Text) → ComesTo f g h → (k : ℕ) (s : Signature) → is_signature k s ≡ true → map_signature f (map_signature g s) ≡ map_signature h s
unfolding map_signature is_signature
signature_twice f g h same k (Signature.field r) w = ap Signature.field (ref_twice f g h same k r w)
signature_twice f g h same k (Signature.class ps c cs) w =
    let p = and_parts _ _ w in
    let q = and_parts _ _ p.1 in
    three Signature.class _ _ _ _ _ _ (params_twice f g h same k ps p.0) (class_twice f g h same k c q.0) (classes_twice f g h same k cs q.1)
signature_twice f g h same k (Signature.method ps js r ts) w =
    let p = and_parts _ _ w in
    let q = and_parts _ _ p.0 in
    let o = and_parts _ _ q.0 in
    three (Signature.method (map_params f (map_params g ps))) _ _ _ _ _ _ (javas_twice f g h same k js o.1) (result_twice f g h same k r q.1) (thrown_twice f g h same k ts p.1)
    ∙ ap (λ (x : List Param). Signature.method x (map_javas h js) (map_result h r) (map_thrown h ts)) (params_twice f g h same k ps o.0)
