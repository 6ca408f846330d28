-- A signature printed into any kind of value: each byte and each class name is put in front of what stands behind it. With
-- bytes and names put before texts this prints; with names alone put before lists it gives the class names.
use Rattle.std.proofs.Common.{◌≡◌, ℕ, List, [], ◌∷◌, ◌++◌, Option, Some, None, refl, ap, ◌∙◌}
use Rattle.desk_base.specs.Names.{Text}
use Rattle.desk_base.specs.Signatures.{JavaType, Ref, ClassType, Inner, Args, Arg, Param, Thrown, Signature, java_text, ref_text, class_text, inner_text, args_text, each_text, arg_text, bound_text, bounds_text, each_param, params_text, classes_text, javas_text, result_text, thrown_text, signature_text, java_names, ref_names, class_names, inner_names, args_names, arg_names, bound_names, refs_names, params_names, classes_names, javas_names, result_names, thrown_names, signature_names}

module _ (X : Type 0) (put : ℕ → X → X) (name : Text → X → X) where
  unfoldable pub puts : Text → X → X
  puts [] x = x
  puts (b ∷ n) x = put b (puts n x)

  unfoldable mutual
    pub emit_java : JavaType → X → X
    emit_java (JavaType.base c) x = put c x
    emit_java (JavaType.ref r) x = emit_ref r x

    pub emit_ref : Ref → X → X
    emit_ref (Ref.class c) x = emit_class c x
    emit_ref (Ref.variable n) x = put 84 (puts n (put 59 x))
    emit_ref (Ref.array j) x = put 91 (emit_java j x)

    pub emit_class : ClassType → X → X
    emit_class (ClassType.named n args inner) x = put 76 (name n (emit_args args (emit_inner inner (put 59 x))))

    pub emit_inner : Inner → X → X
    emit_inner Inner.done x = x
    emit_inner (Inner.dot n args inner) x = put 46 (puts n (emit_args args (emit_inner inner x)))

    pub emit_args : Args → X → X
    emit_args Args.none x = x
    emit_args (Args.more a rest) x = put 60 (emit_arg a (emit_each rest (put 62 x)))

    pub emit_each : Args → X → X
    emit_each Args.none x = x
    emit_each (Args.more a rest) x = emit_arg a (emit_each rest x)

    pub emit_arg : Arg → X → X
    emit_arg Arg.any x = put 42 x
    emit_arg (Arg.exactly r) x = emit_ref r x
    emit_arg (Arg.extends r) x = put 43 (emit_ref r x)
    emit_arg (Arg.super_of r) x = put 45 (emit_ref r x)

  unfoldable pub emit_bound : Option Ref → X → X
  emit_bound None x = x
  emit_bound (Some r) x = emit_ref r x

  unfoldable pub emit_bounds : List Ref → X → X
  emit_bounds [] x = x
  emit_bounds (r ∷ rs) x = put 58 (emit_ref r (emit_bounds rs x))

  unfoldable pub emit_each_param : List Param → X → X
  emit_each_param [] x = x
  emit_each_param (p ∷ ps) x = puts p.name (put 58 (emit_bound p.bound (emit_bounds p.others (emit_each_param ps x))))

  unfoldable pub emit_params : List Param → X → X
  emit_params [] x = x
  emit_params (p ∷ ps) x = put 60 (emit_each_param (p ∷ ps) (put 62 x))

  unfoldable pub emit_classes : List ClassType → X → X
  emit_classes [] x = x
  emit_classes (c ∷ cs) x = emit_class c (emit_classes cs x)

  unfoldable pub emit_javas : List JavaType → X → X
  emit_javas [] x = x
  emit_javas (j ∷ js) x = emit_java j (emit_javas js x)

  unfoldable pub emit_result : Option JavaType → X → X
  emit_result None x = put 86 x
  emit_result (Some j) x = emit_java j x

  unfoldable pub emit_thrown : List Thrown → X → X
  emit_thrown [] x = x
  emit_thrown (Thrown.class c ∷ ts) x = put 94 (emit_class c (emit_thrown ts x))
  emit_thrown (Thrown.variable n ∷ ts) x = put 94 (put 84 (puts n (put 59 (emit_thrown ts x))))

  unfoldable pub emit_signature : Signature → X → X
  emit_signature (Signature.field r) x = emit_ref r x
  emit_signature (Signature.class ps c cs) x = emit_params ps (emit_class c (emit_classes cs x))
  emit_signature (Signature.method ps js r ts) x = emit_params ps (put 40 (emit_javas js (put 41 (emit_result r (emit_thrown ts x)))))

-- Printed into texts, with each class name spelled by f

abbrev pub put_byte : ℕ → Text → Text
put_byte b t = b ∷ t

abbrev pub put_name : (Text → Text) → Text → Text → Text
put_name f n t = f n ++ t

module _ (f : Text → Text) where
  pub puts_text : (n t : Text) → puts Text put_byte (put_name f) n t ≡ n ++ t
  unfolding puts
  puts_text [] t = refl
  puts_text (b ∷ n) t = ap (put_byte b) (puts_text n t)

  mutual
    unfolding emit_java java_text

    text_java : (j : JavaType) (t : Text) → emit_java Text put_byte (put_name f) j t ≡ java_text f j t
    text_java (JavaType.base c) t = refl
    text_java (JavaType.ref r) t = text_ref r t

    text_ref : (r : Ref) (t : Text) → emit_ref Text put_byte (put_name f) r t ≡ ref_text f r t
    text_ref (Ref.class c) t = text_class c t
    text_ref (Ref.variable n) t = ap (put_byte 84) (puts_text n (59 ∷ t))
    text_ref (Ref.array j) t = ap (put_byte 91) (text_java j t)

    text_class : (c : ClassType) (t : Text) → emit_class Text put_byte (put_name f) c t ≡ class_text f c t
    text_class (ClassType.named n args inner) t = ap (λ (l : Text). 76 ∷ (f n ++ l)) (ap (emit_args Text put_byte (put_name f) args) (text_inner inner (59 ∷ t)) ∙ text_args args (inner_text f inner (59 ∷ t)))

    text_inner : (i : Inner) (t : Text) → emit_inner Text put_byte (put_name f) i t ≡ inner_text f i t
    text_inner Inner.done t = refl
    text_inner (Inner.dot n args inner) t = ap (put_byte 46) (puts_text n (emit_args Text put_byte (put_name f) args (emit_inner Text put_byte (put_name f) inner t)) ∙ ap (λ (l : Text). n ++ l) (ap (emit_args Text put_byte (put_name f) args) (text_inner inner t) ∙ text_args args (inner_text f inner t)))

    text_args : (x : Args) (t : Text) → emit_args Text put_byte (put_name f) x t ≡ args_text f x t
    text_args Args.none t = refl
    text_args (Args.more a rest) t = ap (put_byte 60) (ap (emit_arg Text put_byte (put_name f) a) (text_each rest (62 ∷ t)) ∙ text_arg a (each_text f rest (62 ∷ t)))

    text_each : (x : Args) (t : Text) → emit_each Text put_byte (put_name f) x t ≡ each_text f x t
    text_each Args.none t = refl
    text_each (Args.more a rest) t = ap (emit_arg Text put_byte (put_name f) a) (text_each rest t) ∙ text_arg a (each_text f rest t)

    text_arg : (a : Arg) (t : Text) → emit_arg Text put_byte (put_name f) a t ≡ arg_text f a t
    text_arg Arg.any t = refl
    text_arg (Arg.exactly r) t = text_ref r t
    text_arg (Arg.extends r) t = ap (put_byte 43) (text_ref r t)
    text_arg (Arg.super_of r) t = ap (put_byte 45) (text_ref r t)

  text_bound : (b : Option Ref) (t : Text) → emit_bound Text put_byte (put_name f) b t ≡ bound_text f b t
  unfolding emit_bound bound_text
  text_bound None t = refl
  text_bound (Some r) t = text_ref r t

  text_bounds : (rs : List Ref) (t : Text) → emit_bounds Text put_byte (put_name f) rs t ≡ bounds_text f rs t
  unfolding emit_bounds bounds_text
  text_bounds [] t = refl
  text_bounds (r ∷ rs) t = ap (put_byte 58) (ap (emit_ref Text put_byte (put_name f) r) (text_bounds rs t) ∙ text_ref r (bounds_text f rs t))

  text_each_param : (ps : List Param) (t : Text) → emit_each_param Text put_byte (put_name f) ps t ≡ each_param f ps t
  unfolding emit_each_param each_param
  text_each_param [] t = refl
  text_each_param (p ∷ ps) t =
      puts_text p.name _ ∙ ap (λ (l : Text). p.name ++ 58 ∷ l) (text_bound p.bound _ ∙ ap (bound_text f p.bound) (text_bounds p.others _ ∙ ap (bounds_text f p.others) (text_each_param ps t)))

  text_params : (ps : List Param) (t : Text) → emit_params Text put_byte (put_name f) ps t ≡ params_text f ps t
  unfolding emit_params params_text
  text_params [] t = refl
  text_params (p ∷ ps) t = ap (put_byte 60) (text_each_param (p ∷ ps) (62 ∷ t))

  text_classes : (cs : List ClassType) → emit_classes Text put_byte (put_name f) cs [] ≡ classes_text f cs
  unfolding emit_classes classes_text
  text_classes [] = refl
  text_classes (c ∷ cs) = text_class c _ ∙ ap (class_text f c) (text_classes cs)

  text_javas : (js : List JavaType) (t : Text) → emit_javas Text put_byte (put_name f) js t ≡ javas_text f js t
  unfolding emit_javas javas_text
  text_javas [] t = refl
  text_javas (j ∷ js) t = text_java j _ ∙ ap (java_text f j) (text_javas js t)

  text_result : (r : Option JavaType) (t : Text) → emit_result Text put_byte (put_name f) r t ≡ result_text f r t
  unfolding emit_result result_text
  text_result None t = refl
  text_result (Some j) t = text_java j t

  text_thrown : (ts : List Thrown) → emit_thrown Text put_byte (put_name f) ts [] ≡ thrown_text f ts
  unfolding emit_thrown thrown_text
  text_thrown [] = refl
  text_thrown (Thrown.class c ∷ ts) = ap (put_byte 94) (text_class c _ ∙ ap (class_text f c) (text_thrown ts))
  text_thrown (Thrown.variable n ∷ ts) = ap (λ (l : Text). 94 ∷ 84 ∷ l) (puts_text n _ ∙ ap (λ (l : Text). n ++ 59 ∷ l) (text_thrown ts))

  pub text_signature : (s : Signature) → emit_signature Text put_byte (put_name f) s [] ≡ signature_text f s
  unfolding emit_signature signature_text
  text_signature (Signature.field r) = text_ref r []
  text_signature (Signature.class ps c cs) = text_params ps _ ∙ ap (params_text f ps) (text_class c _ ∙ ap (class_text f c) (text_classes cs))
  text_signature (Signature.method ps js r ts) = text_params ps _ ∙ ap (λ (l : Text). params_text f ps (40 ∷ l)) (text_javas js _ ∙ ap (λ (l : Text). javas_text f js (41 ∷ l)) (text_result r _ ∙ ap (result_text f r) (text_thrown ts)))

-- The class names alone

abbrev pub skip : ℕ → List Text → List Text
skip b ns = ns

abbrev pub keep : Text → List Text → List Text
keep n ns = n ∷ ns

pub puts_names : (n : Text) (x : List Text) → puts (List Text) skip keep n x ≡ x
unfolding puts
puts_names [] x = refl
puts_names (b ∷ n) x = puts_names n x

mutual
  unfolding emit_java java_names

  names_java : (j : JavaType) (x : List Text) → emit_java (List Text) skip keep j x ≡ java_names j x
  names_java (JavaType.base c) x = refl
  names_java (JavaType.ref r) x = names_ref r x

  names_ref : (r : Ref) (x : List Text) → emit_ref (List Text) skip keep r x ≡ ref_names r x
  names_ref (Ref.class c) x = names_class c x
  names_ref (Ref.variable n) x = puts_names n x
  names_ref (Ref.array j) x = names_java j x

  names_class : (c : ClassType) (x : List Text) → emit_class (List Text) skip keep c x ≡ class_names c x
  names_class (ClassType.named n args inner) x = ap (keep n) (ap (emit_args (List Text) skip keep args) (names_inner inner x) ∙ names_args args (inner_names inner x))

  names_inner : (i : Inner) (x : List Text) → emit_inner (List Text) skip keep i x ≡ inner_names i x
  names_inner Inner.done x = refl
  names_inner (Inner.dot n args inner) x = puts_names n (emit_args (List Text) skip keep args (emit_inner (List Text) skip keep inner x)) ∙ ap (emit_args (List Text) skip keep args) (names_inner inner x) ∙ names_args args (inner_names inner x)

  names_args : (a : Args) (x : List Text) → emit_args (List Text) skip keep a x ≡ args_names a x
  names_args Args.none x = refl
  names_args (Args.more a rest) x = ap (emit_arg (List Text) skip keep a) (names_each rest x) ∙ names_arg a (args_names rest x)

  names_each : (a : Args) (x : List Text) → emit_each (List Text) skip keep a x ≡ args_names a x
  names_each Args.none x = refl
  names_each (Args.more a rest) x = ap (emit_arg (List Text) skip keep a) (names_each rest x) ∙ names_arg a (args_names rest x)

  names_arg : (a : Arg) (x : List Text) → emit_arg (List Text) skip keep a x ≡ arg_names a x
  names_arg Arg.any x = refl
  names_arg (Arg.exactly r) x = names_ref r x
  names_arg (Arg.extends r) x = names_ref r x
  names_arg (Arg.super_of r) x = names_ref r x

names_bound : (b : Option Ref) (x : List Text) → emit_bound (List Text) skip keep b x ≡ bound_names b x
unfolding emit_bound bound_names
names_bound None x = refl
names_bound (Some r) x = names_ref r x

names_bounds : (rs : List Ref) (x : List Text) → emit_bounds (List Text) skip keep rs x ≡ refs_names rs x
unfolding emit_bounds refs_names
names_bounds [] x = refl
names_bounds (r ∷ rs) x = ap (emit_ref (List Text) skip keep r) (names_bounds rs x) ∙ names_ref r (refs_names rs x)

names_each_param : (ps : List Param) (x : List Text) → emit_each_param (List Text) skip keep ps x ≡ params_names ps x
unfolding emit_each_param params_names
names_each_param [] x = refl
names_each_param (p ∷ ps) x = puts_names p.name _ ∙ names_bound p.bound _ ∙ ap (bound_names p.bound) (names_bounds p.others _ ∙ ap (refs_names p.others) (names_each_param ps x))

names_params : (ps : List Param) (x : List Text) → emit_params (List Text) skip keep ps x ≡ params_names ps x
unfolding emit_params params_names
names_params [] x = refl
names_params (p ∷ ps) x = names_each_param (p ∷ ps) x

names_classes : (cs : List ClassType) → emit_classes (List Text) skip keep cs [] ≡ classes_names cs
unfolding emit_classes classes_names
names_classes [] = refl
names_classes (c ∷ cs) = names_class c _ ∙ ap (class_names c) (names_classes cs)

names_javas : (js : List JavaType) (x : List Text) → emit_javas (List Text) skip keep js x ≡ javas_names js x
unfolding emit_javas javas_names
names_javas [] x = refl
names_javas (j ∷ js) x = names_java j _ ∙ ap (java_names j) (names_javas js x)

names_result : (r : Option JavaType) (x : List Text) → emit_result (List Text) skip keep r x ≡ result_names r x
unfolding emit_result result_names
names_result None x = refl
names_result (Some j) x = names_java j x

names_thrown : (ts : List Thrown) → emit_thrown (List Text) skip keep ts [] ≡ thrown_names ts
unfolding emit_thrown thrown_names
names_thrown [] = refl
names_thrown (Thrown.class c ∷ ts) = names_class c _ ∙ ap (class_names c) (names_thrown ts)
names_thrown (Thrown.variable n ∷ ts) = puts_names n _ ∙ names_thrown ts

pub names_signature : (s : Signature) → emit_signature (List Text) skip keep s [] ≡ signature_names s
unfolding emit_signature signature_names
names_signature (Signature.field r) = names_ref r []
names_signature (Signature.class ps c cs) = names_params ps _ ∙ ap (params_names ps) (names_class c _ ∙ ap (class_names c) (names_classes cs))
names_signature (Signature.method ps js r ts) = names_params ps _ ∙ ap (params_names ps) (names_javas js _ ∙ ap (javas_names js) (names_result r _ ∙ ap (result_names r) (names_thrown ts)))
