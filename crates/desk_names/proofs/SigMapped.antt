-- Printing a signature with each class name exchanged is printing the exchanged tree, which has the kind and form of the tree.
use Rattle.std.proofs.Common.{◌≡◌, ℕ, ◌-◌, true, List, [], ◌∷◌, ◌++◌, Option, Some, None, refl, sym, ap, ◌∙◌}
use Rattle.std.specs.List.{list_all}
use Rattle.std.proofs.lemmas.Bool.{and_parts, and_from}
use Rattle.desk_base.specs.Names.{Text}
use Rattle.desk_base.specs.Descriptors.{as_is}
use Rattle.desk_base.specs.Signatures.{JavaType, Ref, ClassType, Inner, Args, Arg, Param, Thrown, Signature, SignatureKind, IsSignature, kind_of, is_signature_name, is_java, is_ref, is_class, is_inner, is_args, is_each, is_arg, is_bound, is_param, is_result, is_thrown, is_signature, java_text, ref_text, class_text, inner_text, args_text, each_text, arg_text, bound_text, bounds_text, each_param, params_text, classes_text, javas_text, result_text, thrown_text, signature_text, print_signature, map_java, map_ref, map_class, map_inner, map_args, map_arg, map_bound, map_refs, map_params, map_classes, map_javas, map_result, map_thrown, map_signature}
use Rattle.desk_names.specs.Pieces.{joined}
use Rattle.desk_names.specs.SignaturePieces.{sig_pieces}
use Rattle.desk_names.proofs.SigPieces.{spelled_by}

module _ (f : Text → Text) where
  mutual
    unfolding java_text map_java

    java_map : (j : JavaType) (t : Text) → java_text f j t ≡ java_text as_is (map_java f j) t
    java_map (JavaType.base c) t = refl
    java_map (JavaType.ref r) t = ref_map r t

    ref_map : (r : Ref) (t : Text) → ref_text f r t ≡ ref_text as_is (map_ref f r) t
    ref_map (Ref.class c) t = class_map c t
    ref_map (Ref.variable n) t = refl
    ref_map (Ref.array j) t = ap (λ (l : Text). 91 ∷ l) (java_map j t)

    class_map : (c : ClassType) (t : Text) → class_text f c t ≡ class_text as_is (map_class f c) t
    class_map (ClassType.named n x i) t = ap (λ (l : Text). 76 ∷ (f n ++ l)) (ap (args_text f x) (inner_map i (59 ∷ t)) ∙ args_map x (inner_text as_is (map_inner f i) (59 ∷ t)))

    inner_map : (i : Inner) (t : Text) → inner_text f i t ≡ inner_text as_is (map_inner f i) t
    inner_map Inner.done t = refl
    inner_map (Inner.dot n x i) t = ap (λ (l : Text). 46 ∷ (n ++ l)) (ap (args_text f x) (inner_map i t) ∙ args_map x (inner_text as_is (map_inner f i) t))

    args_map : (x : Args) (t : Text) → args_text f x t ≡ args_text as_is (map_args f x) t
    args_map Args.none t = refl
    args_map (Args.more a rest) t = ap (λ (l : Text). 60 ∷ l) (ap (arg_text f a) (each_map rest (62 ∷ t)) ∙ arg_map a (each_text as_is (map_args f rest) (62 ∷ t)))

    each_map : (x : Args) (t : Text) → each_text f x t ≡ each_text as_is (map_args f x) t
    each_map Args.none t = refl
    each_map (Args.more a rest) t = ap (arg_text f a) (each_map rest t) ∙ arg_map a (each_text as_is (map_args f rest) t)

    arg_map : (a : Arg) (t : Text) → arg_text f a t ≡ arg_text as_is (map_arg f a) t
    arg_map Arg.any t = refl
    arg_map (Arg.exactly r) t = ref_map r t
    arg_map (Arg.extends r) t = ap (λ (l : Text). 43 ∷ l) (ref_map r t)
    arg_map (Arg.super_of r) t = ap (λ (l : Text). 45 ∷ l) (ref_map r t)

  bound_map : (b : Option Ref) (t : Text) → bound_text f b t ≡ bound_text as_is (map_bound f b) t
  unfolding bound_text map_bound
  bound_map None t = refl
  bound_map (Some r) t = ref_map r t

  bounds_map : (rs : List Ref) (t : Text) → bounds_text f rs t ≡ bounds_text as_is (map_refs f rs) t
  unfolding bounds_text map_refs
  bounds_map [] t = refl
  bounds_map (r ∷ rs) t = ap (λ (l : Text). 58 ∷ l) (ap (ref_text f r) (bounds_map rs t) ∙ ref_map r (bounds_text as_is (map_refs f rs) t))

  each_param_map : (ps : List Param) (t : Text) → each_param f ps t ≡ each_param as_is (map_params f ps) t
  unfolding each_param map_params
  each_param_map [] t = refl
  each_param_map (p ∷ ps) t = ap (λ (l : Text). p.name ++ 58 ∷ l) (ap (λ (l : Text). bound_text f p.bound (bounds_text f p.others l)) (each_param_map ps t) ∙ ap (bound_text f p.bound) (bounds_map p.others (each_param as_is (map_params f ps) t)) ∙ bound_map p.bound (bounds_text as_is (map_refs f p.others) (each_param as_is (map_params f ps) t)))

  params_map : (ps : List Param) (t : Text) → params_text f ps t ≡ params_text as_is (map_params f ps) t
  unfolding params_text map_params
  params_map [] t = refl
  params_map (p ∷ ps) t = ap (λ (l : Text). 60 ∷ l) (each_param_map (p ∷ ps) (62 ∷ t))

  classes_map : (cs : List ClassType) → classes_text f cs ≡ classes_text as_is (map_classes f cs)
  unfolding classes_text map_classes
  classes_map [] = refl
  classes_map (c ∷ cs) = ap (class_text f c) (classes_map cs) ∙ class_map c (classes_text as_is (map_classes f cs))

  javas_map : (js : List JavaType) (t : Text) → javas_text f js t ≡ javas_text as_is (map_javas f js) t
  unfolding javas_text map_javas
  javas_map [] t = refl
  javas_map (j ∷ js) t = ap (java_text f j) (javas_map js t) ∙ java_map j (javas_text as_is (map_javas f js) t)

  result_map : (r : Option JavaType) (t : Text) → result_text f r t ≡ result_text as_is (map_result f r) t
  unfolding result_text map_result
  result_map None t = refl
  result_map (Some j) t = java_map j t

  thrown_map : (ts : List Thrown) → thrown_text f ts ≡ thrown_text as_is (map_thrown f ts)
  unfolding thrown_text map_thrown
  thrown_map [] = refl
  thrown_map (Thrown.class c ∷ ts) = ap (λ (l : Text). 94 ∷ l) (ap (class_text f c) (thrown_map ts) ∙ class_map c (thrown_text as_is (map_thrown f ts)))
  thrown_map (Thrown.variable n ∷ ts) = ap (λ (l : Text). 94 ∷ 84 ∷ (n ++ 59 ∷ l)) (thrown_map ts)

  signature_map : (s : Signature) → signature_text f s ≡ print_signature (map_signature f s)
  unfolding signature_text map_signature
  signature_map (Signature.field r) = ref_map r []
  signature_map (Signature.class ps c cs) = ap (λ (l : Text). params_text f ps l) (ap (class_text f c) (classes_map cs) ∙ class_map c (classes_text as_is (map_classes f cs))) ∙ params_map ps _
  signature_map (Signature.method ps js r ts) = ap (λ (l : Text). params_text f ps (40 ∷ l)) (ap (λ (l : Text). javas_text f js (41 ∷ l)) (ap (result_text f r) (thrown_map ts) ∙ result_map r (thrown_text as_is (map_thrown f ts))) ∙ javas_map js _) ∙ params_map ps _

  module _ (keeps : (n : Text) → is_signature_name n ≡ true → is_signature_name (f n) ≡ true) where
    mutual
      unfolding is_java map_java

      java_kept : (k : ℕ) (j : JavaType) → is_java k j ≡ true → is_java k (map_java f j) ≡ true
      java_kept k (JavaType.base c) h = h
      java_kept k (JavaType.ref r) h = ref_kept k r h

      ref_kept : (k : ℕ) (r : Ref) → is_ref k r ≡ true → is_ref k (map_ref f r) ≡ true
      ref_kept k (Ref.class c) h = class_kept k c h
      ref_kept k (Ref.variable n) h = h
      ref_kept k (Ref.array j) h = java_kept k j h

      class_kept : (k : ℕ) (c : ClassType) → is_class k c ≡ true → is_class k (map_class f c) ≡ true
      class_kept k (ClassType.named n x i) h =
          let p = and_parts _ _ h in
          let q = and_parts _ _ p.0 in
          and_from _ _ (and_from _ _ (keeps n q.0) (args_kept k x q.1)) (inner_kept k i p.1)

      inner_kept : (k : ℕ) (i : Inner) → is_inner k i ≡ true → is_inner k (map_inner f i) ≡ true
      inner_kept k Inner.done h = h
      inner_kept k (Inner.dot n x i) h =
          let p = and_parts _ _ h in
          let q = and_parts _ _ p.0 in
          and_from _ _ (and_from _ _ q.0 (args_kept k x q.1)) (inner_kept k i p.1)

      args_kept : (k : ℕ) (x : Args) → is_args k x ≡ true → is_args k (map_args f x) ≡ true
      args_kept k Args.none h = h
      args_kept k (Args.more a rest) h =
          let p = and_parts _ _ h in
          let q = and_parts _ _ p.0 in
          and_from _ _ (and_from _ _ q.0 (arg_kept (k - 1) a q.1)) (each_kept (k - 1) rest p.1)

      each_kept : (k : ℕ) (x : Args) → is_each k x ≡ true → is_each k (map_args f x) ≡ true
      each_kept k Args.none h = h
      each_kept k (Args.more a rest) h = and_from _ _ (arg_kept k a (and_parts _ _ h).0) (each_kept k rest (and_parts _ _ h).1)

      arg_kept : (k : ℕ) (a : Arg) → is_arg k a ≡ true → is_arg k (map_arg f a) ≡ true
      arg_kept k Arg.any h = h
      arg_kept k (Arg.exactly r) h = ref_kept k r h
      arg_kept k (Arg.extends r) h = ref_kept k r h
      arg_kept k (Arg.super_of r) h = ref_kept k r h

    bound_kept : (b : Option Ref) → is_bound 64 b ≡ true → is_bound 64 (map_bound f b) ≡ true
    unfolding is_bound map_bound
    bound_kept None h = h
    bound_kept (Some r) h = ref_kept 64 r h

    refs_kept : (rs : List Ref) → list_all (is_ref 64) rs ≡ true → list_all (is_ref 64) (map_refs f rs) ≡ true
    unfolding map_refs
    refs_kept [] h = h
    refs_kept (r ∷ rs) h = and_from _ _ (ref_kept 64 r (and_parts _ _ h).0) (refs_kept rs (and_parts _ _ h).1)

    params_kept : (ps : List Param) → list_all (is_param 64) ps ≡ true → list_all (is_param 64) (map_params f ps) ≡ true
    unfolding map_params
    params_kept [] h = h
    params_kept (p ∷ ps) h =
        let w3 = and_parts _ _ h in
        let w2 = and_parts _ _ w3.0 in
        let w1 = and_parts _ _ w2.0 in
        and_from _ _ (and_from _ _ (and_from _ _ w1.0 (bound_kept p.bound w1.1)) (refs_kept p.others w2.1)) (params_kept ps w3.1)

    classes_kept : (cs : List ClassType) → list_all (is_class 64) cs ≡ true → list_all (is_class 64) (map_classes f cs) ≡ true
    unfolding map_classes
    classes_kept [] h = h
    classes_kept (c ∷ cs) h = and_from _ _ (class_kept 64 c (and_parts _ _ h).0) (classes_kept cs (and_parts _ _ h).1)

    javas_kept : (js : List JavaType) → list_all (is_java 64) js ≡ true → list_all (is_java 64) (map_javas f js) ≡ true
    unfolding map_javas
    javas_kept [] h = h
    javas_kept (j ∷ js) h = and_from _ _ (java_kept 64 j (and_parts _ _ h).0) (javas_kept js (and_parts _ _ h).1)

    result_kept : (r : Option JavaType) → is_result 64 r ≡ true → is_result 64 (map_result f r) ≡ true
    unfolding is_result map_result
    result_kept None h = h
    result_kept (Some j) h = java_kept 64 j h

    thrown_kept : (ts : List Thrown) → list_all (is_thrown 64) ts ≡ true → list_all (is_thrown 64) (map_thrown f ts) ≡ true
    unfolding map_thrown is_thrown
    thrown_kept [] h = h
    thrown_kept (Thrown.class c ∷ ts) h = and_from _ _ (class_kept 64 c (and_parts _ _ h).0) (thrown_kept ts (and_parts _ _ h).1)
    thrown_kept (Thrown.variable n ∷ ts) h = and_from _ _ (and_parts _ _ h).0 (thrown_kept ts (and_parts _ _ h).1)

    signature_kept : (s : Signature) → is_signature 64 s ≡ true → is_signature 64 (map_signature f s) ≡ true
    unfolding is_signature map_signature
    signature_kept (Signature.field r) h = ref_kept 64 r h
    signature_kept (Signature.class ps c cs) h =
        let p = and_parts _ _ h in
        let q = and_parts _ _ p.1 in
        and_from _ _ (params_kept ps p.0) (and_from _ _ (class_kept 64 c q.0) (classes_kept cs q.1))
    signature_kept (Signature.method ps js r ts) h =
        let p3 = and_parts _ _ h in
        let p2 = and_parts _ _ p3.0 in
        let p1 = and_parts _ _ p2.0 in
        and_from _ _ (and_from _ _ (and_from _ _ (params_kept ps p1.0) (javas_kept js p1.1)) (result_kept r p2.1)) (thrown_kept ts p3.1)

  kind_kept : (s : Signature) → kind_of (map_signature f s) ≡ kind_of s
  unfolding kind_of map_signature
  kind_kept (Signature.field r) = refl
  kind_kept (Signature.class ps c cs) = refl
  kind_kept (Signature.method ps js r ts) = refl

pub sig_prints : (f : Text → Text) (kind : SignatureKind) (text : Text) (s : Signature) → IsSignature kind text s → joined f (sig_pieces kind text) ≡ print_signature (map_signature f s)
sig_prints f kind text s r = spelled_by f kind text s r ∙ signature_map f s

pub sig_kept : (f : Text → Text) → ((n : Text) → is_signature_name n ≡ true → is_signature_name (f n) ≡ true) → (kind : SignatureKind) (text : Text) (s : Signature) → IsSignature kind text s → IsSignature kind (joined f (sig_pieces kind text)) (map_signature f s)
sig_kept f keeps kind text s r = record { kind = kind_kept f s ∙ r.kind; formed = signature_kept f keeps s r.formed; prints = sym (sig_prints f kind text s r) }
