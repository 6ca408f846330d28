-- The class names of a signature's tree are class names.
use Rattle.std.proofs.Common.{◌≡◌, ℕ, ◌-◌, true, not, List, [], ◌∷◌, Option, Some, None, refl, sym, subst}
use Rattle.std.specs.List.{list_all, All}
use Rattle.std.proofs.lemmas.List.Elements.{All-nil, All-cons}
use Rattle.std.proofs.lemmas.Bool.{and_parts, and_from, not-true, not_from_false, or_parts}
use Rattle.desk_base.specs.Names.{Text, Package, is_class_name, is_part, is_reserved, segments, slash}
use Rattle.desk_base.specs.Signatures.{SignatureKind, IsSignature, JavaType, Ref, ClassType, Inner, Args, Arg, Param, Thrown, Signature, is_mark, is_signature_name, is_signature_identifier, java_names, ref_names, class_names, inner_names, args_names, arg_names, bound_names, refs_names, params_names, classes_names, javas_names, result_names, thrown_names, signature_names, is_java, is_ref, is_class, is_inner, is_args, is_each, is_arg, is_bound, is_param, is_result, is_thrown, is_signature, most_nesting}
use Rattle.desk_names.specs.Pieces.{names_in}
use Rattle.desk_names.specs.SignaturePieces.{sig_pieces}
use Rattle.desk_names.proofs.SigPieces.{sig_names}

-- each of these is a class name
abbrev pub Named : List Text → Type 0
Named [] = Unit {0}
Named (n ∷ ns) = (is_class_name n ≡ true) × Named ns

each_byte : (t : Text) → list_all (λ b. not (is_mark b)) t ≡ true → list_all (λ b. not (is_reserved b)) t ≡ true
each_byte [] h = refl
each_byte (b ∷ t) h =
    let p = and_parts _ _ h in
    and_from _ _ (not_from_false _ (or_parts _ _ (or_parts _ _ (or_parts _ _ (not-true _ p.0)).0).0).0) (each_byte t p.1)

part : (t : Text) → is_signature_identifier t ≡ true → is_part t ≡ true
part [] h = h
part (b ∷ t) h = each_byte (b ∷ t) h

parts : (ps : Package) → list_all is_signature_identifier ps ≡ true → list_all is_part ps ≡ true
parts [] h = refl
parts (p ∷ ps) h = let q = and_parts _ _ h in and_from _ _ (part p q.0) (parts ps q.1)

-- the class name of a class type is a class name
pub is_named : (n : Text) → is_signature_name n ≡ true → is_class_name n ≡ true
is_named n h = let p = and_parts _ _ h in and_from _ _ p.0 (parts (segments slash n) p.1)

mutual
  unfolding is_java is_ref is_class is_inner is_args is_each is_arg java_names ref_names class_names inner_names args_names arg_names

  in_java : (k : ℕ) (j : JavaType) (more : List Text) → is_java k j ≡ true → Named more → Named (java_names j more)
  in_java k (JavaType.base c) more h m = m
  in_java k (JavaType.ref r) more h m = in_ref k r more h m

  in_ref : (k : ℕ) (r : Ref) (more : List Text) → is_ref k r ≡ true → Named more → Named (ref_names r more)
  in_ref k (Ref.class c) more h m = in_class k c more h m
  in_ref k (Ref.variable n) more h m = m
  in_ref k (Ref.array j) more h m = in_java k j more h m

  in_class : (k : ℕ) (c : ClassType) (more : List Text) → is_class k c ≡ true → Named more → Named (class_names c more)
  in_class k (ClassType.named n args inner) more h m =
      let p = and_parts _ _ h in
      let q = and_parts _ _ p.0 in
      (is_named n q.0, in_args k args (inner_names inner more) q.1 (in_inner k inner more p.1 m))

  in_inner : (k : ℕ) (i : Inner) (more : List Text) → is_inner k i ≡ true → Named more → Named (inner_names i more)
  in_inner k Inner.done more h m = m
  in_inner k (Inner.dot n args inner) more h m =
      let p = and_parts _ _ h in
      in_args k args (inner_names inner more) (and_parts _ _ p.0).1 (in_inner k inner more p.1 m)

  in_args : (k : ℕ) (a : Args) (more : List Text) → is_args k a ≡ true → Named more → Named (args_names a more)
  in_args k Args.none more h m = m
  in_args k (Args.more a rest) more h m =
      let p = and_parts _ _ h in
      in_arg (k - 1) a (args_names rest more) (and_parts _ _ p.0).1 (in_each (k - 1) rest more p.1 m)

  in_each : (k : ℕ) (a : Args) (more : List Text) → is_each k a ≡ true → Named more → Named (args_names a more)
  in_each k Args.none more h m = m
  in_each k (Args.more a rest) more h m =
      let p = and_parts _ _ h in
      in_arg k a (args_names rest more) p.0 (in_each k rest more p.1 m)

  in_arg : (k : ℕ) (a : Arg) (more : List Text) → is_arg k a ≡ true → Named more → Named (arg_names a more)
  in_arg k Arg.any more h m = m
  in_arg k (Arg.exactly r) more h m = in_ref k r more h m
  in_arg k (Arg.extends r) more h m = in_ref k r more h m
  in_arg k (Arg.super_of r) more h m = in_ref k r more h m

in_bound : (k : ℕ) (b : Option Ref) (more : List Text) → is_bound k b ≡ true → Named more → Named (bound_names b more)
unfolding is_bound bound_names
in_bound k None more h m = m
in_bound k (Some r) more h m = in_ref k r more h m

in_refs : (k : ℕ) (rs : List Ref) (more : List Text) → list_all (is_ref k) rs ≡ true → Named more → Named (refs_names rs more)
unfolding refs_names
in_refs k [] more h m = m
in_refs k (r ∷ rs) more h m = let p = and_parts _ _ h in in_ref k r (refs_names rs more) p.0 (in_refs k rs more p.1 m)

in_params : (k : ℕ) (ps : List Param) (more : List Text) → list_all (is_param k) ps ≡ true → Named more → Named (params_names ps more)
unfolding params_names
in_params k [] more h m = m
in_params k (p ∷ ps) more h m =
    let q = and_parts _ _ h in
    let o = and_parts _ _ q.0 in
    in_bound k p.bound (refs_names p.others (params_names ps more)) (and_parts _ _ o.0).1 (in_refs k p.others (params_names ps more) o.1 (in_params k ps more q.1 m))

in_classes : (k : ℕ) (cs : List ClassType) → list_all (is_class k) cs ≡ true → Named (classes_names cs)
unfolding classes_names
in_classes k [] h = tt
in_classes k (c ∷ cs) h = let p = and_parts _ _ h in in_class k c (classes_names cs) p.0 (in_classes k cs p.1)

in_javas : (k : ℕ) (js : List JavaType) (more : List Text) → list_all (is_java k) js ≡ true → Named more → Named (javas_names js more)
unfolding javas_names
in_javas k [] more h m = m
in_javas k (j ∷ js) more h m = let p = and_parts _ _ h in in_java k j (javas_names js more) p.0 (in_javas k js more p.1 m)

in_result : (k : ℕ) (r : Option JavaType) (more : List Text) → is_result k r ≡ true → Named more → Named (result_names r more)
unfolding is_result result_names
in_result k None more h m = m
in_result k (Some j) more h m = in_java k j more h m

in_thrown : (k : ℕ) (ts : List Thrown) → list_all (is_thrown k) ts ≡ true → Named (thrown_names ts)
unfolding is_thrown thrown_names
in_thrown k [] h = tt
in_thrown k (Thrown.class c ∷ ts) h = let p = and_parts _ _ h in in_class k c (thrown_names ts) p.0 (in_thrown k ts p.1)
in_thrown k (Thrown.variable n ∷ ts) h = in_thrown k ts (and_parts _ _ h).1

-- the class names of a signature
pub names_formed : (s : Signature) → is_signature most_nesting s ≡ true → Named (signature_names s)
unfolding is_signature signature_names
names_formed (Signature.field r) h = in_ref most_nesting r [] h tt
names_formed (Signature.class ps c cs) h =
    let p = and_parts _ _ h in
    let q = and_parts _ _ p.1 in
    in_params most_nesting ps (class_names c (classes_names cs)) p.0 (in_class most_nesting c (classes_names cs) q.0 (in_classes most_nesting cs q.1))
names_formed (Signature.method ps js r ts) h =
    let p = and_parts _ _ h in
    let q = and_parts _ _ p.0 in
    let o = and_parts _ _ q.0 in
    in_params most_nesting ps (javas_names js (result_names r (thrown_names ts))) o.0
    (in_javas most_nesting js (result_names r (thrown_names ts)) o.1 (in_result most_nesting r (thrown_names ts) q.1 (in_thrown most_nesting ts p.1)))

all_named : (ns : List Text) → Named ns → All (λ (name : Text). is_class_name name ≡ true) ns
all_named [] h = All-nil (λ (name : Text). is_class_name name ≡ true)
all_named (n ∷ ns) h = All-cons (λ (name : Text). is_class_name name ≡ true) n ns h.0 (all_named ns h.1)

-- the class names among a signature's parts
pub sig_named : (kind : SignatureKind) (text : Text) (s : Signature) → IsSignature kind text s → All (λ (name : Text). is_class_name name ≡ true) (names_in (sig_pieces kind text))
sig_named kind text s r =
    let P : List Text → Type 0 = λ ns. All (λ (name : Text). is_class_name name ≡ true) ns in
    subst P (sym (sig_names kind text s r)) (all_named (signature_names s) (names_formed s r.formed))
