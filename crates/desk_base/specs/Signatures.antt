-- Signatures (JVMS 4.7.9.1), as trees.
use Rattle.std.specs.Prelude.{◌≡◌, ℕ, ◌-◌, Bool, true, false, not, ◌&&◌, ◌||◌, ◌==◌, nat_le, List, [], ◌∷◌, ◌++◌, Option, Some, None}
use Rattle.std.specs.List.{list_all}
use Rattle.desk_base.specs.Names.{Text, is_name, is_reserved, slash}
use Rattle.desk_base.specs.Descriptors.{is_base, as_is}

-- a byte that no identifier of a signature holds: `.` `;` `[` `/` `<` `>` or `:`
abbrev pub is_mark : ℕ → Bool
is_mark b = is_reserved b || b == 60 || b == 62 || b == 58

-- an identifier: one or more other bytes
abbrev pub is_signature_identifier : Text → Bool
is_signature_identifier [] = false
is_signature_identifier (first ∷ rest) = list_all (λ b. not (is_mark b)) (first ∷ rest)

-- the class name of a class type: identifiers joined by `/`, the last being that of its first simple class
abbrev pub is_signature_name : Text → Bool
is_signature_name = is_name is_signature_identifier slash

-- A reference is a class type, a type variable, or an array of a type. A type is a base type or a reference.
-- A class type has its class name, the arguments of its first simple name, and the simple names behind each `.` with theirs.
-- Arguments are none, or one in front of others; each is `*`, or a reference with nothing, `+` or `-` before it.
mutual
  pub data JavaType : Type 0 where
    base : ℕ → JavaType
    ref : Ref → JavaType

  pub data Ref : Type 0 where
    class : ClassType → Ref
    variable : Text → Ref
    array : JavaType → Ref

  pub data ClassType : Type 0 where
    named : Text → Args → Inner → ClassType

  pub data Inner : Type 0 where
    done : Inner
    dot : Text → Args → Inner → Inner

  pub data Args : Type 0 where
    none : Args
    more : Arg → Args → Args

  pub data Arg : Type 0 where
    any : Arg
    exactly : Ref → Arg
    extends : Ref → Arg
    super_of : Ref → Arg

-- Printing: each in front of a text, with each class name spelled by f. A name behind a `.` is no class name by itself, and
-- stays.
unfoldable mutual
  pub java_text : (Text → Text) → JavaType → Text → Text
  java_text f (JavaType.base c) t = c ∷ t
  java_text f (JavaType.ref r) t = ref_text f r t

  pub ref_text : (Text → Text) → Ref → Text → Text
  ref_text f (Ref.class c) t = class_text f c t
  ref_text f (Ref.variable name) t = 84 ∷ (name ++ 59 ∷ t)
  ref_text f (Ref.array j) t = 91 ∷ java_text f j t

  pub class_text : (Text → Text) → ClassType → Text → Text
  class_text f (ClassType.named name args inner) t = 76 ∷ (f name ++ args_text f args (inner_text f inner (59 ∷ t)))

  pub inner_text : (Text → Text) → Inner → Text → Text
  inner_text f Inner.done t = t
  inner_text f (Inner.dot name args inner) t = 46 ∷ (name ++ args_text f args (inner_text f inner t))

  -- none, or in `<` and `>`
  pub args_text : (Text → Text) → Args → Text → Text
  args_text f Args.none t = t
  args_text f (Args.more a rest) t = 60 ∷ arg_text f a (each_text f rest (62 ∷ t))

  -- one behind the other
  pub each_text : (Text → Text) → Args → Text → Text
  each_text f Args.none t = t
  each_text f (Args.more a rest) t = arg_text f a (each_text f rest t)

  pub arg_text : (Text → Text) → Arg → Text → Text
  arg_text f Arg.any t = 42 ∷ t
  arg_text f (Arg.exactly r) t = ref_text f r t
  arg_text f (Arg.extends r) t = 43 ∷ ref_text f r t
  arg_text f (Arg.super_of r) t = 45 ∷ ref_text f r t

-- Forms, with at most so many argument lists one within another
unfoldable mutual
  pub is_java : ℕ → JavaType → Bool
  is_java k (JavaType.base c) = is_base c
  is_java k (JavaType.ref r) = is_ref k r

  pub is_ref : ℕ → Ref → Bool
  is_ref k (Ref.class c) = is_class k c
  is_ref k (Ref.variable name) = is_signature_identifier name
  is_ref k (Ref.array j) = is_java k j

  pub is_class : ℕ → ClassType → Bool
  is_class k (ClassType.named name args inner) = is_signature_name name && is_args k args && is_inner k inner

  pub is_inner : ℕ → Inner → Bool
  is_inner k Inner.done = true
  is_inner k (Inner.dot name args inner) = is_signature_identifier name && is_args k args && is_inner k inner

  pub is_args : ℕ → Args → Bool
  is_args k Args.none = true
  is_args k (Args.more a rest) = nat_le 1 k && is_arg (k - 1) a && is_each (k - 1) rest

  pub is_each : ℕ → Args → Bool
  is_each k Args.none = true
  is_each k (Args.more a rest) = is_arg k a && is_each k rest

  pub is_arg : ℕ → Arg → Bool
  is_arg k Arg.any = true
  is_arg k (Arg.exactly r) = is_ref k r
  is_arg k (Arg.extends r) = is_ref k r
  is_arg k (Arg.super_of r) = is_ref k r

-- A type parameter: its name, the bound by a class where there is one, and the bounds by interfaces.
pub record Param : Type 0 where
  pub name : Text
  pub bound : Option Ref
  pub others : List Ref

pub data Thrown : Type 0 where
  class : ClassType → Thrown
  variable : Text → Thrown

pub data Signature : Type 0 where
  field : Ref → Signature
  class : List Param → ClassType → List ClassType → Signature
  method : List Param → List JavaType → Option JavaType → List Thrown → Signature

unfoldable pub bound_text : (Text → Text) → Option Ref → Text → Text
bound_text f None t = t
bound_text f (Some r) t = ref_text f r t

-- each behind a `:`
unfoldable pub bounds_text : (Text → Text) → List Ref → Text → Text
bounds_text f [] t = t
bounds_text f (r ∷ rs) t = 58 ∷ ref_text f r (bounds_text f rs t)

abbrev pub param_text : (Text → Text) → Param → Text → Text
param_text f p t = p.name ++ 58 ∷ bound_text f p.bound (bounds_text f p.others t)

unfoldable pub each_param : (Text → Text) → List Param → Text → Text
each_param f [] t = t
each_param f (p ∷ ps) t = param_text f p (each_param f ps t)

-- none, or in `<` and `>`
unfoldable pub params_text : (Text → Text) → List Param → Text → Text
params_text f [] t = t
params_text f (p ∷ ps) t = 60 ∷ each_param f (p ∷ ps) (62 ∷ t)

unfoldable pub classes_text : (Text → Text) → List ClassType → Text
classes_text f [] = []
classes_text f (c ∷ cs) = class_text f c (classes_text f cs)

unfoldable pub javas_text : (Text → Text) → List JavaType → Text → Text
javas_text f [] t = t
javas_text f (j ∷ js) t = java_text f j (javas_text f js t)

unfoldable pub result_text : (Text → Text) → Option JavaType → Text → Text
result_text f None t = 86 ∷ t
result_text f (Some j) t = java_text f j t

unfoldable pub thrown_text : (Text → Text) → List Thrown → Text
thrown_text f [] = []
thrown_text f (Thrown.class c ∷ ts) = 94 ∷ class_text f c (thrown_text f ts)
thrown_text f (Thrown.variable name ∷ ts) = 94 ∷ 84 ∷ (name ++ 59 ∷ thrown_text f ts)

-- the text of a signature, with each class name spelled by f
unfoldable pub signature_text : (Text → Text) → Signature → Text
signature_text f (Signature.field r) = ref_text f r []
signature_text f (Signature.class ps c cs) = params_text f ps (class_text f c (classes_text f cs))
signature_text f (Signature.method ps js r ts) = params_text f ps (40 ∷ javas_text f js (41 ∷ result_text f r (thrown_text f ts)))

-- the text of a signature
abbrev pub print_signature : Signature → Text
print_signature = signature_text as_is

-- Exchanging each class name

unfoldable mutual
  pub map_java : (Text → Text) → JavaType → JavaType
  map_java f (JavaType.base c) = JavaType.base c
  map_java f (JavaType.ref r) = JavaType.ref (map_ref f r)

  pub map_ref : (Text → Text) → Ref → Ref
  map_ref f (Ref.class c) = Ref.class (map_class f c)
  map_ref f (Ref.variable name) = Ref.variable name
  map_ref f (Ref.array j) = Ref.array (map_java f j)

  pub map_class : (Text → Text) → ClassType → ClassType
  map_class f (ClassType.named name args inner) = ClassType.named (f name) (map_args f args) (map_inner f inner)

  pub map_inner : (Text → Text) → Inner → Inner
  map_inner f Inner.done = Inner.done
  map_inner f (Inner.dot name args inner) = Inner.dot name (map_args f args) (map_inner f inner)

  pub map_args : (Text → Text) → Args → Args
  map_args f Args.none = Args.none
  map_args f (Args.more a rest) = Args.more (map_arg f a) (map_args f rest)

  pub map_arg : (Text → Text) → Arg → Arg
  map_arg f Arg.any = Arg.any
  map_arg f (Arg.exactly r) = Arg.exactly (map_ref f r)
  map_arg f (Arg.extends r) = Arg.extends (map_ref f r)
  map_arg f (Arg.super_of r) = Arg.super_of (map_ref f r)

unfoldable pub map_bound : (Text → Text) → Option Ref → Option Ref
map_bound f None = None
map_bound f (Some r) = Some (map_ref f r)

unfoldable pub map_refs : (Text → Text) → List Ref → List Ref
map_refs f [] = []
map_refs f (r ∷ rs) = map_ref f r ∷ map_refs f rs

abbrev pub map_param : (Text → Text) → Param → Param
map_param f p = record { name = p.name; bound = map_bound f p.bound; others = map_refs f p.others }

unfoldable pub map_params : (Text → Text) → List Param → List Param
map_params f [] = []
map_params f (p ∷ ps) = map_param f p ∷ map_params f ps

unfoldable pub map_classes : (Text → Text) → List ClassType → List ClassType
map_classes f [] = []
map_classes f (c ∷ cs) = map_class f c ∷ map_classes f cs

unfoldable pub map_javas : (Text → Text) → List JavaType → List JavaType
map_javas f [] = []
map_javas f (j ∷ js) = map_java f j ∷ map_javas f js

unfoldable pub map_result : (Text → Text) → Option JavaType → Option JavaType
map_result f None = None
map_result f (Some j) = Some (map_java f j)

unfoldable pub map_thrown : (Text → Text) → List Thrown → List Thrown
map_thrown f [] = []
map_thrown f (Thrown.class c ∷ ts) = Thrown.class (map_class f c) ∷ map_thrown f ts
map_thrown f (Thrown.variable name ∷ ts) = Thrown.variable name ∷ map_thrown f ts

-- the signature with each class name exchanged
unfoldable pub map_signature : (Text → Text) → Signature → Signature
map_signature f (Signature.field r) = Signature.field (map_ref f r)
map_signature f (Signature.class ps c cs) = Signature.class (map_params f ps) (map_class f c) (map_classes f cs)
map_signature f (Signature.method ps js r ts) = Signature.method (map_params f ps) (map_javas f js) (map_result f r) (map_thrown f ts)

-- The class names, in their order, each in front of further names

unfoldable mutual
  pub java_names : JavaType → List Text → List Text
  java_names (JavaType.base c) behind = behind
  java_names (JavaType.ref r) behind = ref_names r behind

  pub ref_names : Ref → List Text → List Text
  ref_names (Ref.class c) behind = class_names c behind
  ref_names (Ref.variable name) behind = behind
  ref_names (Ref.array j) behind = java_names j behind

  pub class_names : ClassType → List Text → List Text
  class_names (ClassType.named name args inner) behind = name ∷ args_names args (inner_names inner behind)

  pub inner_names : Inner → List Text → List Text
  inner_names Inner.done behind = behind
  inner_names (Inner.dot name args inner) behind = args_names args (inner_names inner behind)

  pub args_names : Args → List Text → List Text
  args_names Args.none behind = behind
  args_names (Args.more a rest) behind = arg_names a (args_names rest behind)

  pub arg_names : Arg → List Text → List Text
  arg_names Arg.any behind = behind
  arg_names (Arg.exactly r) behind = ref_names r behind
  arg_names (Arg.extends r) behind = ref_names r behind
  arg_names (Arg.super_of r) behind = ref_names r behind

unfoldable pub bound_names : Option Ref → List Text → List Text
bound_names None behind = behind
bound_names (Some r) behind = ref_names r behind

unfoldable pub refs_names : List Ref → List Text → List Text
refs_names [] behind = behind
refs_names (r ∷ rs) behind = ref_names r (refs_names rs behind)

unfoldable pub params_names : List Param → List Text → List Text
params_names [] behind = behind
params_names (p ∷ ps) behind = bound_names p.bound (refs_names p.others (params_names ps behind))

unfoldable pub classes_names : List ClassType → List Text
classes_names [] = []
classes_names (c ∷ cs) = class_names c (classes_names cs)

unfoldable pub javas_names : List JavaType → List Text → List Text
javas_names [] behind = behind
javas_names (j ∷ js) behind = java_names j (javas_names js behind)

unfoldable pub result_names : Option JavaType → List Text → List Text
result_names None behind = behind
result_names (Some j) behind = java_names j behind

unfoldable pub thrown_names : List Thrown → List Text
thrown_names [] = []
thrown_names (Thrown.class c ∷ ts) = class_names c (thrown_names ts)
thrown_names (Thrown.variable name ∷ ts) = thrown_names ts

-- the class names of a signature
unfoldable pub signature_names : Signature → List Text
signature_names (Signature.field r) = ref_names r []
signature_names (Signature.class ps c cs) = params_names ps (class_names c (classes_names cs))
signature_names (Signature.method ps js r ts) = params_names ps (javas_names js (result_names r (thrown_names ts)))

-- Forms of the parts of a signature, with at most so many argument lists one within another

unfoldable pub is_bound : ℕ → Option Ref → Bool
is_bound k None = true
is_bound k (Some r) = is_ref k r

abbrev pub is_param : ℕ → Param → Bool
is_param k p = is_signature_identifier p.name && is_bound k p.bound && list_all (is_ref k) p.others

unfoldable pub is_result : ℕ → Option JavaType → Bool
is_result k None = true
is_result k (Some j) = is_java k j

unfoldable pub is_thrown : ℕ → Thrown → Bool
is_thrown k (Thrown.class c) = is_class k c
is_thrown k (Thrown.variable name) = is_signature_identifier name

unfoldable pub is_signature : ℕ → Signature → Bool
is_signature k (Signature.field r) = is_ref k r
is_signature k (Signature.class ps c cs) = list_all (is_param k) ps && list_all (is_class k) (c ∷ cs)
is_signature k (Signature.method ps js r ts) = list_all (is_param k) ps && list_all (is_java k) js && is_result k r && list_all (is_thrown k) ts

-- The three kinds
pub data SignatureKind : Type 0 where
  class : SignatureKind
  method : SignatureKind
  field : SignatureKind

unfoldable pub kind_of : Signature → SignatureKind
kind_of (Signature.field r) = SignatureKind.field
kind_of (Signature.class ps c cs) = SignatureKind.class
kind_of (Signature.method ps js r ts) = SignatureKind.method

-- the most argument lists that stand one within another
abbrev pub most_nesting : ℕ
most_nesting = 64

-- a text is a signature of a kind, and of which tree
pub record IsSignature (wanted : SignatureKind) (text : Text) (s : Signature) : Type 0 where
  pub kind : kind_of s ≡ wanted
  pub formed : is_signature most_nesting s ≡ true
  pub prints : print_signature s ≡ text
