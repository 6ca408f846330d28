-- The test of free classes tells whether they are the same.
use Rattle.std.proofs.Common.{◌≡◌, ℕ, Bool, true, List, Option, Some, None, Decides, bytes_eq, refl, ap, ap₂, subst, nat_eq}
use Rattle.std.specs.Option.{option_eq}
use Rattle.std.specs.Cmp.Lexicographic.{pointwise, pointwise_decides}
use Rattle.std.proofs.lemmas.Bool.{and_parts, and_from, eqb-true, eq-eqb, false≢true}
use Rattle.std.proofs.lemmas.Slice.Eq.{bytes_eq-Decides}
use Rattle.desk_base.specs.Names.{Text}
use Rattle.desk_base.specs.declared.kinds.Tag.{Tag}
use Rattle.desk_base.specs.declared.kinds.Role.{Role}
use Rattle.desk_base.specs.declared.kinds.Role.TheVariants as roles
use Rattle.desk_format.specs.Trees.{Tree}
use Rattle.desk_format.specs.Values.{Value, none, text, text_as, number, class_named, string_of, named_typed, member, handle, method_typed, computed, module_called, package_called}
use Rattle.desk_compare.specs.Free.{FreeInstruction, Leaf, FreeClass}
use Rattle.desk_compare.specs.Deciding.{equal_tags, equal_roles, equal_values, equal_instructions, equal_leaves, equal_trees, equal_classes, same_free}
use Rattle.desk_compare.proofs.SameValues.{same_tag}

-- ---- tests

-- A test decides whether two things are the same, where it tells no others the same and each the same as itself.
decides_by : {A : Type 0} (E : A → A → Bool) → ((a b : A) → E a b ≡ true → a ≡ b) → ((a : A) → E a a ≡ true) → (a b : A) → Decides (E a b) (a ≡ b)
decides_by E exact itself a b = (exact a b, λ e. subst (λ x. E a x ≡ true) e (itself a))

-- where a test decides it, so it does where there may be none
option_decides : {A : Type 0} {E : A → A → Bool} → ((a b : A) → Decides (E a b) (a ≡ b)) → (a b : Option A) → Decides (option_eq E a b) (a ≡ b)
option_decides d None None = (λ h. refl, λ e. refl)
option_decides d None (Some b) = (λ h. absurd (false≢true h), λ e. absurd cc)
option_decides d (Some a) None = (λ h. absurd (false≢true h), λ e. absurd cc)
option_decides d (Some a) (Some b) = (λ h. ap Some ((d a b).0 h), λ e. (d a b).1 cc)

bytes_exact : (s t : Text) → bytes_eq s t ≡ true → s ≡ t
bytes_exact s t h = (bytes_eq-Decides s t).0 h

bytes_itself : (s : Text) → bytes_eq s s ≡ true
bytes_itself s = (bytes_eq-Decides s s).1 refl

number_itself : (n : ℕ) → nat_eq n n ≡ true
number_itself n = eq-eqb n n refl

-- ---- tags and roles

tags_exact : (a b : Tag) → equal_tags a b ≡ true → a ≡ b
tags_exact a b h = let e : Some a ≡ Some b = same_tag (Some a) (Some b) (eqb-true _ _ h) in cc

tags_itself : (a : Tag) → equal_tags a a ≡ true
tags_itself a = eq-eqb _ _ refl

roles_exact : (a b : Role) → equal_roles a b ≡ true → a ≡ b
roles_exact roles.Class roles.Class h = refl
roles_exact roles.Package roles.Package h = refl
roles_exact roles.Module roles.Module h = refl
roles_exact roles.Descriptor roles.Descriptor h = refl
roles_exact roles.ClassSig roles.ClassSig h = refl
roles_exact roles.MethodSig roles.MethodSig h = refl
roles_exact roles.FieldSig roles.FieldSig h = refl
roles_exact roles.Str roles.Str h = refl
roles_exact roles.Plain roles.Plain h = refl
roles_exact roles.AttrName roles.AttrName h = refl
roles_exact _ _ h = absurd (false≢true h)

roles_itself : (a : Role) → equal_roles a a ≡ true
roles_itself roles.Class = refl
roles_itself _ = refl

-- ---- values

values_exact : (a b : Value) → equal_values a b ≡ true → a ≡ b
values_exact none none h = refl
values_exact (text s) (text t) h = ap text (bytes_exact s t h)
values_exact (text_as r s) (text_as q t) h = let x = and_parts _ _ h in ap₂ text_as (roles_exact r q x.0) (bytes_exact s t x.1)
values_exact (number a s) (number b t) h = let x = and_parts _ _ h in ap₂ number (tags_exact a b x.0) (bytes_exact s t x.1)
values_exact (class_named s) (class_named t) h = ap class_named (bytes_exact s t h)
values_exact (string_of s) (string_of t) h = ap string_of (bytes_exact s t h)
values_exact (named_typed n d) (named_typed m e) h = let x = and_parts _ _ h in ap₂ named_typed (bytes_exact n m x.0) (bytes_exact d e x.1)
values_exact (member a c n) (member b d m) h =
    let x = and_parts _ _ h in
    let y = and_parts (equal_values c d) (equal_values n m) x.1 in
    let tag = tags_exact a b x.0 in
    let first = values_exact c d y.0 in
    let second = values_exact n m y.1 in
    λ i. member (tag i) (first i) (second i)
values_exact (handle k v) (handle l w) h = let x = and_parts _ _ h in ap₂ handle (eqb-true k l x.0) (values_exact v w x.1)
values_exact (method_typed s) (method_typed t) h = ap method_typed (bytes_exact s t h)
values_exact (computed a n v) (computed b m w) h =
    let x = and_parts _ _ h in
    let y = and_parts (nat_eq n m) (equal_values v w) x.1 in
    let tag = tags_exact a b x.0 in
    let at = eqb-true n m y.0 in
    let first = values_exact v w y.1 in
    λ i. computed (tag i) (at i) (first i)
values_exact (module_called s) (module_called t) h = ap module_called (bytes_exact s t h)
values_exact (package_called s) (package_called t) h = ap package_called (bytes_exact s t h)
values_exact _ _ h = absurd (false≢true h)

values_itself : (a : Value) → equal_values a a ≡ true
values_itself none = refl
values_itself (text s) = bytes_itself s
values_itself (text_as r s) = and_from _ _ (roles_itself r) (bytes_itself s)
values_itself (number tag s) = and_from _ _ (tags_itself tag) (bytes_itself s)
values_itself (class_named s) = bytes_itself s
values_itself (string_of s) = bytes_itself s
values_itself (named_typed n d) = and_from _ _ (bytes_itself n) (bytes_itself d)
values_itself (member tag c n) = and_from _ _ (tags_itself tag) (and_from _ _ (values_itself c) (values_itself n))
values_itself (handle k v) = and_from _ _ (number_itself k) (values_itself v)
values_itself (method_typed s) = bytes_itself s
values_itself (computed tag n v) = and_from _ _ (tags_itself tag) (and_from _ _ (number_itself n) (values_itself v))
values_itself (module_called s) = bytes_itself s
values_itself (package_called s) = bytes_itself s

values_Decides : (a b : Value) → Decides (equal_values a b) (a ≡ b)
values_Decides = decides_by equal_values values_exact values_itself

-- ---- instructions

instructions_exact : (i j : FreeInstruction) → equal_instructions i j ≡ true → i ≡ j
instructions_exact i j h =
    let a = and_parts _ _ h in
    let b = and_parts _ _ a.1 in
    let c = and_parts _ _ b.1 in
    let at = eqb-true i.at j.at a.0 in
    let opcode = eqb-true i.opcode j.opcode b.0 in
    let bytes = bytes_exact i.bytes j.bytes c.0 in
    let value = (option_decides values_Decides i.value j.value).0 c.1 in
    λ k. record { at = at k; opcode = opcode k; bytes = bytes k; value = value k }

instructions_itself : (i : FreeInstruction) → equal_instructions i i ≡ true
instructions_itself i =
    and_from _ _ (number_itself i.at)
    (and_from _ _ (number_itself i.opcode) (and_from _ _ (bytes_itself i.bytes) ((option_decides values_Decides i.value i.value).1 refl)))

code_Decides : (is js : List FreeInstruction) → Decides (pointwise equal_instructions is js) (is ≡ js)
code_Decides = pointwise_decides (decides_by equal_instructions instructions_exact instructions_itself)

-- ---- bodies

leaves_exact : (a b : Leaf) → equal_leaves a b ≡ true → a ≡ b
leaves_exact (Leaf.index_to v) (Leaf.index_to w) h = ap Leaf.index_to (values_exact v w h)
leaves_exact (Leaf.code_of is) (Leaf.code_of js) h = ap Leaf.code_of ((code_Decides is js).0 h)
leaves_exact _ _ h = absurd (false≢true h)

leaves_itself : (a : Leaf) → equal_leaves a a ≡ true
leaves_itself (Leaf.index_to v) = values_itself v
leaves_itself (Leaf.code_of is) = (code_Decides is is).1 refl

trees_exact : (a b : Tree Leaf) → equal_trees a b ≡ true → a ≡ b
trees_exact Tree.nothing Tree.nothing h = refl
trees_exact (Tree.number s) (Tree.number t) h = ap Tree.number (bytes_exact s t h)
trees_exact (Tree.raw s) (Tree.raw t) h = ap Tree.raw (bytes_exact s t h)
trees_exact (Tree.code s) (Tree.code t) h = ap Tree.code (bytes_exact s t h)
trees_exact (Tree.used u) (Tree.used v) h = ap Tree.used (leaves_exact u v h)
trees_exact (Tree.both a b) (Tree.both c d) h = let x = and_parts _ _ h in ap₂ Tree.both (trees_exact a c x.0) (trees_exact b d x.1)
trees_exact (Tree.member a) (Tree.member b) h = ap Tree.member (trees_exact a b h)
trees_exact _ _ h = absurd (false≢true h)

trees_itself : (a : Tree Leaf) → equal_trees a a ≡ true
trees_itself Tree.nothing = refl
trees_itself (Tree.number s) = bytes_itself s
trees_itself (Tree.raw s) = bytes_itself s
trees_itself (Tree.code s) = bytes_itself s
trees_itself (Tree.used u) = leaves_itself u
trees_itself (Tree.both a b) = and_from _ _ (trees_itself a) (trees_itself b)
trees_itself (Tree.member a) = trees_itself a

-- ---- classes

classes_exact : (c d : FreeClass) → equal_classes c d ≡ true → c ≡ d
classes_exact c d h =
    let a = and_parts _ _ h in
    let b = and_parts _ _ a.1 in
    let minor = eqb-true c.minor d.minor a.0 in
    let major = eqb-true c.major d.major b.0 in
    let body = trees_exact c.body d.body b.1 in
    λ i. record { minor = minor i; major = major i; body = body i }

classes_itself : (c : FreeClass) → equal_classes c c ≡ true
classes_itself c = and_from _ _ (number_itself c.minor) (and_from _ _ (number_itself c.major) (trees_itself c.body))

pub same_free-Decides : (a b : Option FreeClass) → Decides (same_free a b) (a ≡ b)
unfolding same_free
same_free-Decides a b = option_decides (decides_by equal_classes classes_exact classes_itself) a b
