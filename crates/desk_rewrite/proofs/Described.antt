-- The descriptor of each member is a use of the class.
use Rattle.std.proofs.Common.{◌≡◌, ℕ, List, [], ◌∷◌, ◌++◌, refl, subst, inl, inr}
use Rattle.std.specs.List.{AllByRecursion}
use Rattle.std.proofs.lemmas.List.Elements.{All-head, All-tail, All-from_recursion}
use Rattle.desk_base.specs.Entries.{Pool}
use Rattle.desk_base.specs.declared.kinds.Role.{Role}
use Rattle.desk_base.specs.declared.kinds.Role.TheVariants as roles
use Rattle.desk_base.specs.declared.kinds.Used.{Used}
use Rattle.desk_base.specs.declared.kinds.UseKind.{UseKind}
use Rattle.desk_base.specs.declared.kinds.UseKind.TheVariants as kinds
use Rattle.desk_format.specs.declared.members.Member.{Member}
use Rattle.desk_format.specs.Classes.{Class, class_uses, entries_at}
use Rattle.desk_format.specs.Members.{member_by, member_in, members}
use Rattle.desk_format.specs.PoolBytes.{pool_uses}
use Rattle.desk_format.specs.Resolved.{Images}
use Rattle.desk_format.specs.Trees.{Tree, Use, text_use, uses_of, uses}
use Rattle.desk_laws.proofs.Bodies.{all_append}
use Rattle.desk_laws.proofs.Linked.{HasUse, has_left, has_right}
use Rattle.desk_rewrite.specs.Tables.{Table, Finds, HasImages, HasDescriptors}

-- The descriptor of a member is among uses.
abbrev pub Described : List Used → Member → Type 0
Described us m = HasUse us roles.Descriptor m.descriptor

kind_described : (k l : UseKind) (name descriptor : Use) (flags named rest more : List Used) → descriptor.kind ≡ l
    → AllByRecursion (Described ((flags ++ (named ++ (uses_of (text_use descriptor) ++ rest))) ++ more)) (member_by k l name descriptor)
kind_described kinds.Plain kinds.FieldDescriptor name descriptor flags named rest more e = (
  has_left (flags ++ (named ++ (uses_of (text_use descriptor) ++ rest))) more roles.Descriptor descriptor.index
      (has_right flags (named ++ (uses_of (text_use descriptor) ++ rest)) roles.Descriptor descriptor.index
      (has_right named (uses_of (text_use descriptor) ++ rest) roles.Descriptor descriptor.index
      (has_left (uses_of (text_use descriptor)) rest roles.Descriptor descriptor.index (field_use descriptor.at descriptor.index descriptor.kind e)))),
  tt,
)
  where
    field_use : (at i : ℕ) (k : UseKind) → k ≡ kinds.FieldDescriptor → HasUse (uses_of (text_use (record { at = at; kind = k; index = i }))) roles.Descriptor i
    field_use at i kinds.FieldDescriptor e = inl (refl, refl)
    field_use at i _ e = absurd cc
kind_described kinds.Plain kinds.MethodDescriptor name descriptor flags named rest more e = (
  has_left (flags ++ (named ++ (uses_of (text_use descriptor) ++ rest))) more roles.Descriptor descriptor.index
      (has_right flags (named ++ (uses_of (text_use descriptor) ++ rest)) roles.Descriptor descriptor.index
      (has_right named (uses_of (text_use descriptor) ++ rest) roles.Descriptor descriptor.index
      (has_left (uses_of (text_use descriptor)) rest roles.Descriptor descriptor.index (method_use descriptor.at descriptor.index descriptor.kind e)))),
  tt,
)
  where
    method_use : (at i : ℕ) (k : UseKind) → k ≡ kinds.MethodDescriptor → HasUse (uses_of (text_use (record { at = at; kind = k; index = i }))) roles.Descriptor i
    method_use at i kinds.MethodDescriptor e = inl (refl, refl)
    method_use at i _ e = absurd cc
kind_described _ _ name descriptor flags named rest more e = tt

member_described : (a : Tree Use) → AllByRecursion (Described (uses a)) (member_in a)
member_described (Tree.both (Tree.both flags (Tree.both (Tree.used name) (Tree.both (Tree.used descriptor) rest))) attributes) =
    kind_described name.kind descriptor.kind name descriptor (uses flags) (uses_of (text_use name)) (uses rest) (uses attributes) refl
member_described _ = tt

each_weaker : (us vs : List Used) (ms : List Member) → ((m : Member) → Described us m → Described vs m) → AllByRecursion (Described us) ms → AllByRecursion (Described vs) ms
each_weaker us vs [] f h = tt
each_weaker us vs (m ∷ ms) f h = (f m h.0, each_weaker us vs ms f h.1)

tree_described : (t : Tree Use) → AllByRecursion (Described (uses t)) (members t)
tree_described Tree.nothing = tt
tree_described (Tree.number bytes) = tt
tree_described (Tree.raw bytes) = tt
tree_described (Tree.code bytes) = tt
tree_described (Tree.used u) = tt
tree_described (Tree.both a b) =
    all_append (Described (uses a ++ uses b)) (members a) (members b)
    (each_weaker (uses a) (uses a ++ uses b) (members a) (λ m h. has_left (uses a) (uses b) roles.Descriptor m.descriptor h) (tree_described a))
    (each_weaker (uses b) (uses a ++ uses b) (members b) (λ m h. has_right (uses a) (uses b) roles.Descriptor m.descriptor h) (tree_described b))
tree_described (Tree.member a) = member_described a

pub class_described : (c : Class) → AllByRecursion (Described (class_uses c)) (members c.body)
class_described c = each_weaker (uses c.body) (class_uses c) (members c.body) (λ m h. has_right (pool_uses entries_at c.pool) (uses c.body) roles.Descriptor m.descriptor h) (tree_described c.body)

-- what is found for a use, by its role and its index alone
finds_used : (im : Images) (pool : Pool) (table : Table) (us : List Used) (role : Role) (i : ℕ) → HasImages im pool us table → HasUse us role i → Finds im pool table role i
finds_used im pool table [] role i all h = absurd h
finds_used im pool table (u ∷ us) role i all (inl e) =
    let here : Finds im pool table u.role u.index = All-head (λ (v : Used). Finds im pool table v.role v.index) u us all in
    subst (λ (r : Role). Finds im pool table r i) (e.0) (subst (λ (n : ℕ). Finds im pool table u.role n) (e.1) here)
finds_used im pool table (u ∷ us) role i all (inr h) = finds_used im pool table us role i (All-tail (λ (v : Used). Finds im pool table v.role v.index) u us all) h

finds_each : (im : Images) (pool : Pool) (table : Table) (us : List Used) (ms : List Member) → HasImages im pool us table → AllByRecursion (Described us) ms → AllByRecursion (λ (m : Member). Finds im pool table roles.Descriptor m.descriptor) ms
finds_each im pool table us [] all h = tt
finds_each im pool table us (m ∷ ms) all h = (finds_used im pool table us roles.Descriptor m.descriptor all (h.0), finds_each im pool table us ms all (h.1))

pub has_descriptors : (im : Images) (table : Table) (c : Class) → HasImages im c.pool (class_uses c) table → HasDescriptors im c.pool table (members c.body)
has_descriptors im table c all =
    All-from_recursion (λ (m : Member). Finds im c.pool table roles.Descriptor m.descriptor) (members c.body) (finds_each im c.pool table (class_uses c) (members c.body) all (class_described c))
