-- The indices of a body as a list, and the uses of texts among them.
use Rattle.std.proofs.Common.{◌≡◌, ℕ, Bool, true, false, cond, ◌&&◌, List, [], ◌∷◌, ◌++◌, Option, None, nat_eq, refl, ap, ap₂, sym, ◌∙◌, append_assoc, append-nil}
use Rattle.std.specs.List.{AllByRecursion}
use Rattle.desk_base.specs.declared.kinds.Used.{Used}
use Rattle.desk_base.specs.declared.referents.Referent.{Referent}
use Rattle.desk_base.specs.declared.referents.Referent.TheVariants as referents
use Rattle.desk_base.specs.Referents.{referent_of, may_be_none}
use Rattle.desk_format.specs.Trees.{Tree, Use, Each, text_in_role, text_use, uses_of, uses}
use Rattle.desk_format.specs.Exchange.{index_or, new_index}
use Rattle.desk_format.specs.NewPool.{Choice}

-- an index that must name a text, as a list of uses
abbrev pub uses_as : Referent → ℕ → ℕ → List Used
uses_as t at i = uses_of (text_in_role t at i)

-- the index of a referent with that of a text exchanged
abbrev pub reindexed : Choice → Referent → ℕ → ℕ
reindexed g (referents.Text role form) i = g role i
reindexed g _ i = i

abbrev pub indices : {U : Type 0} → Tree U → List U
indices Tree.nothing = []
indices (Tree.number bytes) = []
indices (Tree.raw bytes) = []
indices (Tree.code bytes) = []
indices (Tree.used u) = u ∷ []
indices (Tree.both a b) = indices a ++ indices b
indices (Tree.member a) = indices a

abbrev pub text_uses : List Use → List Used
text_uses [] = []
text_uses (u ∷ us) = uses_of (text_use u) ++ text_uses us

text_uses-append : (us vs : List Use) → text_uses (us ++ vs) ≡ text_uses us ++ text_uses vs
text_uses-append [] vs = refl
text_uses-append (u ∷ us) vs = ap (λ (ws : List Used). uses_of (text_use u) ++ ws) (text_uses-append us vs) ∙ sym (append_assoc (uses_of (text_use u)) (text_uses us) (text_uses vs))

pub uses-indices : (t : Tree Use) → uses t ≡ text_uses (indices t)
uses-indices Tree.nothing = refl
uses-indices (Tree.number bytes) = refl
uses-indices (Tree.raw bytes) = refl
uses-indices (Tree.code bytes) = refl
uses-indices (Tree.used u) = sym (append-nil (uses_of (text_use u)))
uses-indices (Tree.both a b) = ap₂ (λ (us vs : List Used). us ++ vs) (uses-indices a) (uses-indices b) ∙ sym (text_uses-append (indices a) (indices b))
uses-indices (Tree.member a) = uses-indices a

-- from a fact of each index in the list to one in the tree, and back
both_halves : {U : Type 0} (P : U → Type 0) (xs ys : List U) → AllByRecursion P (xs ++ ys) → AllByRecursion P xs × AllByRecursion P ys
both_halves P [] ys h = (tt, h)
both_halves P (x ∷ xs) ys h = let t = both_halves P xs ys h.1 in ((h.0, t.0), t.1)

pub each_index : {U : Type 0} (P : U → Type 0) (t : Tree U) → AllByRecursion P (indices t) → Each P t
each_index P Tree.nothing h = tt
each_index P (Tree.number bytes) h = tt
each_index P (Tree.raw bytes) h = tt
each_index P (Tree.code bytes) h = tt
each_index P (Tree.used u) h = h.0
each_index P (Tree.both a b) h = let t = both_halves P (indices a) (indices b) h in (each_index P a t.0, each_index P b t.1)
each_index P (Tree.member a) h = each_index P a h

both_parts : {U : Type 0} (P : U → Type 0) (xs ys : List U) → AllByRecursion P xs → AllByRecursion P ys → AllByRecursion P (xs ++ ys)
both_parts P [] ys h k = k
both_parts P (x ∷ xs) ys h k = (h.0, both_parts P xs ys h.1 k)

pub all_indices : {U : Type 0} (P : U → Type 0) (t : Tree U) → Each P t → AllByRecursion P (indices t)
all_indices P Tree.nothing h = tt
all_indices P (Tree.number bytes) h = tt
all_indices P (Tree.raw bytes) h = tt
all_indices P (Tree.code bytes) h = tt
all_indices P (Tree.used u) h = (h, tt)
all_indices P (Tree.both a b) h = both_parts P (indices a) (indices b) (all_indices P a h.0) (all_indices P b h.1)
all_indices P (Tree.member a) h = all_indices P a h

-- the new index of a use, by its referent
in_role_index : (g : Choice) (t : Referent) (at i : ℕ) → index_or (λ (v : Used). g v.role v.index) i (text_in_role t at i) ≡ reindexed g t i
in_role_index g (referents.Text role form) at i = refl
in_role_index g (referents.Class form) at i = refl
in_role_index g (referents.NameAndType form) at i = refl
in_role_index g (referents.Entry entries) at i = refl

unless_none : (g : Choice) (i j : ℕ) (x : Bool) (o : Option Used) → index_or (λ (v : Used). g v.role v.index) i o ≡ j → index_or (λ (v : Used). g v.role v.index) i (cond x None o) ≡ cond x i j
unless_none g i j true o h = refl
unless_none g i j false o h = h

abbrev pub by_choice : Choice → Used → ℕ
by_choice g v = g v.role v.index

pub new_index-is : (g : Choice) (u : Use) → new_index (by_choice g) u ≡ cond (may_be_none u.kind && nat_eq u.index 0) u.index (reindexed g (referent_of u.kind) u.index)
new_index-is g u = unless_none g u.index (reindexed g (referent_of u.kind) u.index) (may_be_none u.kind && nat_eq u.index 0) (text_in_role (referent_of u.kind) u.at u.index) (in_role_index g (referent_of u.kind) u.at u.index)
