-- Members before and after, and twins among them.
use Rattle.std.proofs.Common.{sym, ◌≡◌, Bool, true, false, cond, List, [], ◌∷◌, ◌++◌, Option, Some, None, find, refl, ap, ap₂, subst, ◌∙◌}
use Rattle.desk_base.specs.Names.{Text}
use Rattle.desk_base.specs.declared.kinds.Role.TheVariants as roles
use Rattle.desk_base.specs.declared.kinds.UseKind.{UseKind}
use Rattle.desk_base.specs.declared.kinds.UseKind.TheVariants as kinds
use Rattle.desk_base.specs.Entries.{Pool, text_at}
use Rattle.desk_format.specs.declared.members.Member.{Member}
use Rattle.desk_format.specs.Trees.{Tree, Use, Each}
use Rattle.desk_format.specs.Exchange.{Change, exchanged, exchange, new_index}
use Rattle.desk_format.specs.Values.{value_of_kind}
use Rattle.desk_format.specs.Resolved.{Images, value, renamed_value}
use Rattle.desk_format.specs.Members.{Named, Twins, named_in, are_twins, twins_or, twins_behind, first_twins, member_of, member_by, member_in, members}
use Rattle.desk_format.specs.NewClass.{renamed_in}
use Rattle.desk_laws.specs.Classes.{IsSettled}

-- two members of the same kind, name and descriptor
pub record Same (named named' : Member → Named) (a b : Member) : Type 0 where
  pub method : b.method ≡ a.method
  pub texts : named' b ≡ named a

-- members in the same order
abbrev pub Alike : (Member → Named) → (Member → Named) → List Member → List Member → Type 0
Alike named named' [] [] = Unit {0}
Alike named named' [] (b ∷ bs) = ⊥
Alike named named' (a ∷ as') [] = ⊥
Alike named named' (a ∷ as') (b ∷ bs) = Same named named' a b × Alike named named' as' bs

module _ (named named' : Member → Named) where
  alike-append : (as' bs cs ds : List Member) → Alike named named' as' bs → Alike named named' cs ds → Alike named named' (as' ++ cs) (bs ++ ds)
  alike-append [] [] cs ds h k = k
  alike-append [] (b ∷ bs) cs ds h k = absurd h
  alike-append (a ∷ as') [] cs ds h k = absurd h
  alike-append (a ∷ as') (b ∷ bs) cs ds h k = (h.0, alike-append as' bs cs ds h.1 k)

  twins_alike : (a b x y : Member) → Same named named' a b → Same named named' x y → are_twins named' b y ≡ are_twins named a x
  twins_alike a b x y h k = rw (h.texts, k.texts, h.method, k.method) refl

  found_none : (x : Bool) (a : Member) (o : Option Member) → cond x (Some a) o ≡ None → (x ≡ false) × (o ≡ None)
  found_none true a o h = absurd cc
  found_none false a o h = (refl, h)

  find_alike : (as' bs : List Member) (x y : Member) → Alike named named' as' bs → Same named named' x y → find (λ a. are_twins named a x) as' ≡ None → find (λ b. are_twins named' b y) bs ≡ None
  find_alike [] [] x y h k e = refl
  find_alike [] (b ∷ bs) x y h k e = absurd h
  find_alike (a ∷ as') [] x y h k e = absurd h
  find_alike (a ∷ as') (b ∷ bs) x y h k e =
      let f = found_none (are_twins named a x) a (find (λ c. are_twins named c x) as') e in
      rw (twins_alike a b x y h.0 k, f.0) (find_alike as' bs x y h.1 k f.1)

  or_none : (o : Option Member) (m : Member) (later : Option Twins) → twins_or o m later ≡ None → (o ≡ None) × (later ≡ None)
  or_none None m later h = (refl, h)
  or_none (Some a) m later h = absurd cc

  behind_alike : (as' bs xs ys : List Member) → Alike named named' as' bs → Alike named named' xs ys → twins_behind named as' xs ≡ None → twins_behind named' bs ys ≡ None
  behind_alike as' bs [] [] h k e = refl
  behind_alike as' bs [] (y ∷ ys) h k e = absurd k
  behind_alike as' bs (x ∷ xs) [] h k e = absurd k
  behind_alike as' bs (x ∷ xs) (y ∷ ys) h k e =
      let o = or_none (find (λ a. are_twins named a x) as') x (twins_behind named (as' ++ x ∷ []) xs) e in
      rw (find_alike as' bs x y h k.0 o.0) (behind_alike (as' ++ x ∷ []) (bs ++ y ∷ []) xs ys (alike-append as' bs (x ∷ []) (y ∷ []) h (k.0, tt)) k.1 o.1)

  -- where the one members have no twins, the others have none
  pub no_twins : (xs ys : List Member) → Alike named named' xs ys → first_twins named xs ≡ None → first_twins named' ys ≡ None
  no_twins xs ys k e = behind_alike [] [] xs ys tt k e

pub alike_back : (named named' : Member → Named) (xs ys : List Member) → Alike named named' xs ys → Alike named' named ys xs
alike_back named named' [] [] h = tt
alike_back named named' [] (y ∷ ys) h = absurd h
alike_back named named' (x ∷ xs) [] h = absurd h
alike_back named named' (x ∷ xs) (y ∷ ys) h = (record { method = sym h.0.method; texts = sym h.0.texts }, alike_back named named' xs ys h.1)

-- ---- the members of a tree with its indices exchanged

-- what the index of a name or a descriptor leads to, after
pub record Leads (im : Images) (old new : Pool) (g : Change) (u : Use) : Type 0 where
  pub leads : value new (exchanged g u) ≡ renamed_value im (value old u)

name_leads : (im : Images) (old new : Pool) (g : Change) (u : Use) → u.kind ≡ kinds.Plain → Leads im old new g u → text_at new (new_index g.index u) ≡ text_at old u.index
name_leads im old new g u p h =
    let e : value_of_kind new kinds.Plain (new_index g.index u) ≡ renamed_value im (value_of_kind old kinds.Plain u.index)
    = subst (λ (k : UseKind). value_of_kind new k (new_index g.index u) ≡ renamed_value im (value_of_kind old k u.index)) p h.leads in
    cc

field_leads : (im : Images) (old new : Pool) (g : Change) (u : Use) → u.kind ≡ kinds.FieldDescriptor → Leads im old new g u → text_at new (new_index g.index u) ≡ im.desc (text_at old u.index)
field_leads im old new g u p h =
    let e : value_of_kind new kinds.FieldDescriptor (new_index g.index u) ≡ renamed_value im (value_of_kind old kinds.FieldDescriptor u.index)
    = subst (λ (k : UseKind). value_of_kind new k (new_index g.index u) ≡ renamed_value im (value_of_kind old k u.index)) p h.leads in
    cc

method_leads : (im : Images) (old new : Pool) (g : Change) (u : Use) → u.kind ≡ kinds.MethodDescriptor → Leads im old new g u → text_at new (new_index g.index u) ≡ im.desc (text_at old u.index)
method_leads im old new g u p h =
    let e : value_of_kind new kinds.MethodDescriptor (new_index g.index u) ≡ renamed_value im (value_of_kind old kinds.MethodDescriptor u.index)
    = subst (λ (k : UseKind). value_of_kind new k (new_index g.index u) ≡ renamed_value im (value_of_kind old k u.index)) p h.leads in
    cc

-- a naming of members that goes by their two texts
pub record Naming (im : Images) (old new : Pool) (named named' : Member → Named) : Type 0 where
  pub same : (a b : Member) → text_at new b.name ≡ text_at old a.name → text_at new b.descriptor ≡ im.desc (text_at old a.descriptor) → named' b ≡ named a

module _ (im : Images) (old new : Pool) (g : Change) (named named' : Member → Named) (naming : Naming im old new named named') where
  one_alike : (method : Bool) (name descriptor : Use) → text_at new (new_index g.index name) ≡ text_at old name.index → text_at new (new_index g.index descriptor) ≡ im.desc (text_at old descriptor.index)
      → Alike named named' (member_of method name descriptor ∷ []) (member_of method (exchanged g name) (exchanged g descriptor) ∷ [])
  one_alike method name descriptor p q = (record { method = refl; texts = naming.same (member_of method name descriptor) (member_of method (exchanged g name) (exchanged g descriptor)) p q }, tt)

  by_kinds : (a b : UseKind) (name descriptor : Use) → name.kind ≡ a → descriptor.kind ≡ b → Leads im old new g name → Leads im old new g descriptor
      → Alike named named' (member_by a b name descriptor) (member_by a b (exchanged g name) (exchanged g descriptor))
  by_kinds kinds.Plain kinds.FieldDescriptor name descriptor p q h k = one_alike false name descriptor (name_leads im old new g name p h) (field_leads im old new g descriptor q k)
  by_kinds kinds.Plain kinds.MethodDescriptor name descriptor p q h k = one_alike true name descriptor (name_leads im old new g name p h) (method_leads im old new g descriptor q k)
  by_kinds kinds.Plain _ name descriptor p q h k = tt
  by_kinds _ b name descriptor p q h k = tt

  member_alike : (t : Tree Use) → Each (Leads im old new g) t → Alike named named' (member_in t) (member_in (exchange g t))
  member_alike (Tree.both (Tree.both flags (Tree.both (Tree.used name) (Tree.both (Tree.used descriptor) rest))) attributes) h =
      by_kinds name.kind descriptor.kind name descriptor refl refl h.0.1.0 h.0.1.1.0
  member_alike _ h = tt

  pub members_alike : (t : Tree Use) → Each (Leads im old new g) t → Alike named named' (members t) (members (exchange g t))
  members_alike Tree.nothing h = tt
  members_alike (Tree.number bytes) h = tt
  members_alike (Tree.raw bytes) h = tt
  members_alike (Tree.code bytes) h = tt
  members_alike (Tree.used u) h = tt
  members_alike (Tree.both a b) h = alike-append named named' (members a) (members (exchange g a)) (members b) (members (exchange g b)) (members_alike a h.0) (members_alike b h.1)
  members_alike (Tree.member t) h = member_alike t h

abbrev named_by : Text → Text → Named
named_by name descriptor = record { name = name; descriptor = descriptor }

-- the new class's own texts are the renamed ones of the old
pub new_naming : (im : Images) (old new : Pool) → Naming im old new (renamed_in im old) (named_in new)
new_naming im old new = record { same = λ a b p q. ap₂ named_by p q }

-- and so are their images
pub again_naming : (im : Images) (old new : Pool) → IsSettled im → Naming im old new (renamed_in im old) (renamed_in im new)
again_naming im old new s = record { same = λ a b p q. ap₂ named_by p (ap im.desc q ∙ s.again roles.Descriptor (text_at old a.descriptor)) }
