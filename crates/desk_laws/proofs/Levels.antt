-- Indices followed three levels deep are followed to their end.
use Rattle.std.proofs.Common.{◌≡◌, ℕ, suc, Bool, true, false, Option, Some, None, option_map, refl, sym, ap, ap₂, ◌∙◌}
use Rattle.std.specs.List.{AllByRecursion}
use Rattle.desk_base.specs.Names.{Text}
use Rattle.desk_base.specs.declared.kinds.Tag.{Tag}
use Rattle.desk_base.specs.declared.kinds.Tag.TheVariants as tags
use Rattle.desk_base.specs.declared.referents.Form.{Form}
use Rattle.desk_base.specs.declared.referents.Form.TheVariants as forms
use Rattle.desk_base.specs.declared.referents.Choice.{Choice}
use Rattle.desk_base.specs.declared.referents.Choice.TheVariants as choices
use Rattle.desk_base.specs.declared.referents.Referent.{Referent}
use Rattle.desk_base.specs.declared.referents.Referent.TheVariants as referents
use Rattle.desk_base.specs.Entries.{Entry, class, string, fieldref, methodref, interface_methodref, name_and_type, method_handle, method_type, dynamic, invoke_dynamic, module_named, package_named, tag_of, Pool, entry_at, tag_at, text_at}
use Rattle.desk_base.specs.Referents.{fits, allows, Link, links, handled}
use Rattle.desk_format.specs.Values.{Value, value_in, value_within}
use Rattle.desk_format.specs.Values.{member, handle, computed}
use Rattle.desk_laws.specs.Sound.{EachLink, Links}
use Rattle.desk_laws.specs.Values.{FollowedValues}
use Rattle.desk_laws.proofs.Linked.{each_at}
use Rattle.desk_laws.proofs.Moved.{handled_all, is_class, IsTyped, is_typed, IsEntry, is_entry, names_fitting}

-- two ways to follow indices agree where an index leads to no text
abbrev pub Agree : (ℕ → Value) → (ℕ → Value) → Referent → ℕ → Type 0
Agree v v' (referents.Text role form) i = Unit {0}
Agree v v' _ i = v i ≡ v' i

module _ (v v' : ℕ → Value) (t : ℕ → Text) where
  abbrev LinkAgrees : Link → Type 0
  LinkAgrees l = Agree v v' l.referent l.index

  value_same : (e : Entry) → AllByRecursion LinkAgrees (links e) → value_in v t (Some e) ≡ value_in v' t (Some e)
  value_same (fieldref c d) h = ap₂ (member tags.Fieldref) h.0 h.1.0
  value_same (methodref c d) h = ap₂ (member tags.Methodref) h.0 h.1.0
  value_same (interface_methodref c d) h = ap₂ (member tags.InterfaceMethodref) h.0 h.1.0
  value_same (method_handle k i) h = ap (handle k) (handled_all (λ (u : Referent). Agree v v' u i → v i ≡ v' i) (λ x. x) (λ x. x) (λ x. x) (λ x. x) k h.0)
  value_same (dynamic n i) h = ap (computed tags.Dynamic n) h.0
  value_same (invoke_dynamic n i) h = ap (computed tags.InvokeDynamic n) h.0
  value_same _ h = refl

abbrev is_member : Tag → Bool
is_member tags.Fieldref = true
is_member tags.Methodref = true
is_member tags.InterfaceMethodref = true
is_member _ = false

-- entries of members alone
pub record Members (c : Choice) : Type 0 where
  pub all : (tag : Tag) → allows (referents.Entry c) tag ≡ true → is_member tag ≡ true

fields : Members (choices.Only tags.Fieldref)
fields = record { all = one }
  where
    one : (tag : Tag) → allows (referents.Entry (choices.Only tags.Fieldref)) tag ≡ true → is_member tag ≡ true
    one tags.Fieldref h = refl
    one _ h = absurd cc

methods : Members (choices.Only tags.Methodref)
methods = record { all = one }
  where
    one : (tag : Tag) → allows (referents.Entry (choices.Only tags.Methodref)) tag ≡ true → is_member tag ≡ true
    one tags.Methodref h = refl
    one _ h = absurd cc

interface_methods : Members (choices.Only tags.InterfaceMethodref)
interface_methods = record { all = one }
  where
    one : (tag : Tag) → allows (referents.Entry (choices.Only tags.InterfaceMethodref)) tag ≡ true → is_member tag ≡ true
    one tags.InterfaceMethodref h = refl
    one _ h = absurd cc

any_methods : Members choices.AnyMethod
any_methods = record { all = one }
  where
    one : (tag : Tag) → allows (referents.Entry choices.AnyMethod) tag ≡ true → is_member tag ≡ true
    one tags.Methodref h = refl
    one tags.InterfaceMethodref h = refl
    one _ h = absurd cc

module _ (pool : Pool) (linked : EachLink (Links pool) pool) where
  abbrev In : ℕ → Option Entry → Value
  In n o = value_in (value_within n pool) (text_at pool) o

  class_level : (form : Form) (n m i : ℕ) → fits (referents.Class form) (tag_at pool i) ≡ true → value_within (suc n) pool i ≡ value_within (suc m) pool i
  unfolding value_within
  class_level form n m i h = let p = is_class form (entry_at pool i) h in ap (In n) p.1 ∙ sym (ap (In m) p.1)

  typed_level : (form : Form) (n m i : ℕ) → fits (referents.NameAndType form) (tag_at pool i) ≡ true → value_within (suc n) pool i ≡ value_within (suc m) pool i
  unfolding value_within
  typed_level form n m i h = let p : IsTyped (entry_at pool i) = is_typed form (entry_at pool i) h in ap (In n) p.is ∙ sym (ap (In m) p.is)

  -- a class, and a name and type
  two_links : (n m c d : ℕ) (form : Form) → Links pool (record { behind = 1; referent = referents.Class forms.Any; index = c }) → Links pool (record { behind = 3; referent = referents.NameAndType form; index = d })
      → (value_within (suc n) pool c ≡ value_within (suc m) pool c) × (value_within (suc n) pool d ≡ value_within (suc m) pool d)
  two_links n m c d form a b = (class_level forms.Any n m c (names_fitting pool (referents.Class forms.Any) c a.names), typed_level form n m d (names_fitting pool (referents.NameAndType form) d b.names))

  member_same : (e : Entry) → is_member (tag_of e) ≡ true → AllByRecursion (Links pool) (links e) → (n m : ℕ) → In (suc n) (Some e) ≡ In (suc m) (Some e)
  member_same (fieldref c d) is h n m = let p = two_links n m c d forms.Field h.0 h.1.0 in ap₂ (member tags.Fieldref) p.0 p.1
  member_same (methodref c d) is h n m = let p = two_links n m c d forms.Method h.0 h.1.0 in ap₂ (member tags.Methodref) p.0 p.1
  member_same (interface_methodref c d) is h n m = let p = two_links n m c d forms.Method h.0 h.1.0 in ap₂ (member tags.InterfaceMethodref) p.0 p.1
  member_same _ is h n m = absurd cc

  member_level : (c : Choice) → Members c → (n m i : ℕ) → fits (referents.Entry c) (tag_at pool i) ≡ true → value_within (suc (suc n)) pool i ≡ value_within (suc (suc m)) pool i
  unfolding value_within
  member_level c all n m i h =
      let e : IsEntry (entry_at pool i) = is_entry (referents.Entry c) (entry_at pool i) h in
      let allowed : allows (referents.Entry c) (tag_of e.entry) ≡ true = sym (ap (λ (o : Option Entry). fits (referents.Entry c) (option_map tag_of o)) e.is) ∙ h in
      ap (In (suc n)) e.is
      ∙ member_same e.entry (all.all (tag_of e.entry) allowed) (each_at (Links pool) pool i e.entry linked e.is) n m
      ∙ sym (ap (In (suc m)) e.is)

  abbrev Agrees : ℕ → ℕ → Referent → ℕ → Type 0
  Agrees n m = Agree (value_within (suc (suc n)) pool) (value_within (suc (suc m)) pool)

  links_agree : (n m : ℕ) (e : Entry) → AllByRecursion (Links pool) (links e) → AllByRecursion (λ (l : Link). Agrees n m l.referent l.index) (links e)
  links_agree n m (class i) h = (tt, tt)
  links_agree n m (string i) h = (tt, tt)
  links_agree n m (fieldref c d) h = let p = two_links (suc n) (suc m) c d forms.Field h.0 h.1.0 in (p.0, (p.1, tt))
  links_agree n m (methodref c d) h = let p = two_links (suc n) (suc m) c d forms.Method h.0 h.1.0 in (p.0, (p.1, tt))
  links_agree n m (interface_methodref c d) h = let p = two_links (suc n) (suc m) c d forms.Method h.0 h.1.0 in (p.0, (p.1, tt))
  links_agree n m (name_and_type c d) h = (tt, (tt, tt))
  links_agree n m (method_handle k i) h = (
    handled_all (λ (u : Referent). fits u (tag_at pool i) ≡ true → Agrees n m u i) (member_level (choices.Only tags.Fieldref) fields n m i) (member_level (choices.Only tags.Methodref) methods n m i)
        (member_level (choices.Only tags.InterfaceMethodref) interface_methods n m i) (member_level choices.AnyMethod any_methods n m i) k (names_fitting pool (handled k) i h.0.names),
    tt,
  )
  links_agree n m (method_type d) h = (tt, tt)
  links_agree n m (dynamic c i) h = (typed_level forms.Field (suc n) (suc m) i (names_fitting pool (referents.NameAndType forms.Field) i h.0.names), tt)
  links_agree n m (invoke_dynamic c i) h = (typed_level forms.Method (suc n) (suc m) i (names_fitting pool (referents.NameAndType forms.Method) i h.0.names), tt)
  links_agree n m (module_named i) h = (tt, tt)
  links_agree n m (package_named i) h = (tt, tt)
  links_agree n m _ h = tt

  entry_level : (n m i : ℕ) (o : Option Entry) → entry_at pool i ≡ o → In (suc (suc n)) o ≡ In (suc (suc m)) o
  entry_level n m i None is = refl
  entry_level n m i (Some e) is =
      value_same (value_within (suc (suc n)) pool) (value_within (suc (suc m)) pool) (text_at pool) e (links_agree n m e (each_at (Links pool) pool i e linked is))

  all_levels : (n m i : ℕ) → value_within (suc (suc (suc n))) pool i ≡ value_within (suc (suc (suc m))) pool i
  unfolding value_within
  all_levels n m i = entry_level n m i (entry_at pool i) refl

pub followed_values : FollowedValues
followed_values pool w n i = all_levels pool w.linked n 0 i
