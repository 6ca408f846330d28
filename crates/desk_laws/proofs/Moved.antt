-- An index that fits the old pool fits the new one, with its text renamed.
use Rattle.std.proofs.Common.{◌≡◌, ℕ, Bool, true, false, cond, ◌||◌, List, Option, Some, None, option_map, nat_lt, nat_eq, refl, ap, sym, ◌∙◌}
use Rattle.std.specs.List.{AllByRecursion}
use Rattle.desk_base.specs.declared.kinds.Role.{Role}
use Rattle.desk_base.specs.declared.kinds.Role.TheVariants as roles
use Rattle.desk_base.specs.declared.kinds.Tag.{Tag}
use Rattle.desk_base.specs.declared.kinds.Tag.TheVariants as tags
use Rattle.desk_base.specs.declared.kinds.Used.{Used}
use Rattle.desk_base.specs.declared.faults.FaultKind.{FaultKind}
use Rattle.desk_base.specs.declared.faults.FaultKind.TheVariants as faults
use Rattle.desk_base.specs.declared.referents.Form.{Form}
use Rattle.desk_base.specs.declared.referents.Form.TheVariants as forms
use Rattle.desk_base.specs.Referents.{has_form, goes_with}
use Rattle.desk_base.specs.Misfits.{form_fault}
use Rattle.desk_base.specs.Entries.{Entry, utf8, class, string, fieldref, methodref, interface_methodref, name_and_type, method_handle, method_type, dynamic, invoke_dynamic, module_named, package_named, tag_of}
use Rattle.desk_base.specs.Entries.{Pool, entry_at, tag_at, text_at, text_in, class_name_in, descriptor_in}
use Rattle.desk_base.specs.declared.referents.Referent.{Referent}
use Rattle.desk_base.specs.declared.referents.Referent.TheVariants as referents
use Rattle.desk_base.specs.declared.referents.Choice.TheVariants as choices
use Rattle.desk_base.specs.Referents.{form_of, text_led_to, allows, fits, Link, links, handled}
use Rattle.desk_base.specs.Misfits.{wrong_entry, wrong_text}
use Rattle.desk_laws.specs.Sound.{EachLink, Links}
use Rattle.desk_format.specs.Resolved.{Images, image}
use Rattle.desk_format.specs.NewPool.{choice, new_pool}
use Rattle.desk_laws.proofs.Indices.{reindexed}
use Rattle.desk_laws.specs.NewPools.{KeepsForms}
use Rattle.desk_laws.proofs.Slots.{in_range, entry_is, same_tag}
use Rattle.desk_laws.proofs.Linked.{HasUse, IsUsed, LinkUsed, each_at, Led, led}

-- the role of the text that an index leads to
abbrev pub role_of : Referent → Role
role_of (referents.Text role form) = role
role_of (referents.Class form) = roles.Class
role_of (referents.NameAndType form) = roles.Descriptor
role_of (referents.Entry entries) = roles.Plain

-- ---- facts of the table of links

handled_is : (P : Referent → Type 0) → P (referents.Entry (choices.Only tags.Fieldref)) → P (referents.Entry (choices.Only tags.Methodref)) → P (referents.Entry (choices.Only tags.InterfaceMethodref)) → P (referents.Entry choices.AnyMethod)
    → (x y z : Bool) → P (cond x (referents.Entry (choices.Only tags.Fieldref)) (cond y (referents.Entry (choices.Only tags.Methodref)) (cond z (referents.Entry (choices.Only tags.InterfaceMethodref)) (referents.Entry choices.AnyMethod))))
handled_is P a b c d true y z = a
handled_is P a b c d false true z = b
handled_is P a b c d false false true = c
handled_is P a b c d false false false = d

pub handled_all : (P : Referent → Type 0) → P (referents.Entry (choices.Only tags.Fieldref)) → P (referents.Entry (choices.Only tags.Methodref)) → P (referents.Entry (choices.Only tags.InterfaceMethodref)) → P (referents.Entry choices.AnyMethod) → (kind : ℕ) → P (handled kind)
handled_all P a b c d kind = handled_is P a b c d (nat_lt kind 5) (nat_eq kind 5 || nat_eq kind 8) (nat_eq kind 9)

abbrev pub Goes : Referent → Type 0
Goes t = goes_with (role_of t) (form_of t) ≡ true

-- An index of a text, or of another entry.
abbrev pub Other : Referent → Type 0
Other (referents.Text role form) = Unit {0}
Other t = allows t tags.Utf8 ≡ false

pub record Kept (t : Referent) : Type 0 where
  pub goes : Goes t
  pub other : Other t

abbrev pub LinkKept : Link → Type 0
LinkKept l = Kept l.referent

kept : {t : Referent} → Goes t → Other t → Kept t
kept g o = record { goes = g; other = o }

pub table : (e : Entry) → AllByRecursion LinkKept (links e)
table (method_handle k i) = (handled_all Kept (kept refl refl) (kept refl refl) (kept refl refl) (kept refl refl) k, tt)
table (class i) = (kept refl tt, tt)
table (string i) = (kept refl tt, tt)
table (fieldref c n) = (kept refl refl, (kept refl refl, tt))
table (methodref c n) = (kept refl refl, (kept refl refl, tt))
table (interface_methodref c n) = (kept refl refl, (kept refl refl, tt))
table (name_and_type n d) = (kept refl tt, (kept refl tt, tt))
table (method_type d) = (kept refl tt, tt)
table (dynamic n i) = (kept refl refl, tt)
table (invoke_dynamic n i) = (kept refl refl, tt)
table (module_named i) = (kept refl tt, tt)
table (package_named i) = (kept refl tt, tt)
table _ = tt

-- ---- what a tag says of an entry

-- the index of some text
abbrev pub any_text : Referent
any_text = referents.Text roles.Plain forms.Any

pub as_text : (role : Role) (form : Form) (o : Option Tag) → fits (referents.Text role form) o ≡ true → fits any_text o ≡ true
as_text role form None h = h
as_text role form (Some tag) h = h

pub is_utf8 : (o : Option Entry) → fits any_text (option_map tag_of o) ≡ true → (t : List ℕ) × (o ≡ Some (utf8 t))
is_utf8 (Some (utf8 t)) h = (t, refl)
is_utf8 (Some _) h = absurd cc
is_utf8 None h = absurd cc

pub is_class : (form : Form) (o : Option Entry) → fits (referents.Class form) (option_map tag_of o) ≡ true → (i : ℕ) × (o ≡ Some (class i))
is_class form (Some (class i)) h = (i, refl)
is_class form (Some _) h = absurd cc
is_class form None h = absurd cc

pub record IsTyped (o : Option Entry) : Type 0 where
  pub name : ℕ
  pub descriptor : ℕ
  pub is : o ≡ Some (name_and_type name descriptor)

pub is_typed : (form : Form) (o : Option Entry) → fits (referents.NameAndType form) (option_map tag_of o) ≡ true → IsTyped o
is_typed form (Some (name_and_type n d)) h = record { name = n; descriptor = d; is = refl }
is_typed form (Some _) h = absurd cc
is_typed form None h = absurd cc

pub record IsEntry (o : Option Entry) : Type 0 where
  pub entry : Entry
  pub is : o ≡ Some entry

pub is_entry : (t : Referent) (o : Option Entry) → fits t (option_map tag_of o) ≡ true → IsEntry o
is_entry t (Some e) h = record { entry = e; is = refl }
is_entry t None h = absurd cc

-- ---- tests and faults

fits_by : (x : Bool) (k : FaultKind) → cond x None (Some k) ≡ None → x ≡ true
fits_by true k h = refl
fits_by false k h = absurd cc

pub names_fitting : (pool : Pool) (t : Referent) (i : ℕ) → wrong_entry pool t i ≡ None → fits t (tag_at pool i) ≡ true
names_fitting pool t i h = fits_by (fits t (tag_at pool i)) faults.Index h

pub has_its_form : (pool : Pool) (t : Referent) (i : ℕ) → wrong_text pool t i ≡ None → has_form (form_of t) (text_led_to t pool i) ≡ true
has_its_form pool t i h = fits_by (has_form (form_of t) (text_led_to t pool i)) (form_fault (form_of t)) h

-- An index of a referent fits a pool.
pub record Fitting (pool : Pool) (t : Referent) (i : ℕ) : Type 0 where
  pub names : wrong_entry pool t i ≡ None
  pub leads : wrong_text pool t i ≡ None

module _ (im : Images) (old : Pool) (us : List Used) (linked : EachLink (Links old) old) (used : EachLink (LinkUsed us) old) where
  -- the choice for a text that fits
  pub led_text : (role : Role) (form : Form) (i : ℕ) → fits (referents.Text role form) (tag_at old i) ≡ true → HasUse us role i → Led im old us role i
  led_text role form i h u = let p = is_utf8 (entry_at old i) (as_text role form (tag_at old i) h) in led im old us role i p.0 u p.1

  image_led : (role : Role) (i : ℕ) → Led im old us role i → text_at (new_pool im old us) (choice im old us role i) ≡ image im role (text_at old i)
  image_led role i l = ap text_in l.names

  -- the new text that an index leads to
  pub leads_to : (t : Referent) (i : ℕ) → fits t (tag_at old i) ≡ true → IsUsed us t i → text_led_to t (new_pool im old us) (reindexed (choice im old us) t i) ≡ image im (role_of t) (text_led_to t old i)
  leads_to (referents.Text role form) i h u = image_led role i (led_text role form i h u)
  leads_to (referents.Class form) i h u =
      let p = is_class form (entry_at old i) h in
      let l : AllByRecursion (Links old) (links (class p.0)) = each_at (Links old) old i (class p.0) linked p.1 in
      let v : AllByRecursion (LinkUsed us) (links (class p.0)) = each_at (LinkUsed us) old i (class p.0) used p.1 in
      let there : Led im old us roles.Class p.0 = led_text roles.Class forms.Any p.0 (names_fitting old (referents.Text roles.Class forms.Any) p.0 l.0.names) v.0 in
      ap (class_name_in (new_pool im old us)) (entry_is im old us i (class p.0) p.1)
      ∙ image_led roles.Class p.0 there
      ∙ ap im.cls (sym (ap (class_name_in old) p.1))
  leads_to (referents.NameAndType form) i h u =
      let p = is_typed form (entry_at old i) h in
      let e : Entry = name_and_type p.name p.descriptor in
      let l : AllByRecursion (Links old) (links (name_and_type p.name p.descriptor)) = each_at (Links old) old i (name_and_type p.name p.descriptor) linked p.is in
      let v : AllByRecursion (LinkUsed us) (links (name_and_type p.name p.descriptor)) = each_at (LinkUsed us) old i (name_and_type p.name p.descriptor) used p.is in
      let there : Led im old us roles.Descriptor p.descriptor = led_text roles.Descriptor forms.Any p.descriptor (names_fitting old (referents.Text roles.Descriptor forms.Any) p.descriptor l.1.0.names) v.1.0 in
      ap (descriptor_in (new_pool im old us)) (entry_is im old us i (name_and_type p.name p.descriptor) p.is)
      ∙ image_led roles.Descriptor p.descriptor there
      ∙ ap im.desc (sym (ap (descriptor_in old) p.is))
  leads_to (referents.Entry entries) i h u = refl

  stays_fitting : (t : Referent) (i : ℕ) → fits t (tag_at old i) ≡ true → fits t (tag_at (new_pool im old us) i) ≡ true
  stays_fitting t i h = let e = is_entry t (entry_at old i) h in ap (fits t) (same_tag im old us i (in_range old i e.entry e.is)) ∙ h

  -- the new index names a fitting entry
  pub names_new : (t : Referent) (i : ℕ) → fits t (tag_at old i) ≡ true → IsUsed us t i → fits t (tag_at (new_pool im old us) (reindexed (choice im old us) t i)) ≡ true
  names_new (referents.Text role form) i h u = let l : Led im old us role i = led_text role form i h u in ap (λ (o : Option Entry). fits (referents.Text role form) (option_map tag_of o)) l.names
  names_new (referents.Class form) i h u = stays_fitting (referents.Class form) i h
  names_new (referents.NameAndType form) i h u = stays_fitting (referents.NameAndType form) i h
  names_new (referents.Entry entries) i h u = stays_fitting (referents.Entry entries) i h

  pub moved : KeepsForms im → (t : Referent) (i : ℕ) → Fitting old t i → IsUsed us t i → Goes t → Fitting (new_pool im old us) t (reindexed (choice im old us) t i)
  moved k t i f u g =
      let names : fits t (tag_at old i) ≡ true = names_fitting old t i f.names in
      let form : has_form (form_of t) (text_led_to t old i) ≡ true = has_its_form old t i f.leads in
      let form' : has_form (form_of t) (image im (role_of t) (text_led_to t old i)) ≡ true = k.keeps (role_of t) (form_of t) (text_led_to t old i) g form in
      record {
        names = ap (λ (x : Bool). cond x None (Some faults.Index)) (names_new t i names u);
        leads = ap (λ (x : Bool). cond x None (Some (form_fault (form_of t)))) (ap (has_form (form_of t)) (leads_to t i names u) ∙ form');
      }
