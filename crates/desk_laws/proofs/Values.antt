-- Each old index but those of texts leads to the renamed value.
use Rattle.std.proofs.Common.{◌≡◌, ℕ, zero, suc, ◌≤◌, true, false, List, [], ◌∷◌, length, Option, Some, None, option_map, refl, ap, ap₂, sym, ◌∙◌}
use Rattle.std.specs.List.{AllByRecursion}
use Rattle.desk_base.specs.declared.kinds.Tag.{Tag}
use Rattle.desk_base.specs.declared.kinds.Tag.TheVariants as tags
use Rattle.desk_base.specs.declared.kinds.Used.{Used}
use Rattle.desk_base.specs.Entries.{Entry, utf8, class, string, fieldref, methodref, interface_methodref, name_and_type, method_handle, method_type, dynamic, invoke_dynamic, module_named, package_named, tag_of}
use Rattle.desk_base.specs.Entries.{Pool, entry_at, tag_at, text_at}
use Rattle.desk_base.specs.declared.referents.Referent.{Referent}
use Rattle.desk_base.specs.declared.referents.Referent.TheVariants as referents
use Rattle.desk_base.specs.Referents.{fits, allows, Link, links, handled}
use Rattle.desk_laws.specs.Sound.{EachLink, Links}
use Rattle.desk_format.specs.Values.{Value, value_in, value_within}
use Rattle.desk_format.specs.Values.{class_named, string_of, named_typed, member, handle, method_typed, computed, module_called, package_called}
use Rattle.desk_format.specs.Resolved.{Images, image, renamed_value}
use Rattle.desk_format.specs.Split.{Want, kept_entry}
use Rattle.desk_format.specs.NewPool.{Choice, wants, with_texts, choice, new_pool}
use Rattle.desk_laws.proofs.Slots.{in_range, entry_at-new}
use Rattle.desk_laws.proofs.Linked.{IsUsed, LinkUsed, each_at}
use Rattle.desk_laws.proofs.Moved.{handled_all, Other, LinkKept, table, names_fitting, is_entry, leads_to}

-- what a link leads to, before and after: the image of a text, or the renamed value
abbrev pub Follows : Images → Choice → (ℕ → Value) → (ℕ → List ℕ) → (ℕ → Value) → (ℕ → List ℕ) → Referent → ℕ → Type 0
Follows im g f t f' t' (referents.Text role form) i = t' (g role i) ≡ image im role (t i)
Follows im g f t f' t' _ i = f' i ≡ renamed_value im (f i)

module _ (im : Images) (g : Choice) (f : ℕ → Value) (t : ℕ → List ℕ) (f' : ℕ → Value) (t' : ℕ → List ℕ) where
  abbrev pub LinkFollows : Link → Type 0
  LinkFollows l = Follows im g f t f' t' l.referent l.index

  handled_one : (kind i : ℕ) → Follows im g f t f' t' (handled kind) i → f' i ≡ renamed_value im (f i)
  handled_one kind i = handled_all (λ (u : Referent). Follows im g f t f' t' u i → f' i ≡ renamed_value im (f i)) (λ h. h) (λ h. h) (λ h. h) (λ h. h) kind

  -- the value of an entry, where each of its links follows
  pub value_follows : (ws : List Want) (k : ℕ) (e : Entry) → (tag_of e ≡ tags.Utf8 → ⊥) → AllByRecursion LinkFollows (links e) → value_in f' t' (Some (with_texts g (kept_entry ws k e))) ≡ renamed_value im (value_in f t (Some e))
  value_follows ws k (utf8 s) n h = absurd (n refl)
  value_follows ws k (class i) n h = ap class_named h.0
  value_follows ws k (string i) n h = ap string_of h.0
  value_follows ws k (fieldref c d) n h = ap₂ (member tags.Fieldref) h.0 h.1.0
  value_follows ws k (methodref c d) n h = ap₂ (member tags.Methodref) h.0 h.1.0
  value_follows ws k (interface_methodref c d) n h = ap₂ (member tags.InterfaceMethodref) h.0 h.1.0
  value_follows ws k (name_and_type c d) n h = ap₂ named_typed h.0 h.1.0
  value_follows ws k (method_handle kind i) n h = ap (handle kind) (handled_one kind i h.0)
  value_follows ws k (method_type d) n h = ap method_typed h.0
  value_follows ws k (dynamic m i) n h = ap (computed tags.Dynamic m) h.0
  value_follows ws k (invoke_dynamic m i) n h = ap (computed tags.InvokeDynamic m) h.0
  value_follows ws k (module_named i) n h = ap module_called h.0
  value_follows ws k (package_named i) n h = ap package_called h.0
  value_follows ws k _ n h = refl

all_three : {A : Type 0} (P Q R S : A → Type 0) (xs : List A) → ((x : A) → P x → Q x → R x → S x) → AllByRecursion P xs → AllByRecursion Q xs → AllByRecursion R xs → AllByRecursion S xs
all_three P Q R S [] f p q r = tt
all_three P Q R S (x ∷ xs) f p q r = (f x p.0 q.0 r.0, all_three P Q R S xs f p.1 q.1 r.1)

module _ (im : Images) (old : Pool) (us : List Used) (linked : EachLink (Links old) old) (used : EachLink (LinkUsed us) old) where
  abbrev Renamed : ℕ → ℕ → Type 0
  Renamed levels i = value_within levels (new_pool im old us) i ≡ renamed_value im (value_within levels old i)

  abbrev NotText : ℕ → Type 0
  NotText i = tag_at old i ≡ Some tags.Utf8 → ⊥

  abbrev Below : ℕ → Type 0
  Below levels = (i : ℕ) → i ≤ length old → NotText i → Renamed levels i

  other_not : (t : Referent) (i : ℕ) → fits t (tag_at old i) ≡ true → allows t tags.Utf8 ≡ false → NotText i
  other_not t i h out is = let in_it : allows t tags.Utf8 ≡ true = sym (ap (fits t) is) ∙ h in absurd cc

  other_follows : (levels : ℕ) → Below levels → (t : Referent) (i : ℕ) → fits t (tag_at old i) ≡ true → allows t tags.Utf8 ≡ false → Renamed levels i
  other_follows levels below t i h out = let e = is_entry t (entry_at old i) h in below i (in_range old i e.entry e.is) (other_not t i h out)

  abbrev LevelFollows : ℕ → Referent → ℕ → Type 0
  LevelFollows levels = Follows im (choice im old us) (value_within levels old) (text_at old) (value_within levels (new_pool im old us)) (text_at (new_pool im old us))

  pub follows : (levels : ℕ) → Below levels → (t : Referent) (i : ℕ) → fits t (tag_at old i) ≡ true → IsUsed us t i → Other t → LevelFollows levels t i
  follows levels below (referents.Text role form) i h u o = leads_to im old us linked used (referents.Text role form) i h u
  follows levels below (referents.Class form) i h u o = other_follows levels below (referents.Class form) i h refl
  follows levels below (referents.NameAndType form) i h u o = other_follows levels below (referents.NameAndType form) i h refl
  follows levels below (referents.Entry entries) i h u o = other_follows levels below (referents.Entry entries) i h o

  entry_follows : (levels : ℕ) → Below levels → (i : ℕ) → i ≤ length old → NotText i → (o : Option Entry) → entry_at old i ≡ o
      → value_in (value_within levels (new_pool im old us)) (text_at (new_pool im old us)) (option_map (with_texts (choice im old us)) (option_map (kept_entry (wants im old us) i) o)) ≡ renamed_value im (value_in (value_within levels old) (text_at old) o)
  entry_follows levels below i le n None is = refl
  entry_follows levels below i le n (Some e) is =
      let f : ℕ → Value = value_within levels old in
      let f' : ℕ → Value = value_within levels (new_pool im old us) in
      value_follows im (choice im old us) (value_within levels old) (text_at old) (value_within levels (new_pool im old us)) (text_at (new_pool im old us)) (wants im old us) i e (λ u. n (ap (option_map tag_of) is ∙ ap (λ (t : Tag). Some t) u))
      (all_three (Links old) (LinkUsed us) LinkKept (λ (l : Link). LevelFollows levels l.referent l.index) (links e)
      (λ l a b c. follows levels below l.referent l.index (names_fitting old l.referent l.index a.names) b c.other)
      (each_at (Links old) old i e linked is) (each_at (LinkUsed us) old i e used is) (table e))

  pub values : (levels : ℕ) → Below levels
  unfolding value_within
  values zero i le n = refl
  values (suc levels) i le n =
      ap (value_in (value_within levels (new_pool im old us)) (text_at (new_pool im old us))) (entry_at-new im old us i le)
      ∙ entry_follows levels (values levels) i le n (entry_at old i) refl
