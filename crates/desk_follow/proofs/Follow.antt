-- What a new class holds is the image of what the class holds.
use Rattle.std.proofs.Common.{◌≡◌, ◌⊎◌, inl, inr, ℕ, zero, suc, ◌+◌, ◌<◌, ◌≤◌, Bool, true, cond, List, [], ◌∷◌, ◌++◌, map, length, get_or, Option, Some, None, option_map, Ok, refl, sym, ap, ap₂, subst, ◌∙◌, arith}
use Rattle.std.specs.List.{Contains}
use Rattle.std.proofs.lemmas.List.{map-append}
use Rattle.std.proofs.lemmas.List.Elements.{Contains-append_left, Contains-append_right}
use Rattle.desk_base.specs.Names.{Text, is_class_name}
use Rattle.desk_base.specs.declared.kinds.Role.TheVariants as roles
use Rattle.desk_base.specs.declared.kinds.Tag.TheVariants as tags
use Rattle.desk_base.specs.declared.kinds.Used.{Used}
use Rattle.desk_base.specs.declared.kinds.UseKind.TheVariants as kinds
use Rattle.desk_base.specs.declared.referents.Form.TheVariants as forms
use Rattle.desk_base.specs.declared.referents.Referent.{Referent}
use Rattle.desk_base.specs.declared.referents.Referent.TheVariants as referents
use Rattle.desk_base.specs.Entries.{Entry, utf8, integer, float, long, double, class, string, fieldref, methodref, interface_methodref, name_and_type, method_handle, method_type, dynamic, invoke_dynamic, module_named, package_named, tag_of, Pool, entry_at, tag_at, text_at, class_name_in, class_name_at}
use Rattle.desk_base.specs.Referents.{has_form, begins_array}
use Rattle.desk_base.specs.Misfits.{misfit, wrong_entry, wrong_text}
use Rattle.desk_format.specs.Trees.{Tree, Use, Each, uses}
use Rattle.desk_format.specs.Values.{Value, class_named, value_in, value_within, value_of}
use Rattle.desk_format.specs.Exchange.{Fits, exchange}
use Rattle.desk_format.specs.Resolved.{Images, image, resolved, renamed, renamed_value}
use Rattle.desk_format.specs.Laws.{IsBytes}
use Rattle.desk_format.specs.ClassBody.{class_body}
use Rattle.desk_format.specs.Rows.{row_layout}
use Rattle.desk_format.specs.Reading.{Got, read}
use Rattle.desk_format.specs.PoolBytes.{pool_uses}
use Rattle.desk_format.specs.NewPool.{added}
use Rattle.desk_format.specs.NewClass.{ResolvedClass, new_class, pool_of, change_of}
use Rattle.desk_format.specs.Classes.{Class, class_uses, read_class, entries_at}
use Rattle.desk_format.proofs.Steps.{then_ok}
use Rattle.desk_laws.specs.NewPools.{IsNewPool}
use Rattle.desk_laws.specs.Classes.{IsRenamedClass}
use Rattle.desk_laws.proofs.Header.{ClassParts, class_ok}
use Rattle.desk_laws.proofs.Moved.{names_fitting, has_its_form, is_class}
use Rattle.desk_laws.proofs.Passes.{Neither, neither}
use Rattle.desk_laws.proofs.Slots.{in_range}
use Rattle.desk_laws.proofs.Whole.{printed_classes}
use Rattle.desk_class.specs.Scan.{class_head}
use Rattle.desk_class.specs.Held.{names_of, held_names, descriptor_names}
use Rattle.desk_class.specs.Parts.{this_class, class_name}
use Rattle.desk_class.proofs.Heads.{head_read}
use Rattle.desk_rename.specs.Images.{cls}
use Rattle.desk_follow.specs.RuleImages.{images_of}
use Rattle.desk_follow.specs.Follow.{NamesFollow}
use Rattle.desk_follow.proofs.NameImages.{names_follow}
use Rattle.desk_follow.proofs.TreeNames.{held-append, tree_names, body_held, entry_names, slot_names, slots_names, pool_held, tree_renamed, entry_renamed, slots_follow}

-- ---- the slots

slot_at : (pool : Pool) (j : ℕ) → slot_names pool (get_or pool j None) ≡ entry_names (value_of pool (suc j))
unfolding value_within
slot_at pool j = refl

text_or_not : (o : Option Entry) → ((t : Text) × (o ≡ Some (utf8 t))) ⊎ (option_map tag_of o ≡ Some tags.Utf8 → ⊥)
text_or_not None = inr (λ e. cc)
text_or_not (Some (utf8 t)) = inl (t, refl)
text_or_not (Some (integer b)) = inr (λ e. cc)
text_or_not (Some (float b)) = inr (λ e. cc)
text_or_not (Some (long b)) = inr (λ e. cc)
text_or_not (Some (double b)) = inr (λ e. cc)
text_or_not (Some (class i)) = inr (λ e. cc)
text_or_not (Some (string i)) = inr (λ e. cc)
text_or_not (Some (fieldref c n)) = inr (λ e. cc)
text_or_not (Some (methodref c n)) = inr (λ e. cc)
text_or_not (Some (interface_methodref c n)) = inr (λ e. cc)
text_or_not (Some (name_and_type n d)) = inr (λ e. cc)
text_or_not (Some (method_handle k i)) = inr (λ e. cc)
text_or_not (Some (method_type d)) = inr (λ e. cc)
text_or_not (Some (dynamic n i)) = inr (λ e. cc)
text_or_not (Some (invoke_dynamic n i)) = inr (λ e. cc)
text_or_not (Some (module_named i)) = inr (λ e. cc)
text_or_not (Some (package_named i)) = inr (λ e. cc)

text_names_none : (pool : Pool) (i : ℕ) (t : Text) → entry_at pool i ≡ Some (utf8 t) → entry_names (value_of pool i) ≡ []
unfolding value_within
text_names_none pool i t e = ap (λ (o : Option Entry). entry_names (value_in (value_within 2 pool) (text_at pool) o)) e

module _ (im : Images) (f : Text → Text) (follow : (role : _) (t : Text) → names_of role (image im role t) ≡ map f (names_of role t)) (old new : Pool) (us : List Used) (n : IsNewPool im old us new) where
  names_at : (i : ℕ) → i ≤ length old → entry_names (value_of new i) ≡ map f (entry_names (value_of old i))
  names_at i le = elim (text_or_not (entry_at old i)) [
    | inl p ↦ elim (text_or_not (entry_at new i)) [
      | inl q ↦ text_names_none new i q.0 q.1 ∙ ap (map f) (sym (text_names_none old i p.0 p.1))
      | inr other ↦ absurd (other (n.same_tags i le ∙ ap (option_map tag_of) p.1))
    ]
    | inr other ↦ ap entry_names (n.same_values i le other) ∙ entry_renamed im f follow (value_of old i)
  ]

  pub pool_follows : slots_names new new ≡ map f (slots_names old old)
  pool_follows =
      slots_follow f old new old new (added im old us) (omega (arith, n.count)) n.appended
      (λ j h. slot_at new j ∙ names_at (suc j) (omega arith) ∙ ap (map f) (sym (slot_at old j)))

-- ---- what is held

held_parts : (c : Class) → held_names c ≡ slots_names c.pool c.pool ++ tree_names (resolved c.pool c.body)
held_parts c =
    held-append c.pool (pool_uses entries_at c.pool) (uses c.body)
    ∙ ap₂ (λ (xs ys : List Text). xs ++ ys) (pool_held c.pool entries_at c.pool) (body_held c.pool c.body)

held_follow : (im : Images) (f : Text → Text) (bytes : Text) (c : Class) → ((role : _) (t : Text) → names_of role (image im role t) ≡ map f (names_of role t)) → IsRenamedClass im bytes c
    → held_names (new_class im c) ≡ map f (held_names c)
held_follow im f bytes c follow r =
    let new = new_class im c in
    let tree : resolved (pool_of im c) (exchange (change_of im c) c.body) ≡ renamed im (resolved c.pool c.body) = ap (λ (x : ResolvedClass). x.body) r.tree in
    held_parts new
    ∙ ap₂ (λ (xs ys : List Text). xs ++ ys) (pool_follows im f follow c.pool (pool_of im c) (class_uses c) r.pool) (ap tree_names tree ∙ tree_renamed im f follow (resolved c.pool c.body))
    ∙ sym (map-append f (slots_names c.pool c.pool) (tree_names (resolved c.pool c.body)))
    ∙ ap (map f) (sym (held_parts c))

-- ---- the name

abbrev this_use : ℕ → ℕ → Use
this_use at i = record { at = at; kind = kinds.ClassName; index = i }

-- a body by its access flags and the index of this class
record Headed (body : Tree Use) : Type 0 where
  flags : Tree Use
  at : ℕ
  index : ℕ
  more : Tree Use
  rest : Tree Use
  is : body ≡ Tree.both (Tree.both flags (Tree.both (Tree.used (this_use at index)) more)) rest

headed : (pool : Pool) (at : ℕ) (s : List ℕ) (g : Got) → read pool class_body at s ≡ Ok g → Headed g.tree
unfolding read class_body row_layout
headed pool at s g e =
    let o = then_ok (read pool class_head) _ at s g e in
    let h = head_read pool kinds.ClassName kinds.ClassNameOrNone at s o.a o.first_ok in
    record {
      flags = h.flags;
      at = at + 2;
      index = _;
      more = _;
      rest = o.b.tree;
      is = ap (λ (x : Got). x.tree) (sym o.is) ∙ ap (λ (t : Tree Use). Tree.both t o.b.tree) h.is;
    }

body_headed : (bytes : List ℕ) (c : Class) → IsBytes bytes → read_class bytes ≡ Ok c → Headed c.body
body_headed bytes c b h =
    let p : ClassParts bytes c = class_ok bytes c b h in
    subst (λ (d : Class). Headed d.body) p.is (headed p.pool.value p.pool.at p.pool.left p.body p.body_ok)

-- an index of a class by its name
record NamesClass (pool : Pool) (i : ℕ) : Type 0 where
  text : ℕ
  entry : entry_at pool i ≡ Some (class text)
  named : is_class_name (class_name_at pool i) ≡ true

abbrev by_name : Referent
by_name = referents.Class forms.ClassName

names_class : (pool : Pool) (i : ℕ) → misfit pool kinds.ClassName i ≡ None → NamesClass pool i
unfolding misfit has_form
names_class pool i h =
    let p : Neither (wrong_entry pool by_name i) (wrong_text pool by_name i) = neither (wrong_entry pool by_name i) (wrong_text pool by_name i) h in
    let e = is_class forms.ClassName (entry_at pool i) (names_fitting pool by_name i p.first) in
    record { text = e.0; entry = e.1; named = has_its_form pool by_name i p.second }

value_is : (pool : Pool) (i j : ℕ) → entry_at pool i ≡ Some (class j) → value_of pool i ≡ class_named (text_at pool j)
unfolding value_within
value_is pool i j e = ap (value_in (value_within 2 pool) (text_at pool)) e

class_of_value : (pool : Pool) (v : ℕ → Value) (t : Text) (o : Option Entry) → value_in v (text_at pool) o ≡ class_named t → class_name_in pool o ≡ t
class_of_value pool v t None e = absurd cc
class_of_value pool v t (Some (utf8 s)) e = absurd cc
class_of_value pool v t (Some (integer b)) e = absurd cc
class_of_value pool v t (Some (float b)) e = absurd cc
class_of_value pool v t (Some (long b)) e = absurd cc
class_of_value pool v t (Some (double b)) e = absurd cc
class_of_value pool v t (Some (class i)) e = cc
class_of_value pool v t (Some (string i)) e = absurd cc
class_of_value pool v t (Some (fieldref c n)) e = absurd cc
class_of_value pool v t (Some (methodref c n)) e = absurd cc
class_of_value pool v t (Some (interface_methodref c n)) e = absurd cc
class_of_value pool v t (Some (name_and_type n d)) e = absurd cc
class_of_value pool v t (Some (method_handle k i)) e = absurd cc
class_of_value pool v t (Some (method_type d)) e = absurd cc
class_of_value pool v t (Some (dynamic n i)) e = absurd cc
class_of_value pool v t (Some (invoke_dynamic n i)) e = absurd cc
class_of_value pool v t (Some (module_named i)) e = absurd cc
class_of_value pool v t (Some (package_named i)) e = absurd cc

class_at : (pool : Pool) (i : ℕ) (t : Text) → value_of pool i ≡ class_named t → class_name_at pool i ≡ t
unfolding value_within
class_at pool i t e = class_of_value pool (value_within 2 pool) t (entry_at pool i) e

-- a class name at an index is held
held_slot : (pool : Pool) (xs : List (Option Entry)) (j : ℕ) (t : Text) → j < length xs → slot_names pool (get_or xs j None) ≡ t ∷ [] → Contains (slots_names pool xs) t
unfolding slots_names
held_slot pool [] j t h e = absurd (omega arith)
held_slot pool (x ∷ xs) zero t h e =
    let P : List Text → Type 0 = λ ns. Contains (ns ++ slots_names pool xs) t in
    subst P (sym e) (0, omega arith, refl)
held_slot pool (x ∷ xs) (suc j) t h e = Contains-append_right (slot_names pool x) (slots_names pool xs) t (held_slot pool xs j t (omega arith) e)

module _ (im : Images) (bytes : List ℕ) (c : Class) (b : IsBytes bytes) (reads : read_class bytes ≡ Ok c) where
  abbrev Of : Headed c.body
  Of = body_headed bytes c b reads

  this_is : this_class c.body ≡ Of.index
  this_is = ap this_class Of.is

  fits : Fits c.pool (this_use Of.at Of.index)
  fits =
      let all : Each (Fits c.pool) c.body = (printed_classes bytes c b reads).fits in
      (subst (Each (Fits c.pool)) Of.is all).0.1.0

  names : NamesClass c.pool Of.index
  names = names_class c.pool Of.index fits.fits

  old_name : class_name c ≡ text_at c.pool names.text
  old_name = ap (class_name_at c.pool) this_is ∙ ap (class_name_in c.pool) names.entry

  pub name_named : is_class_name (class_name c) ≡ true
  name_named = ap (λ (i : ℕ). is_class_name (class_name_at c.pool i)) this_is ∙ names.named

  within : Of.index ≤ length c.pool
  within = in_range c.pool Of.index (class names.text) names.entry

  new_this : this_class (exchange (change_of im c) c.body) ≡ Of.index
  new_this = ap (λ (t : Tree Use). this_class (exchange (change_of im c) t)) Of.is

  pub name_follows : IsRenamedClass im bytes c → class_name (new_class im c) ≡ im.cls (class_name c)
  name_follows r =
      let no_text : tag_at c.pool Of.index ≡ Some tags.Utf8 → ⊥ = λ e. let f : option_map tag_of (entry_at c.pool Of.index) ≡ Some tags.Class = ap (option_map tag_of) names.entry in cc in
      let v : value_of (pool_of im c) Of.index ≡ class_named (im.cls (text_at c.pool names.text))
      = r.pool.same_values Of.index within no_text ∙ ap (renamed_value im) (value_is c.pool Of.index names.text names.entry) in
      ap (class_name_at (pool_of im c)) new_this
      ∙ class_at (pool_of im c) Of.index (im.cls (text_at c.pool names.text)) v
      ∙ ap im.cls (sym old_name)

  slot : (i : ℕ) → entry_at c.pool i ≡ Some (class names.text) → i ≤ length c.pool → Contains (slots_names c.pool c.pool) (class_name c)
  unfolding names_of
  slot zero e h = absurd cc
  slot (suc j) e h =
      held_slot c.pool c.pool j (class_name c) (omega arith)
      (slot_at c.pool j
      ∙ ap entry_names (value_is c.pool (suc j) names.text e)
      ∙ ap (names_of roles.Class) (sym old_name)
      ∙ ap (λ (x : Bool). cond x (class_name c ∷ []) (cond (begins_array (class_name c)) (descriptor_names (class_name c)) [])) name_named)

  pub own_held : Contains (held_names c) (class_name c)
  own_held =
      let P : List Text → Type 0 = λ ns. Contains ns (class_name c) in
      subst P (sym (held_parts c)) (Contains-append_left (slots_names c.pool c.pool) (tree_names (resolved c.pool c.body)) (class_name c) (slot Of.index names.entry within))

pub follow : NamesFollow
follow rules bytes c is b reads r = record {
  held = held_follow (images_of rules) (cls rules.renames) bytes c (names_follow rules is) r;
  name = name_follows (images_of rules) bytes c b reads r;
  named = name_named (images_of rules) bytes c b reads;
  own = own_held (images_of rules) bytes c b reads;
}
