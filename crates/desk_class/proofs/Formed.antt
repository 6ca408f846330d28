-- The texts that a class uses have their forms.
use Rattle.std.proofs.Common.{◌≡◌, ℕ, ◌+◌, Bool, true, false, cond, ◌&&◌, ◌||◌, List, [], ◌∷◌, None, Some, Ok, nat_eq, sym, ap, subst, ◌∙◌, if◌then◌else◌}
use Rattle.std.specs.List.{AllByRecursion}
use Rattle.std.proofs.lemmas.Bool.{and_parts, or_left, or_right, or_cases, false_from_ne_true, both_ways}
use Rattle.std.proofs.Common.{inl, inr}
use Rattle.desk_base.specs.Names.{Text, is_class_name}
use Rattle.desk_base.specs.Descriptors.{DescriptorKind, is_descriptor}
use Rattle.desk_base.specs.Entries.{Entry, utf8, integer, float, long, double, class, string, fieldref, methodref, interface_methodref, name_and_type, method_handle, method_type, dynamic, invoke_dynamic, module_named, package_named, Pool, text_at}
use Rattle.desk_base.specs.Misfits.{or_else, wrong_entry, wrong_text, misfit}
use Rattle.desk_base.specs.Referents.{Link, links, begins_array, has_form, form_of, text_led_to, referent_of, may_be_none}
use Rattle.desk_base.specs.declared.kinds.Role.{Role}
use Rattle.desk_base.specs.declared.kinds.Role.TheVariants as roles
use Rattle.desk_base.specs.declared.kinds.UseKind.{UseKind}
use Rattle.desk_base.specs.declared.kinds.UseKind.TheVariants as kinds
use Rattle.desk_base.specs.declared.kinds.Used.{Used}
use Rattle.desk_base.specs.declared.referents.Form.{Form}
use Rattle.desk_base.specs.declared.referents.Form.TheVariants as forms
use Rattle.desk_base.specs.declared.referents.Referent.{Referent}
use Rattle.desk_base.specs.declared.referents.Referent.TheVariants as referents
use Rattle.desk_base.proofs.Separated.{no_array}
use Rattle.desk_format.specs.Classes.{Class, read_class, class_uses, entries_at}
use Rattle.desk_format.specs.Exchange.{Fits}
use Rattle.desk_format.specs.Laws.{IsBytes}
use Rattle.desk_format.specs.PoolBytes.{size, uses_among, pool_uses}
use Rattle.desk_format.specs.Trees.{Use, uses, uses_of, text_use, text_in_role}
use Rattle.desk_laws.specs.Classes.{IsPrintedClass}
use Rattle.desk_laws.specs.Sound.{EachLink, Links}
use Rattle.desk_laws.proofs.Bodies.{all_append}
use Rattle.desk_laws.proofs.Indices.{uses_as, indices, text_uses, uses-indices, all_indices}
use Rattle.desk_laws.proofs.Moved.{handled_all, has_its_form}
use Rattle.desk_laws.proofs.Passes.{Neither, neither}
use Rattle.desk_laws.proofs.Whole.{printed_classes}
use Rattle.desk_names.specs.Pieces.{pieces, names_in}
use Rattle.desk_names.proofs.FieldDescriptors.{field_returned}
use Rattle.desk_class.specs.Formed.{IsFormed, AreFormed}
use Rattle.desk_class.specs.Held.{descriptor_names, names_of}

-- ---- what a form says of a role

-- the forms that are asked of a text in a role
abbrev Asks : Referent → Type 0
Asks (referents.Text roles.Class forms.ClassOrArray) = Unit {0}
Asks (referents.Text roles.Class _) = ⊥
Asks (referents.Text roles.Descriptor forms.Field) = Unit {0}
Asks (referents.Text roles.Descriptor forms.Method) = Unit {0}
Asks (referents.Text roles.Descriptor forms.FieldOrMethod) = Unit {0}
Asks (referents.Text roles.Descriptor forms.Return) = Unit {0}
Asks (referents.Text roles.Descriptor _) = ⊥
Asks _ = Unit {0}

field_formed : (t : Text) → is_descriptor DescriptorKind.field t ≡ true → (is_descriptor DescriptorKind.return t || is_descriptor DescriptorKind.method t) ≡ true
field_formed t h = or_left (is_descriptor DescriptorKind.return t) (is_descriptor DescriptorKind.method t) (field_returned t h)

either_formed : (t : Text) → (is_descriptor DescriptorKind.field t || is_descriptor DescriptorKind.method t) ≡ true → (is_descriptor DescriptorKind.return t || is_descriptor DescriptorKind.method t) ≡ true
either_formed t h = elim (or_cases (is_descriptor DescriptorKind.field t) (is_descriptor DescriptorKind.method t) h) [
  | inl field ↦ field_formed t field
  | inr method ↦ or_right (is_descriptor DescriptorKind.return t) (is_descriptor DescriptorKind.method t) method
]

formed : (role : Role) (form : Form) (t : Text) → Asks (referents.Text role form) → has_form form t ≡ true → IsFormed role t
unfolding IsFormed has_form
formed roles.Class forms.Any t a h = absurd a
formed roles.Class forms.ClassName t a h = absurd a
formed roles.Class forms.ClassOrArray t a h = h
formed roles.Class forms.Field t a h = absurd a
formed roles.Class forms.Method t a h = absurd a
formed roles.Class forms.FieldOrMethod t a h = absurd a
formed roles.Class forms.Return t a h = absurd a
formed roles.Descriptor forms.Any t a h = absurd a
formed roles.Descriptor forms.ClassName t a h = absurd a
formed roles.Descriptor forms.ClassOrArray t a h = absurd a
formed roles.Descriptor forms.Field t a h = field_formed t h
formed roles.Descriptor forms.Method t a h = or_right (is_descriptor DescriptorKind.return t) (is_descriptor DescriptorKind.method t) h
formed roles.Descriptor forms.FieldOrMethod t a h = either_formed t h
formed roles.Descriptor forms.Return t a h = or_left (is_descriptor DescriptorKind.return t) (is_descriptor DescriptorKind.method t) h
formed roles.Package form t a h = tt
formed roles.Module form t a h = tt
formed roles.ClassSig form t a h = tt
formed roles.MethodSig form t a h = tt
formed roles.FieldSig form t a h = tt
formed roles.Str form t a h = tt
formed roles.Plain form t a h = tt
formed roles.AttrName form t a h = tt

-- ---- the uses of a pool

abbrev LinkAsks : Link → Type 0
LinkAsks l = Asks l.referent

asked : (e : Entry) → AllByRecursion LinkAsks (links e)
asked (utf8 t) = tt
asked (integer b) = tt
asked (float b) = tt
asked (long b) = tt
asked (double b) = tt
asked (class i) = (tt, tt)
asked (string i) = (tt, tt)
asked (fieldref c n) = (tt, (tt, tt))
asked (methodref c n) = (tt, (tt, tt))
asked (interface_methodref c n) = (tt, (tt, tt))
asked (name_and_type n d) = (tt, (tt, tt))
asked (method_handle k i) = (handled_all Asks tt tt tt tt k, tt)
asked (method_type d) = (tt, tt)
asked (dynamic n i) = (tt, tt)
asked (invoke_dynamic n i) = (tt, tt)
asked (module_named i) = (tt, tt)
asked (package_named i) = (tt, tt)

formed_as : (pool : Pool) (t : Referent) (at i : ℕ) → Asks t → has_form (form_of t) (text_led_to t pool i) ≡ true → AreFormed pool (uses_as t at i)
formed_as pool (referents.Text role form) at i a h = (formed role form (text_at pool i) a h, tt)
formed_as pool (referents.Class form) at i a h = tt
formed_as pool (referents.NameAndType form) at i a h = tt
formed_as pool (referents.Entry choice) at i a h = tt

abbrev Formed : Pool → Used → Type 0
Formed pool u = IsFormed u.role (text_at pool u.index)

formed_among : (pool : Pool) (at : ℕ) (ls : List Link) → AllByRecursion (Links pool) ls → AllByRecursion LinkAsks ls → AreFormed pool (uses_among at ls)
formed_among pool at [] h a = tt
formed_among pool at (l ∷ ls) h a =
    all_append (Formed pool) (uses_as l.referent _ l.index) (uses_among at ls) (formed_as pool l.referent _ l.index a.0 (has_its_form pool l.referent l.index h.0.leads)) (formed_among pool at ls h.1 a.1)

formed_in_pool : (pool : Pool) (at : ℕ) (slots : Pool) → EachLink (Links pool) slots → AreFormed pool (pool_uses at slots)
formed_in_pool pool at [] h = tt
formed_in_pool pool at (None ∷ slots) h = formed_in_pool pool at slots h
formed_in_pool pool at (Some e ∷ slots) h = all_append (Formed pool) (uses_among at (links e)) (pool_uses (at + size e) slots) (formed_among pool at (links e) h.0 (asked e)) (formed_in_pool pool (at + size e) slots h.1)

-- ---- the uses of a body

kind_asks : (kind : UseKind) → Asks (referent_of kind)
kind_asks kinds.Plain = tt
kind_asks kinds.PlainOrNone = tt
kind_asks kinds.AttrName = tt
kind_asks kinds.FieldDescriptor = tt
kind_asks kinds.MethodDescriptor = tt
kind_asks kinds.ReturnDescriptor = tt
kind_asks kinds.ClassSig = tt
kind_asks kinds.MethodSig = tt
kind_asks kinds.FieldSig = tt
kind_asks kinds.Str = tt
kind_asks kinds.ClassName = tt
kind_asks kinds.ClassNameOrNone = tt
kind_asks kinds.Class = tt
kind_asks kinds.ClassOrNone = tt
kind_asks kinds.NameAndTypeOrNone = tt
kind_asks kinds.Module = tt
kind_asks kinds.Package = tt
kind_asks kinds.Constant = tt
kind_asks kinds.Integer = tt
kind_asks kinds.Float = tt
kind_asks kinds.Long = tt
kind_asks kinds.Double = tt
kind_asks kinds.Loadable = tt
kind_asks kinds.MethodHandle = tt

formed_use : (pool : Pool) (u : Use) (x : Bool) → cond x None (or_else (wrong_entry pool (referent_of u.kind) u.index) (wrong_text pool (referent_of u.kind) u.index)) ≡ None → AreFormed pool (uses_of (cond x None (text_in_role (referent_of u.kind) u.at u.index)))
formed_use pool u true h = tt
formed_use pool u false h =
    let n : Neither (wrong_entry pool (referent_of u.kind) u.index) (wrong_text pool (referent_of u.kind) u.index) = neither (wrong_entry pool (referent_of u.kind) u.index) (wrong_text pool (referent_of u.kind) u.index) h in
    formed_as pool (referent_of u.kind) u.at u.index (kind_asks u.kind) (has_its_form pool (referent_of u.kind) u.index n.second)

formed_one : (pool : Pool) (u : Use) → Fits pool u → AreFormed pool (uses_of (text_use u))
unfolding misfit
formed_one pool u f = formed_use pool u (may_be_none u.kind && nat_eq u.index 0) f.fits

formed_in_body : (pool : Pool) (us : List Use) → AllByRecursion (Fits pool) us → AreFormed pool (text_uses us)
formed_in_body pool [] h = tt
formed_in_body pool (u ∷ us) h = all_append (Formed pool) (uses_of (text_use u)) (text_uses us) (formed_one pool u h.0) (formed_in_body pool us h.1)

-- ---- the uses of a class

pub formed_class : (bytes : Text) (c : Class) → IsBytes bytes → read_class bytes ≡ Ok c → AreFormed c.pool (class_uses c)
formed_class bytes c b reads =
    let p : IsPrintedClass bytes c = printed_classes bytes c b reads in
    all_append (Formed c.pool) (pool_uses entries_at c.pool) (uses c.body) (formed_in_pool c.pool entries_at c.pool p.pool.linked)
    (subst (AreFormed c.pool) (sym (uses-indices c.body)) (formed_in_body c.pool (indices c.body) (all_indices (Fits c.pool) c.body p.fits)))

-- ---- the names of a formed text

pub descriptor_named : (t : Text) → IsFormed roles.Descriptor t → names_of roles.Descriptor t ≡ names_in (pieces t)
unfolding names_of IsFormed
descriptor_named t h = ap (λ (b : Bool). if b then names_in (pieces t) else []) h

-- an array is a descriptor, and no class name
no_name : (t : Text) → begins_array t ≡ true → is_class_name t ≡ false
no_name t array = false_from_ne_true (is_class_name t) (λ e. both_ways (begins_array t) (no_array t e) array)

pub array_field : (t : Text) → begins_array t ≡ true → IsFormed roles.Class t → is_descriptor DescriptorKind.field t ≡ true
unfolding IsFormed has_form
array_field t array h = (and_parts (begins_array t) (is_descriptor DescriptorKind.field t) (sym (ap (λ (b : Bool). b || (begins_array t && is_descriptor DescriptorKind.field t)) (no_name t array)) ∙ h)).1

pub array_named : (t : Text) → begins_array t ≡ true → IsFormed roles.Class t → names_of roles.Class t ≡ names_in (pieces t)
unfolding names_of
array_named t array h =
    ap (λ (b : Bool). if b then t ∷ [] else if begins_array t then descriptor_names t else []) (no_name t array)
    ∙ ap (λ (b : Bool). if b then descriptor_names t else []) array
    ∙ ap (λ (b : Bool). if b then names_in (pieces t) else []) (field_formed t (array_field t array h))

pub is_named : (t : Text) → begins_array t ≡ false → IsFormed roles.Class t → is_class_name t ≡ true
unfolding IsFormed has_form
is_named t other h = elim (or_cases (is_class_name t) (begins_array t && is_descriptor DescriptorKind.field t) h) [
  | inl named ↦ named
  | inr array ↦ absurd (both_ways (begins_array t) other (and_parts (begins_array t) (is_descriptor DescriptorKind.field t) array).0)
]

pub class_named : (t : Text) → is_class_name t ≡ true → names_of roles.Class t ≡ t ∷ []
unfolding names_of
class_named t named = ap (λ (b : Bool). if b then t ∷ [] else if begins_array t then descriptor_names t else []) named
