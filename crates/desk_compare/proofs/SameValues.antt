-- The tests of values tell whether values are the same.
use Rattle.std.proofs.Common.{◌≡◌, ℕ, zero, suc, Bool, true, false, ◌&&◌, ◌||◌, nat_eq, cond, [], Option, Some, None, bytes_eq, refl, sym, ap, ◌∙◌, arith}
use Rattle.std.proofs.lemmas.Bool.{and_parts, and_from, eqb-true, eq-eqb, ne_eqb, false≢true}
use Rattle.std.proofs.lemmas.Slice.Eq.{bytes_eq-Decides}
use Rattle.desk_base.specs.Names.{Text}
use Rattle.desk_base.specs.declared.kinds.Tag.{Tag}
use Rattle.desk_base.specs.declared.kinds.Tag.TheVariants as tags
use Rattle.desk_base.specs.declared.kinds.Role.{Role}
use Rattle.desk_base.specs.declared.kinds.UseKind.{UseKind}
use Rattle.desk_base.specs.declared.referents.Referent.{Referent}
use Rattle.desk_base.specs.declared.referents.Referent.TheVariants as referents
use Rattle.desk_base.specs.Entries.{Entry, utf8, fieldref, methodref, interface_methodref, method_handle, dynamic, invoke_dynamic, Pool, entry_at, text_at}
use Rattle.desk_base.specs.Referents.{referent_of, may_be_none}
use Rattle.desk_format.specs.Values.{Value, value_in, value_within, value_of, value_as, value_of_kind}
use Rattle.desk_format.specs.Values.{none, text, text_as, number, class_named, string_of, named_typed, member, handle, method_typed, computed, module_called, package_called}
use Rattle.desk_format.specs.PoolReading.{tag_numbered}
use Rattle.desk_compare.specs.Values.{EntryParts, parts_in, parts_at, tag_number, same_parts, same_within, same_value, same_text, is_text, same_of_kind}

-- ---- a value by the parts of its entry

abbrev value_by : (ℕ → Value) → EntryParts → Option Tag → Value
value_by v f None = none
value_by v f (Some tags.Utf8) = text f.text
value_by v f (Some tags.Integer) = number tags.Integer f.text
value_by v f (Some tags.Float) = number tags.Float f.text
value_by v f (Some tags.Long) = number tags.Long f.text
value_by v f (Some tags.Double) = number tags.Double f.text
value_by v f (Some tags.Class) = class_named f.text
value_by v f (Some tags.String) = string_of f.text
value_by v f (Some tags.MethodType) = method_typed f.text
value_by v f (Some tags.Module) = module_called f.text
value_by v f (Some tags.Package) = package_called f.text
value_by v f (Some tags.NameAndType) = named_typed f.text f.descriptor
value_by v f (Some tags.Fieldref) = member tags.Fieldref (v f.first) (v f.second)
value_by v f (Some tags.Methodref) = member tags.Methodref (v f.first) (v f.second)
value_by v f (Some tags.InterfaceMethodref) = member tags.InterfaceMethodref (v f.first) (v f.second)
value_by v f (Some tags.MethodHandle) = handle f.number (v f.first)
value_by v f (Some tags.Dynamic) = computed tags.Dynamic f.number (v f.first)
value_by v f (Some tags.InvokeDynamic) = computed tags.InvokeDynamic f.number (v f.first)

by_parts : (v : ℕ → Value) (t : ℕ → Text) (e : Option Entry) → value_in v t e ≡ value_by v (parts_in t e) (parts_in t e).tag
by_parts v t None = refl
by_parts v t (Some (utf8 s)) = refl
by_parts v t (Some _) = refl

-- ---- what a value tells of these parts

abbrev tag_in : Value → Option Tag
tag_in none = None
tag_in (text s) = Some tags.Utf8
tag_in (text_as r s) = None
tag_in (number tag b) = Some tag
tag_in (class_named s) = Some tags.Class
tag_in (string_of s) = Some tags.String
tag_in (named_typed n d) = Some tags.NameAndType
tag_in (member tag c n) = Some tag
tag_in (handle k v) = Some tags.MethodHandle
tag_in (method_typed s) = Some tags.MethodType
tag_in (computed tag n v) = Some tag
tag_in (module_called s) = Some tags.Module
tag_in (package_called s) = Some tags.Package

abbrev number_in : Value → ℕ
number_in (handle k v) = k
number_in (computed tag n v) = n
number_in _ = 0

abbrev text_in : Value → Text
text_in (text s) = s
text_in (number tag b) = b
text_in (class_named s) = s
text_in (string_of s) = s
text_in (named_typed n d) = n
text_in (method_typed s) = s
text_in (module_called s) = s
text_in (package_called s) = s
text_in _ = []

abbrev descriptor_in : Value → Text
descriptor_in (named_typed n d) = d
descriptor_in _ = []

abbrev first_in : Value → Value
first_in (member tag c n) = c
first_in (handle k v) = v
first_in (computed tag n v) = v
first_in _ = none

abbrev second_in : Value → Value
second_in (member tag c n) = n
second_in _ = none

record Told (v : ℕ → Value) (f : EntryParts) (w : Value) : Type 0 where
  tag : tag_in w ≡ f.tag
  number : number_in w ≡ f.number
  text : text_in w ≡ f.text
  descriptor : descriptor_in w ≡ f.descriptor
  first : first_in w ≡ v f.first
  second : second_in w ≡ v f.second

module _ (v : ℕ → Value) (t : ℕ → Text) (z : none ≡ v 0) where
  told : (e : Option Entry) → Told v (parts_in t e) (value_in v t e)
  told (Some (fieldref c n)) = record { tag = refl; number = refl; text = refl; descriptor = refl; first = refl; second = refl }
  told (Some (methodref c n)) = record { tag = refl; number = refl; text = refl; descriptor = refl; first = refl; second = refl }
  told (Some (interface_methodref c n)) = record { tag = refl; number = refl; text = refl; descriptor = refl; first = refl; second = refl }
  told (Some (method_handle k i)) = record { tag = refl; number = refl; text = refl; descriptor = refl; first = refl; second = z }
  told (Some (dynamic n i)) = record { tag = refl; number = refl; text = refl; descriptor = refl; first = refl; second = z }
  told (Some (invoke_dynamic n i)) = record { tag = refl; number = refl; text = refl; descriptor = refl; first = refl; second = z }
  told _ = record { tag = refl; number = refl; text = refl; descriptor = refl; first = z; second = z }

at_none : (n : ℕ) (pool : Pool) → none ≡ value_within n pool 0
unfolding value_within
at_none zero pool = refl
at_none (suc n) pool = refl

-- ---- tags

abbrev tag_by : ℕ → Option Tag
tag_by n = cond (nat_eq n 0) None (tag_numbered n)

tag_back : (o : Option Tag) → tag_by (tag_number o) ≡ o
unfolding tag_numbered
tag_back None = refl
tag_back (Some tags.Utf8) = refl
tag_back (Some _) = refl

pub same_tag : (o p : Option Tag) → tag_number o ≡ tag_number p → o ≡ p
same_tag o p h = sym (tag_back o) ∙ ap tag_by h ∙ tag_back p

-- ---- two entries

record PartsAgree (f g : EntryParts) : Type 0 where
  tag : f.tag ≡ g.tag
  number : f.number ≡ g.number
  text : f.text ≡ g.text
  descriptor : f.descriptor ≡ g.descriptor

parts_true : (f g : EntryParts) → same_parts f g ≡ true → PartsAgree f g
parts_true f g h =
    let a = and_parts _ _ h in
    let b = and_parts _ _ a.1 in
    let c = and_parts _ _ b.1 in
    record {
      tag = same_tag f.tag g.tag (eqb-true _ _ a.0);
      number = eqb-true _ _ b.0;
      text = (bytes_eq-Decides _ _).0 c.0;
      descriptor = (bytes_eq-Decides _ _).0 c.1;
    }

parts_from : (f g : EntryParts) → PartsAgree f g → same_parts f g ≡ true
parts_from f g p =
    and_from _ _ (eq-eqb _ _ (ap tag_number p.tag))
    (and_from _ _ (eq-eqb _ _ p.number) (and_from _ _ ((bytes_eq-Decides _ _).1 p.text) ((bytes_eq-Decides _ _).1 p.descriptor)))

same_by : (v w : ℕ → Value) (f g : EntryParts) → f.number ≡ g.number → f.text ≡ g.text → f.descriptor ≡ g.descriptor → v f.first ≡ w g.first → v f.second ≡ w g.second → (o : Option Tag) → value_by v f o ≡ value_by w g o
same_by v w f g a b c d e None = refl
same_by v w f g a b c d e (Some tags.Utf8) = cc
same_by v w f g a b c d e (Some _) = cc

-- ---- two indices

module _ (left right : Pool) where
  pub within_true : (n i j : ℕ) → same_within n left right i j ≡ true → value_within n left i ≡ value_within n right j
  unfolding same_within value_within
  within_true zero i j h = refl
  within_true (suc n) i j h =
      let f : EntryParts = parts_at left i in
      let g : EntryParts = parts_at right j in
      let a = and_parts _ _ h in
      let b = and_parts _ _ a.1 in
      let p : PartsAgree f g = parts_true f g a.0 in
      by_parts (value_within n left) (text_at left) (entry_at left i)
      ∙ same_by (value_within n left) (value_within n right) f g p.number p.text p.descriptor (within_true n f.first g.first b.0) (within_true n f.second g.second b.1) f.tag
      ∙ ap (value_by (value_within n right) g) p.tag
      ∙ sym (by_parts (value_within n right) (text_at right) (entry_at right j))

  pub within_from : (n i j : ℕ) → value_within n left i ≡ value_within n right j → same_within n left right i j ≡ true
  unfolding same_within value_within
  within_from zero i j h = refl
  within_from (suc n) i j h =
      let f : EntryParts = parts_at left i in
      let g : EntryParts = parts_at right j in
      let a : Told (value_within n left) f (value_within (suc n) left i) = told (value_within n left) (text_at left) (at_none n left) (entry_at left i) in
      let b : Told (value_within n right) g (value_within (suc n) right j) = told (value_within n right) (text_at right) (at_none n right) (entry_at right j) in
      let parts : PartsAgree f g = record {
        tag = sym a.tag ∙ ap tag_in h ∙ b.tag;
        number = sym a.number ∙ ap number_in h ∙ b.number;
        text = sym a.text ∙ ap text_in h ∙ b.text;
        descriptor = sym a.descriptor ∙ ap descriptor_in h ∙ b.descriptor;
      } in
      and_from _ _ (parts_from f g parts)
      (and_from _ _ (within_from n f.first g.first (sym a.first ∙ ap first_in h ∙ b.first)) (within_from n f.second g.second (sym a.second ∙ ap second_in h ∙ b.second)))

  pub at_nothing : (n : ℕ) → same_within n left right 0 0 ≡ true
  at_nothing n = within_from n 0 0 (sym (at_none n left) ∙ at_none n right)

-- ---- by use kind

not_zero : (i : ℕ) → nat_eq (suc i) 0 ≡ false
not_zero i = ne_eqb (suc i) 0 (λ e. omega arith)

no_value : (pool : Pool) (n : Bool) (i : ℕ) → cond (n && nat_eq i 0) none (value_of pool i) ≡ value_of pool i
unfolding value_within
no_value pool true zero = refl
no_value pool true (suc i) = rw (not_zero i) refl
no_value pool false i = refl

abbrev the_text : Value → Text
the_text (text_as role t) = t
the_text _ = []

abbrev kind_value : Pool → Referent → Bool → ℕ → Value
kind_value pool r n i = cond (n && nat_eq i 0) none (value_as r pool i)

abbrev kind_test : Pool → Pool → Referent → Bool → ℕ → ℕ → Bool
kind_test left right r n i j = cond (is_text r) (same_text left right n i j) (same_value left right i j)

bool_true : (role : Role) (n x y b : Bool) (s t : Text) → (b ≡ true → s ≡ t) → cond (n && (x || y)) (x && y) b ≡ true → cond (n && x) none (text_as role s) ≡ cond (n && y) none (text_as role t)
bool_true role true true true b s t k h = refl
bool_true role true true false b s t k h = absurd (false≢true h)
bool_true role true false true b s t k h = absurd (false≢true h)
bool_true role true false false b s t k h = ap (text_as role) (k h)
bool_true role false x y b s t k h = ap (text_as role) (k h)

bool_from : (role : Role) (n x y b : Bool) (s t : Text) → (s ≡ t → b ≡ true) → cond (n && x) none (text_as role s) ≡ cond (n && y) none (text_as role t) → cond (n && (x || y)) (x && y) b ≡ true
bool_from role true true true b s t k h = refl
bool_from role true true false b s t k h = absurd cc
bool_from role true false true b s t k h = absurd cc
bool_from role true false false b s t k h = k (ap the_text h)
bool_from role false x y b s t k h = k (ap the_text h)

module _ (left right : Pool) where
  text_true : (role : Role) (n : Bool) (i j : ℕ) → same_text left right n i j ≡ true → cond (n && nat_eq i 0) none (text_as role (text_at left i)) ≡ cond (n && nat_eq j 0) none (text_as role (text_at right j))
  text_true role n i j h = bool_true role n (nat_eq i 0) (nat_eq j 0) (bytes_eq (text_at left i) (text_at right j)) (text_at left i) (text_at right j) (λ e. (bytes_eq-Decides _ _).0 e) h

  text_from : (role : Role) (n : Bool) (i j : ℕ) → cond (n && nat_eq i 0) none (text_as role (text_at left i)) ≡ cond (n && nat_eq j 0) none (text_as role (text_at right j)) → same_text left right n i j ≡ true
  text_from role n i j h = bool_from role n (nat_eq i 0) (nat_eq j 0) (bytes_eq (text_at left i) (text_at right j)) (text_at left i) (text_at right j) (λ e. (bytes_eq-Decides _ _).1 e) h

  referent_true : (r : Referent) (n : Bool) (i j : ℕ) → kind_test left right r n i j ≡ true → kind_value left r n i ≡ kind_value right r n j
  referent_true (referents.Text role form) n i j h = text_true role n i j h
  referent_true (referents.Class form) n i j h = no_value left n i ∙ within_true left right 3 i j h ∙ sym (no_value right n j)
  referent_true (referents.NameAndType form) n i j h = no_value left n i ∙ within_true left right 3 i j h ∙ sym (no_value right n j)
  referent_true (referents.Entry choice) n i j h = no_value left n i ∙ within_true left right 3 i j h ∙ sym (no_value right n j)

  referent_from : (r : Referent) (n : Bool) (i j : ℕ) → kind_value left r n i ≡ kind_value right r n j → kind_test left right r n i j ≡ true
  referent_from (referents.Text role form) n i j h = text_from role n i j h
  referent_from (referents.Class form) n i j h = within_from left right 3 i j (sym (no_value left n i) ∙ h ∙ no_value right n j)
  referent_from (referents.NameAndType form) n i j h = within_from left right 3 i j (sym (no_value left n i) ∙ h ∙ no_value right n j)
  referent_from (referents.Entry choice) n i j h = within_from left right 3 i j (sym (no_value left n i) ∙ h ∙ no_value right n j)

  pub kind_true : (kind : UseKind) (i j : ℕ) → same_of_kind left right kind i j ≡ true → value_of_kind left kind i ≡ value_of_kind right kind j
  unfolding same_of_kind
  kind_true kind i j h = referent_true (referent_of kind) (may_be_none kind) i j h

  pub kind_from : (kind : UseKind) (i j : ℕ) → value_of_kind left kind i ≡ value_of_kind right kind j → same_of_kind left right kind i j ≡ true
  unfolding same_of_kind
  kind_from kind i j h = referent_from (referent_of kind) (may_be_none kind) i j h
