-- Layouts in which no field or method stands, and what they are read into.
use Rattle.std.proofs.Common.{◌≡◌, ℕ, zero, suc, Bool, true, false, cond, List, [], ◌∷◌, ◌++◌, Option, Some, None, Ok, refl, sym, ap, ◌∙◌}
use Rattle.std.specs.Int.{Width, w8, w16, w32, byte_len, from_be_bytes}
use Rattle.desk_base.specs.declared.kinds.UseKind.{UseKind}
use Rattle.desk_base.specs.declared.kinds.UseKind.TheVariants as kinds
use Rattle.desk_base.specs.declared.faults.FaultKind.{FaultKind}
use Rattle.desk_base.specs.Entries.{Pool}
use Rattle.desk_base.specs.Misfits.{misfit}
use Rattle.desk_format.specs.declared.members.Member.{Member}
use Rattle.desk_format.specs.declared.attributes.Attribute.{Attribute}
use Rattle.desk_format.specs.declared.attributes.Attribute.TheVariants as attributes
use Rattle.desk_format.specs.declared.attributes.Location.{Location}
use Rattle.desk_format.specs.declared.attributes.Location.TheVariants as places
use Rattle.desk_format.specs.declared.attributes.Slot.{Slot}
use Rattle.desk_format.specs.declared.attributes.Slot.TheVariants as slots
use Rattle.desk_format.specs.Trees.{Tree, Use}
use Rattle.desk_format.specs.Members.{members}
use Rattle.desk_format.specs.Layouts.{Layout, Check, any}
use Rattle.desk_format.specs.Rows.{u1, u2, rows, many, slot_layout, row_layout, table_layout, Case, at, from, tag_branch}
use Rattle.desk_format.specs.Frames.{verification_type, frame}
use Rattle.desk_format.specs.Annotations.{element, element_cases, annotation, target, type_annotation}
use Rattle.desk_format.specs.Attributes.{row_of, no_attributes, is_among, body_by, attribute_named, inner_attributes, attributes_of}
use Rattle.desk_format.specs.Reading.{Got, Reader, item, number_at, raw_at, code_at, index_at, nothing_at, and_then, times, value_of, name_of, fenced, attribute_at, read}
use Rattle.desk_format.proofs.Steps.{ok_is, then_ok, item_ok, fenced_ok}

-- ---- readers of trees without members

pub record NoMembers (reader : Reader) : Type 0 where
  pub none : (at : ℕ) (s : List ℕ) (got : Got) → reader at s ≡ Ok got → members got.tree ≡ []

abbrev members_of : Got → List Member
members_of got = members got.tree

none_item : (n : ℕ) (check : List ℕ → Option FaultKind) (leaf : ℕ → List ℕ → Tree Use) → ((at : ℕ) (bytes : List ℕ) → members (leaf at bytes) ≡ []) → NoMembers (item n check leaf)
none_item n check leaf h = record { none = λ at s got e. let o = item_ok n check leaf at s got e in ap members_of (sym o.is) ∙ h at _ }

none_then : (first : Reader) (second : Tree Use → Reader) → NoMembers first → ((t : Tree Use) → NoMembers (second t)) → NoMembers (and_then first second)
none_then first second p q = record {
  none = λ at s got e.
      let o = then_ok first second at s got e in
      let one = p.none at s o.a o.first_ok in
      let two = (q o.a.tree).none o.a.at o.a.left o.b o.second_ok in
      ap members_of (sym o.is) ∙ ap (λ (ms : List Member). ms ++ members o.b.tree) one ∙ two;
}

none_nothing : NoMembers nothing_at
unfolding nothing_at
none_nothing = record { none = λ at s got e. ap members_of (sym (ok_is _ _ e)) }

none_times : (n : ℕ) (reader : Reader) → NoMembers reader → NoMembers (times n reader)
unfolding times
none_times zero reader p = none_nothing
none_times (suc n) reader p = none_then reader _ p (λ t. none_times n reader p)

none_number : (w : Width) (check : Check) → NoMembers (number_at w check)
unfolding number_at
none_number w check = none_item (byte_len w) (λ bytes. check (from_be_bytes w bytes)) (λ at bytes. Tree.number bytes) (λ at bytes. refl)

none_raw : (n : ℕ) → NoMembers (raw_at n)
unfolding raw_at
none_raw n = none_item n (λ _. None) (λ at bytes. Tree.raw bytes) (λ at bytes. refl)

none_code : (n : ℕ) → NoMembers (code_at n)
none_code n = none_item n (λ _. None) (λ at bytes. Tree.code bytes) (λ at bytes. refl)

none_use : (pool : Pool) (kind : UseKind) → NoMembers (index_at pool kind)
unfolding index_at
none_use pool kind = none_item 2 (λ bytes. misfit pool kind (from_be_bytes w16 bytes)) (λ at bytes. Tree.used (record { at = at; kind = kind; index = from_be_bytes w16 bytes })) (λ at bytes. refl)

none_fenced : (n : ℕ) (body : Reader) → NoMembers body → NoMembers (fenced n body)
none_fenced n body p = record { none = λ at s got e. let o = fenced_ok n body at s got e in ap members_of (sym o.is) ∙ p.none at _ o.a o.body_ok }

none_attribute : (pool : Pool) (body : ℕ → List ℕ → Reader) → ((n : ℕ) (name : List ℕ) → NoMembers (body n name)) → NoMembers (attribute_at pool body)
unfolding attribute_at
none_attribute pool body p =
    none_then _ _ (none_use pool kinds.AttrName) (λ name. none_then _ _ (none_number w32 any) (λ n. none_fenced (value_of w32 n) (body (value_of w32 n) (name_of pool name)) (p (value_of w32 n) (name_of pool name))))

-- ---- layouts

abbrev pub Bare : Layout → Type 0
Bare (Layout.number w check) = Unit {0}
Bare (Layout.sized w check) = Unit {0}
Bare (Layout.raw n) = Unit {0}
Bare (Layout.index kind) = Unit {0}
Bare Layout.nothing = Unit {0}
Bare (Layout.row a b) = Bare a × Bare b
Bare (Layout.table w each) = Bare each
Bare (Layout.tagged check branch) = (tag : ℕ) → Bare (branch tag)
Bare (Layout.attributes body) = (size : ℕ) (name : List ℕ) → Bare (body size name)
Bare (Layout.member each) = ⊥
Bare (Layout.fault kind) = Unit {0}

pub none_read : (pool : Pool) (l : Layout) → Bare l → NoMembers (read pool l)
unfolding read
none_read pool (Layout.number w check) h = none_number w check
none_read pool (Layout.sized w check) h = none_then _ _ (none_number w check) (λ k. none_code (value_of w k))
none_read pool (Layout.raw n) h = none_raw n
none_read pool (Layout.index kind) h = none_use pool kind
none_read pool Layout.nothing h = none_nothing
none_read pool (Layout.row a b) h = none_then _ _ (none_read pool a h.0) (λ _. none_read pool b h.1)
none_read pool (Layout.table w l) h = none_then _ _ (none_number w any) (λ k. none_times (value_of w k) (read pool l) (none_read pool l h))
none_read pool (Layout.tagged check branch) h = none_then _ _ (none_number w8 check) (λ tag. none_read pool (branch (value_of w8 tag)) (h (value_of w8 tag)))
none_read pool (Layout.attributes body) h =
    none_then _ _ (none_number w16 any) (λ k. none_times (value_of w16 k) _ (none_attribute pool (λ n name. read pool (body n name)) (λ n name. none_read pool (body n name) (h n name))))
none_read pool (Layout.member l) h = absurd h
none_read pool (Layout.fault kind) h = record { none = λ at s got e. absurd cc }

-- ---- the layouts of attributes

bare_slot : (s : Slot) → Bare (slot_layout s)
bare_slot slots.Number = tt
bare_slot (slots.Index kind) = tt

pub bare_row : (ss : List Slot) → Bare (row_layout ss)
unfolding row_layout
bare_row [] = tt
bare_row (s ∷ ss) = (bare_slot s, bare_row ss)

bare_pick : (b : Bool) (x y : Layout) → Bare x → Bare y → Bare (cond b x y)
bare_pick true x y p q = p
bare_pick false x y p q = q

abbrev BareCases : List Case → Type 0
BareCases [] = Unit {0}
BareCases (c ∷ cs) = Bare c.layout × BareCases cs

bare_cases : (cs : List Case) → BareCases cs → (tag : ℕ) → Bare (tag_branch cs tag)
bare_cases [] h tag = tt
bare_cases (c ∷ cs) h tag = bare_pick (c.holds tag) c.layout (tag_branch cs tag) h.0 (bare_cases cs h.1 tag)

bare_type : Bare verification_type
bare_type = bare_cases (from 0 6 Layout.nothing ∷ at 7 (Layout.index kinds.Class) ∷ at 8 u2 ∷ []) (tt, (tt, (tt, tt)))

bare_frame : Bare frame
bare_frame =
    bare_cases (
    from 0 63 Layout.nothing
    ∷ from 64 127 verification_type
    ∷ at 247 (rows (u2 ∷ verification_type ∷ []))
    ∷ from 248 250 u2
    ∷ at 251 u2
    ∷ at 252 (rows (u2 ∷ verification_type ∷ []))
    ∷ at 253 (rows (u2 ∷ verification_type ∷ verification_type ∷ []))
    ∷ at 254 (rows (u2 ∷ verification_type ∷ verification_type ∷ verification_type ∷ []))
    ∷ at 255 (rows (u2 ∷ many verification_type ∷ many verification_type ∷ []))
    ∷ [])
    (tt, (bare_type, ((tt, (bare_type, tt)), (tt, (tt, ((tt, (bare_type, tt)), ((tt, (bare_type, (bare_type, tt))), ((tt, (bare_type, (bare_type, (bare_type, tt)))), ((tt, (bare_type, (bare_type, tt))), tt)))))))))

bare_element : (n : ℕ) → Bare (element n)
unfolding element
bare_element zero = tt
bare_element (suc n) =
    let inner = bare_element n in
    bare_cases (element_cases (element n)) (tt, (tt, (tt, (tt, (tt, (tt, (tt, (tt, (tt, ((tt, (tt, tt)), (tt, ((tt, (tt, inner)), (inner, tt)))))))))))))

bare_annotation : Bare annotation
bare_annotation = (tt, (tt, bare_element 64))

bare_target : Bare target
bare_target =
    bare_cases (
    from 0 1 u1
    ∷ at 16 u2
    ∷ from 17 18 (rows (u1 ∷ u1 ∷ []))
    ∷ from 19 21 Layout.nothing
    ∷ at 22 u1
    ∷ at 23 u2
    ∷ from 64 65 (table_layout (slots.Number ∷ slots.Number ∷ slots.Number ∷ []))
    ∷ at 66 u2
    ∷ from 67 70 u2
    ∷ from 71 75 (rows (u2 ∷ u1 ∷ []))
    ∷ [])
    (tt, (tt, ((tt, (tt, tt)), (tt, (tt, (tt, (bare_row _, (tt, (tt, ((tt, (tt, tt)), tt))))))))))

bare_type_annotation : Bare type_annotation
bare_type_annotation = (bare_target, ((tt, (tt, tt)), (bare_annotation, tt)))

bare_body : (inner : Location → Layout) → ((p : Location) → Bare (inner p)) → (a : Attribute) (place : Location) (size : ℕ) → Bare ((row_of inner a).body place size)
bare_body inner h attributes.ConstantValue place size = bare_row _
bare_body inner h attributes.Code place size = ((bare_row _, (tt, (bare_row _, tt))), h places.OfCode)
bare_body inner h attributes.StackMapTable place size = bare_frame
bare_body inner h attributes.Exceptions place size = bare_row _
bare_body inner h attributes.InnerClasses place size = bare_row _
bare_body inner h attributes.EnclosingMethod place size = bare_row _
bare_body inner h attributes.Synthetic place size = tt
bare_body inner h attributes.Signature place size = bare_row _
bare_body inner h attributes.SourceFile place size = bare_row _
bare_body inner h attributes.SourceDebugExtension place size = tt
bare_body inner h attributes.LineNumberTable place size = bare_row _
bare_body inner h attributes.LocalVariableTable place size = bare_row _
bare_body inner h attributes.LocalVariableTypeTable place size = bare_row _
bare_body inner h attributes.Deprecated place size = tt
bare_body inner h attributes.RuntimeVisibleAnnotations place size = bare_annotation
bare_body inner h attributes.RuntimeInvisibleAnnotations place size = bare_annotation
bare_body inner h attributes.RuntimeVisibleParameterAnnotations place size = bare_annotation
bare_body inner h attributes.RuntimeInvisibleParameterAnnotations place size = bare_annotation
bare_body inner h attributes.RuntimeVisibleTypeAnnotations place size = bare_type_annotation
bare_body inner h attributes.RuntimeInvisibleTypeAnnotations place size = bare_type_annotation
bare_body inner h attributes.AnnotationDefault place size = bare_element 64
bare_body inner h attributes.BootstrapMethods place size = (bare_row _, (bare_row _, tt))
bare_body inner h attributes.MethodParameters place size = bare_row _
bare_body inner h attributes.Module place size =
    (bare_row _, (bare_row _, ((bare_row _, (bare_row _, tt)), ((bare_row _, (bare_row _, tt)), (bare_row _, ((bare_row _, (bare_row _, tt)), tt))))))
bare_body inner h attributes.ModulePackages place size = bare_row _
bare_body inner h attributes.ModuleMainClass place size = bare_row _
bare_body inner h attributes.NestHost place size = bare_row _
bare_body inner h attributes.NestMembers place size = bare_row _
bare_body inner h attributes.Record place size = (bare_row _, h places.OfComponent)
bare_body inner h attributes.PermittedSubclasses place size = bare_row _

bare_by : (inner : Location → Layout) → ((p : Location) → Bare (inner p)) → (place : Location) (size : ℕ) (a : Option Attribute) → Bare (body_by (row_of inner) place size a)
bare_by inner h place size None = tt
bare_by inner h place size (Some a) = bare_pick (is_among (row_of inner a).places place) ((row_of inner a).body place size) (Layout.raw size) (bare_body inner h a place size) tt

bare_inner : (place : Location) → Bare (inner_attributes place)
bare_inner place = λ size name. bare_by no_attributes (λ p. tt) place size (attribute_named name)

pub bare_attributes : (place : Location) → Bare (attributes_of place)
bare_attributes place = λ size name. bare_by inner_attributes bare_inner place size (attribute_named name)
