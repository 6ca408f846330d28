-- The attributes of a class or a field hold no code array, and those of no place hold a member.
use Rattle.std.proofs.Common.{◌≡◌, ℕ, zero, suc, Bool, true, false, cond, List, [], ◌∷◌, Option, Some, None, refl, sym, ap, ◌∙◌}
use Rattle.desk_base.specs.declared.kinds.UseKind.TheVariants as kinds
use Rattle.desk_format.specs.declared.attributes.Attribute.{Attribute}
use Rattle.desk_format.specs.declared.attributes.Attribute.TheVariants as attributes
use Rattle.desk_format.specs.declared.attributes.Location.{Location}
use Rattle.desk_format.specs.declared.attributes.Location.TheVariants as locations
use Rattle.desk_format.specs.declared.attributes.Slot.{Slot}
use Rattle.desk_format.specs.declared.attributes.Slot.TheVariants as slots
use Rattle.desk_format.specs.Layouts.{Layout}
use Rattle.desk_format.specs.Rows.{u1, u2, rows, many, row_layout, table_layout, Case, at, from, tag_branch}
use Rattle.desk_format.specs.Frames.{frame, verification_type}
use Rattle.desk_format.specs.Annotations.{annotation_of, annotation, element, element_cases, element_value, type_annotation, target}
use Rattle.desk_format.specs.Attributes.{row_of, no_attributes, attribute_named, is_place, is_among, body_by, inner_attributes, attributes_of}
use Rattle.desk_code.proofs.BareTrees.{BareLayout}

-- the cases of the tags
abbrev type_cases : List Case
type_cases = (from 0 6 Layout.nothing ∷ at 7 (Layout.index kinds.Class) ∷ at 8 u2 ∷ [])

abbrev frame_cases : List Case
frame_cases = (
    from 0 63 Layout.nothing
    ∷ from 64 127 verification_type
    ∷ at 247 (rows (u2 ∷ verification_type ∷ []))
    ∷ from 248 250 u2
    ∷ at 251 u2
    ∷ at 252 (rows (u2 ∷ verification_type ∷ []))
    ∷ at 253 (rows (u2 ∷ verification_type ∷ verification_type ∷ []))
    ∷ at 254 (rows (u2 ∷ verification_type ∷ verification_type ∷ verification_type ∷ []))
    ∷ at 255 (rows (u2 ∷ many verification_type ∷ many verification_type ∷ []))
    ∷ [])

abbrev target_cases : List Case
target_cases = (
    from 0 1 u1
    ∷ at 16 u2
    ∷ from 17 18 (rows (u1 ∷ u1 ∷ []))
    ∷ from 19 21 Layout.nothing
    ∷ at 22 u1
    ∷ at 23 u2
    ∷ from 64 65 (table_layout (slots.Number ∷ slots.Number ∷ slots.Number ∷ []))
    ∷ at 66 u2
    ∷ from 67 70 u2
    ∷ from 71 75 (rows (u2 ∷ u1 ∷ []))
    ∷ [])

module _ (allow : Bool) where
  pub bare_slots : (ss : List Slot) → BareLayout allow (row_layout ss)
  unfolding row_layout
  bare_slots [] = tt
  bare_slots (slots.Number ∷ ss) = (tt, bare_slots ss)
  bare_slots (slots.Index kind ∷ ss) = (tt, bare_slots ss)

  -- each case of a tag
  abbrev Cases : List Case → Type 0
  Cases [] = Unit {0}
  Cases (c ∷ cs) = BareLayout allow c.layout × Cases cs

  bare_test : (b : Bool) (x y : Layout) → BareLayout allow x → BareLayout allow y → BareLayout allow (cond b x y)
  bare_test true x y h k = h
  bare_test false x y h k = k

  bare_branch : (cs : List Case) → Cases cs → (n : ℕ) → BareLayout allow (tag_branch cs n)
  bare_branch [] h n = tt
  bare_branch (c ∷ cs) h n = bare_test (c.holds n) c.layout (tag_branch cs n) h.0 (bare_branch cs h.1 n)

  bare_type : BareLayout allow verification_type
  bare_type n = bare_branch type_cases (tt, (tt, (tt, tt))) n

  bare_frame : BareLayout allow frame
  bare_frame n = bare_branch frame_cases (tt, (bare_type, ((tt, (bare_type, tt)), (tt, (tt, ((tt, (bare_type, tt)), ((tt, (bare_type, (bare_type, tt))), ((tt, (bare_type, (bare_type, (bare_type, tt)))), ((tt, (bare_type, (bare_type, tt))), tt))))))))) n

  bare_annotation : (value : Layout) → BareLayout allow value → BareLayout allow (annotation_of value)
  bare_annotation value h = (tt, (tt, h))

  bare_element : (levels : ℕ) → BareLayout allow (element levels)
  unfolding element
  bare_element zero = tt
  bare_element (suc levels) = λ n. bare_branch (element_cases (element levels)) (tt, (tt, (tt, (tt, (tt, (tt, (tt, (tt, (tt, ((tt, (tt, tt)), (tt, (bare_annotation (element levels) (bare_element levels), (bare_element levels, tt))))))))))))) n

  bare_target : BareLayout allow target
  bare_target n = bare_branch target_cases (tt, (tt, ((tt, (tt, tt)), (tt, (tt, (tt, (bare_slots _, (tt, (tt, ((tt, (tt, tt)), tt)))))))))) n

  annotated : BareLayout allow annotation
  annotated = bare_annotation element_value (bare_element 64)

  type_annotated : BareLayout allow type_annotation
  type_annotated = (bare_target, ((tt, (tt, tt)), (annotated, tt)))

  -- the body of an attribute, where code may stand if it is that of a Code
  abbrev MayHold : Attribute → Type 0
  MayHold attributes.Code = allow ≡ true
  MayHold _ = Unit {0}

  bare_body : (inner : Location → Layout) → BareLayout allow (inner locations.OfCode) → BareLayout allow (inner locations.OfComponent) → (a : Attribute) → MayHold a → (place : Location) (size : ℕ) → BareLayout allow ((row_of inner a).body place size)
  bare_body inner h k attributes.ConstantValue m place size = bare_slots _
  bare_body inner h k attributes.Code m place size = ((bare_slots _, (m, (bare_slots _, tt))), h)
  bare_body inner h k attributes.StackMapTable m place size = bare_frame
  bare_body inner h k attributes.Exceptions m place size = bare_slots _
  bare_body inner h k attributes.InnerClasses m place size = bare_slots _
  bare_body inner h k attributes.EnclosingMethod m place size = bare_slots _
  bare_body inner h k attributes.Synthetic m place size = tt
  bare_body inner h k attributes.Signature m place size = bare_slots _
  bare_body inner h k attributes.SourceFile m place size = bare_slots _
  bare_body inner h k attributes.SourceDebugExtension m place size = tt
  bare_body inner h k attributes.LineNumberTable m place size = bare_slots _
  bare_body inner h k attributes.LocalVariableTable m place size = bare_slots _
  bare_body inner h k attributes.LocalVariableTypeTable m place size = bare_slots _
  bare_body inner h k attributes.Deprecated m place size = tt
  bare_body inner h k attributes.RuntimeVisibleAnnotations m place size = annotated
  bare_body inner h k attributes.RuntimeInvisibleAnnotations m place size = annotated
  bare_body inner h k attributes.RuntimeVisibleParameterAnnotations m place size = annotated
  bare_body inner h k attributes.RuntimeInvisibleParameterAnnotations m place size = annotated
  bare_body inner h k attributes.RuntimeVisibleTypeAnnotations m place size = type_annotated
  bare_body inner h k attributes.RuntimeInvisibleTypeAnnotations m place size = type_annotated
  bare_body inner h k attributes.AnnotationDefault m place size = bare_element 64
  bare_body inner h k attributes.BootstrapMethods m place size = (bare_slots _, (bare_slots _, tt))
  bare_body inner h k attributes.MethodParameters m place size = bare_slots _
  bare_body inner h k attributes.Module m place size = (bare_slots _, (bare_slots _, ((bare_slots _, (bare_slots _, tt)), ((bare_slots _, (bare_slots _, tt)), (bare_slots _, ((bare_slots _, (bare_slots _, tt)), tt))))))
  bare_body inner h k attributes.ModulePackages m place size = bare_slots _
  bare_body inner h k attributes.ModuleMainClass m place size = bare_slots _
  bare_body inner h k attributes.NestHost m place size = bare_slots _
  bare_body inner h k attributes.NestMembers m place size = bare_slots _
  bare_body inner h k attributes.Record m place size = (bare_slots _, k)
  bare_body inner h k attributes.PermittedSubclasses m place size = bare_slots _

  may_hold : (a : Attribute) (place : Location) → (is_place locations.OfMethod place ≡ true → allow ≡ true) → is_among (row_of no_attributes a).places place ≡ true → MayHold a
  may_hold attributes.Code locations.OfMethod k h = k refl
  may_hold attributes.Code locations.OfClass k h = absurd cc
  may_hold attributes.Code locations.OfField k h = absurd cc
  may_hold attributes.Code locations.OfCode k h = absurd cc
  may_hold attributes.Code locations.OfComponent k h = absurd cc
  may_hold _ place k h = tt

  bare_at : (inner : Location → Layout) → BareLayout allow (inner locations.OfCode) → BareLayout allow (inner locations.OfComponent) → (place : Location) → (is_place locations.OfMethod place ≡ true → allow ≡ true) → (size : ℕ) (o : Option Attribute) → BareLayout allow (body_by (row_of inner) place size o)
  bare_at inner h g place k size None = tt
  bare_at inner h g place k size (Some a) = by_test (is_among (row_of inner a).places place) refl where
    same : (a : Attribute) → (row_of inner a).places ≡ (row_of no_attributes a).places
    same attributes.Code = refl
    same attributes.Record = refl
    same _ = refl

    by_test : (b : Bool) → is_among (row_of inner a).places place ≡ b → BareLayout allow (cond b ((row_of inner a).body place size) (Layout.raw size))
    by_test true e = bare_body inner h g a (may_hold a place k (ap (λ (ps : List Location). is_among ps place) (sym (same a)) ∙ e)) place size
    by_test false e = tt

-- the attributes in a Code or in a component
bare_inner : (allow : Bool) (place : Location) → (is_place locations.OfMethod place ≡ true → allow ≡ true) → BareLayout allow (inner_attributes place)
bare_inner allow place k = λ size name. bare_at allow no_attributes tt tt place k size (attribute_named name)

pub bare_attributes : (allow : Bool) (place : Location) → (is_place locations.OfMethod place ≡ true → allow ≡ true) → BareLayout allow (attributes_of place)
bare_attributes allow place k =
    λ size name. bare_at allow inner_attributes (bare_inner allow locations.OfCode (λ e. absurd cc)) (bare_inner allow locations.OfComponent (λ e. absurd cc)) place k size (attribute_named name)
