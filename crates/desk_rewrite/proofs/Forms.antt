-- Images of texts by role keep forms, and are their own images.
use Rattle.std.proofs.Common.{◌≡◌, Bool, true, false, ◌&&◌, ◌||◌, Option, Some, None, refl}
use Rattle.std.specs.Prelude.{unwrap_or}
use Rattle.std.specs.FinMap as finite
use Rattle.std.proofs.lemmas.Bool.{and_parts, and_from, or_left, or_right}
use Rattle.desk_base.specs.Names.{Text, is_class_name}
use Rattle.desk_base.specs.Utf8.{bad_form}
use Rattle.desk_base.specs.Descriptors.{DescriptorKind, is_descriptor}
use Rattle.desk_base.specs.Signatures.{SignatureKind}
use Rattle.desk_base.specs.Referents.{begins_array, has_form, goes_with}
use Rattle.desk_base.specs.declared.kinds.Role.{Role}
use Rattle.desk_base.specs.declared.kinds.Role.TheVariants as roles
use Rattle.desk_base.specs.declared.referents.Form.{Form}
use Rattle.desk_base.specs.declared.referents.Form.TheVariants as forms
use Rattle.desk_format.specs.Resolved.{image}
use Rattle.desk_laws.specs.Classes.{IsSettled}
use Rattle.desk_laws.specs.NewPools.{KeepsForms}
use Rattle.desk_rules.specs.Images.{renamed_string, str}
use Rattle.desk_rules.specs.Rules.{Rules}
use Rattle.desk_rules.specs.RuleSets.{IsRuleSet}
use Rattle.desk_rules.proofs.Laws.{packages_stay, strings_stay}
use Rattle.desk_rename.specs.Images.{desc, cls}
use Rattle.desk_rename.specs.Laws.{IsSettledRenames, ClassImages, DescriptorImages}
use Rattle.desk_rename.proofs.ImageLaws.{package_laws, class_laws, descriptor_laws, signature_laws}
use Rattle.desk_rename.proofs.Utf8Images.{utf8_laws}
use Rattle.desk_follow.specs.RuleImages.{images_of}

settled_renames : (rules : Rules) → IsRuleSet rules → IsSettledRenames rules.renames
settled_renames rules is = record { formed = is.formed; packages = packages_stay rules is }

-- either of two
either : (a b c : Bool) → (a ≡ true → c ≡ true) → (b ≡ true → c ≡ true) → (a || b) ≡ true → c ≡ true
either true b c f g h = f refl
either false b c f g h = g h

-- ---- forms

class_or_array : (rules : Rules) → ClassImages rules.renames → (t : Text) → (is_class_name t || (begins_array t && is_descriptor DescriptorKind.field t)) ≡ true
    → (is_class_name (cls rules.renames t) || (begins_array (cls rules.renames t) && is_descriptor DescriptorKind.field (cls rules.renames t))) ≡ true
class_or_array rules laws t h =
    either (is_class_name t) (begins_array t && is_descriptor DescriptorKind.field t) _
    (λ named. or_left _ _ (laws.named t named).named)
    (λ array. let p = and_parts _ _ array in or_right _ _ (and_from _ _ (laws.array t p.0) (laws.array_form t p.0 p.1)))
    h

field_or_method : (rules : Rules) → DescriptorImages rules.renames → (t : Text) → (is_descriptor DescriptorKind.field t || is_descriptor DescriptorKind.method t) ≡ true
    → (is_descriptor DescriptorKind.field (desc rules.renames t) || is_descriptor DescriptorKind.method (desc rules.renames t)) ≡ true
field_or_method rules laws t h =
    either (is_descriptor DescriptorKind.field t) (is_descriptor DescriptorKind.method t) _
    (λ field. or_left _ _ (laws.form DescriptorKind.field t field))
    (λ method. or_right _ _ (laws.form DescriptorKind.method t method))
    h

keeps : (rules : Rules) → IsRuleSet rules → (role : Role) (form : Form) (t : Text) → goes_with role form ≡ true → has_form form t ≡ true → has_form form (image (images_of rules) role t) ≡ true
unfolding has_form
keeps rules is role forms.Any t g h = refl
keeps rules is roles.Class forms.ClassName t g h = ((class_laws rules.renames (settled_renames rules is)).named t h).named
keeps rules is roles.Class forms.ClassOrArray t g h = class_or_array rules (class_laws rules.renames (settled_renames rules is)) t h
keeps rules is roles.Package forms.ClassName t g h = (package_laws rules.renames (settled_renames rules is)).form t h
keeps rules is roles.Descriptor forms.Field t g h = (descriptor_laws rules.renames (settled_renames rules is)).form DescriptorKind.field t h
keeps rules is roles.Descriptor forms.Method t g h = (descriptor_laws rules.renames (settled_renames rules is)).form DescriptorKind.method t h
keeps rules is roles.Descriptor forms.FieldOrMethod t g h = field_or_method rules (descriptor_laws rules.renames (settled_renames rules is)) t h
keeps rules is roles.Descriptor forms.Return t g h = (descriptor_laws rules.renames (settled_renames rules is)).form DescriptorKind.return t h
keeps rules is _ _ t g h = absurd cc

-- ---- modified UTF-8

string_utf8 : (rules : Rules) → IsRuleSet rules → (t : Text) → bad_form t ≡ None → bad_form (str rules t) ≡ None
string_utf8 rules is t h =
    elim (finite.get rules.direct t) as (λ (o : Option Text). finite.get rules.direct t ≡ o → bad_form (unwrap_or o (renamed_string rules.renames t)) ≡ None) [
      | None ↦ λ q. (utf8_laws rules.renames is.utf8).strings t h
      | Some value ↦ λ q. is.direct_utf8 t value q
    ] refl

stays_utf8 : (rules : Rules) → IsRuleSet rules → (role : Role) (t : Text) → bad_form t ≡ None → bad_form (image (images_of rules) role t) ≡ None
stays_utf8 rules is roles.Class t h = (utf8_laws rules.renames is.utf8).classes t h
stays_utf8 rules is roles.Package t h = (utf8_laws rules.renames is.utf8).packages t h
stays_utf8 rules is roles.Module t h = h
stays_utf8 rules is roles.Descriptor t h = (utf8_laws rules.renames is.utf8).descriptors t h
stays_utf8 rules is roles.ClassSig t h = (utf8_laws rules.renames is.utf8).signatures SignatureKind.class t h
stays_utf8 rules is roles.MethodSig t h = (utf8_laws rules.renames is.utf8).signatures SignatureKind.method t h
stays_utf8 rules is roles.FieldSig t h = (utf8_laws rules.renames is.utf8).signatures SignatureKind.field t h
stays_utf8 rules is roles.Str t h = string_utf8 rules is t h
stays_utf8 rules is roles.Plain t h = h
stays_utf8 rules is roles.AttrName t h = h

pub forms_kept : (rules : Rules) → IsRuleSet rules → KeepsForms (images_of rules)
forms_kept rules is = record { keeps = keeps rules is; utf8 = stays_utf8 rules is }

-- ---- images of images

again : (rules : Rules) → IsRuleSet rules → (role : Role) (t : Text) → image (images_of rules) role (image (images_of rules) role t) ≡ image (images_of rules) role t
again rules is roles.Class t = (class_laws rules.renames (settled_renames rules is)).again t
again rules is roles.Package t = (package_laws rules.renames (settled_renames rules is)).again t
again rules is roles.Module t = refl
again rules is roles.Descriptor t = (descriptor_laws rules.renames (settled_renames rules is)).again t
again rules is roles.ClassSig t = (signature_laws rules.renames (settled_renames rules is)).again SignatureKind.class t
again rules is roles.MethodSig t = (signature_laws rules.renames (settled_renames rules is)).again SignatureKind.method t
again rules is roles.FieldSig t = (signature_laws rules.renames (settled_renames rules is)).again SignatureKind.field t
again rules is roles.Str t = strings_stay rules is t
again rules is roles.Plain t = refl
again rules is roles.AttrName t = refl

pub images_settled : (rules : Rules) → IsRuleSet rules → IsSettled (images_of rules)
images_settled rules is = record { again = again rules is }
