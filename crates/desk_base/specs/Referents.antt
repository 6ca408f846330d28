-- What an index must name: one notion for the links between a pool's entries and for the uses of a class's body.
use Rattle.std.specs.Prelude.{ℕ, Bool, true, false, ◌&&◌, ◌||◌, List, [], ◌∷◌, Option, Some, None, nat_lt, nat_eq, ◌==◌, if◌then◌else◌}
use Rattle.desk_base.specs.declared.kinds.Tag.{Tag}
use Rattle.desk_base.specs.declared.kinds.Tag.TheVariants as tags
use Rattle.desk_base.specs.declared.kinds.Role.{Role}
use Rattle.desk_base.specs.declared.kinds.Role.TheVariants as roles
use Rattle.desk_base.specs.declared.kinds.UseKind.{UseKind}
use Rattle.desk_base.specs.declared.kinds.UseKind.TheVariants as kinds
use Rattle.desk_base.specs.declared.referents.Form.{Form}
use Rattle.desk_base.specs.declared.referents.Form.TheVariants as forms
use Rattle.desk_base.specs.declared.referents.Choice.{Choice}
use Rattle.desk_base.specs.declared.referents.Choice.TheVariants as choices
use Rattle.desk_base.specs.declared.referents.Referent.{Referent}
use Rattle.desk_base.specs.declared.referents.Referent.TheVariants as referents
use Rattle.desk_base.specs.Names.{Text, is_class_name}
use Rattle.desk_base.specs.Descriptors.{DescriptorKind, is_descriptor}
use Rattle.desk_base.specs.Entries.{Entry, class, string, fieldref, methodref, interface_methodref, name_and_type, method_handle, method_type, dynamic, invoke_dynamic, module_named, package_named, number_of, Pool, text_at, class_name_at, descriptor_at}

-- Forms of texts

-- whether a text begins with `[`
abbrev pub begins_array : Text → Bool
begins_array [] = false
begins_array (b ∷ t) = b == 91

-- whether a text has a form
unfoldable pub has_form : Form → Text → Bool
has_form forms.Any t = true
has_form forms.ClassName t = is_class_name t
has_form forms.ClassOrArray t = is_class_name t || (begins_array t && is_descriptor DescriptorKind.field t)
has_form forms.Field t = is_descriptor DescriptorKind.field t
has_form forms.Method t = is_descriptor DescriptorKind.method t
has_form forms.FieldOrMethod t = is_descriptor DescriptorKind.field t || is_descriptor DescriptorKind.method t
has_form forms.Return t = is_descriptor DescriptorKind.return t

-- which forms the texts of a role may have to have
abbrev pub goes_with : Role → Form → Bool
goes_with _ forms.Any = true
goes_with roles.Class forms.ClassName = true
goes_with roles.Class forms.ClassOrArray = true
goes_with roles.Package forms.ClassName = true
goes_with roles.Descriptor forms.Field = true
goes_with roles.Descriptor forms.Method = true
goes_with roles.Descriptor forms.FieldOrMethod = true
goes_with roles.Descriptor forms.Return = true
goes_with _ _ = false

-- Fitting entries

-- the same tag
abbrev pub is_tag : Tag → Tag → Bool
is_tag wanted tag = nat_eq (number_of wanted) (number_of tag)

abbrev pub is_constant : Tag → Bool
is_constant tags.Integer = true
is_constant tags.Float = true
is_constant tags.Long = true
is_constant tags.Double = true
is_constant tags.String = true
is_constant _ = false

abbrev pub is_loadable : Tag → Bool
is_loadable tags.Integer = true
is_loadable tags.Float = true
is_loadable tags.Long = true
is_loadable tags.Double = true
is_loadable tags.Class = true
is_loadable tags.String = true
is_loadable tags.MethodHandle = true
is_loadable tags.MethodType = true
is_loadable tags.Dynamic = true
is_loadable _ = false

abbrev pub is_any_method : Tag → Bool
is_any_method tags.Methodref = true
is_any_method tags.InterfaceMethodref = true
is_any_method _ = false

abbrev pub is_chosen : Choice → Tag → Bool
is_chosen (choices.Only wanted) tag = is_tag wanted tag
is_chosen choices.Constant tag = is_constant tag
is_chosen choices.Loadable tag = is_loadable tag
is_chosen choices.AnyMethod tag = is_any_method tag

-- whether entries of a tag fit a referent
abbrev pub allows : Referent → Tag → Bool
allows (referents.Text role form) tag = is_tag tags.Utf8 tag
allows (referents.Class form) tag = is_tag tags.Class tag
allows (referents.NameAndType form) tag = is_tag tags.NameAndType tag
allows (referents.Entry choice) tag = is_chosen choice tag

-- whether an index that names an entry of a tag, or none, fits a referent
abbrev pub fits : Referent → Option Tag → Bool
fits referent None = false
fits referent (Some tag) = allows referent tag

-- the form that a referent asks of the text that it leads to
abbrev pub form_of : Referent → Form
form_of (referents.Text role form) = form
form_of (referents.Class form) = form
form_of (referents.NameAndType form) = form
form_of (referents.Entry choice) = forms.Any

-- the text that has this form
abbrev pub text_led_to : Referent → Pool → ℕ → Text
text_led_to (referents.Text role form) pool i = text_at pool i
text_led_to (referents.Class form) pool i = class_name_at pool i
text_led_to (referents.NameAndType form) pool i = descriptor_at pool i
text_led_to (referents.Entry choice) pool i = []

-- The links of an entry (JVMS 4.4.1 to 4.4.12)

-- an index of an entry: how many bytes behind the tag it stands, what it must name, and its value
pub record Link : Type 0 where
  pub behind : ℕ
  pub referent : Referent
  pub index : ℕ

abbrev pub link : ℕ → Referent → ℕ → Link
link behind referent index = record { behind = behind; referent = referent; index = index }

-- which member a method handle of a kind must name (JVMS 4.4.8)
abbrev pub handled : ℕ → Referent
handled kind =
    if nat_lt kind 5 then referents.Entry (choices.Only tags.Fieldref)
    else if kind == 5 || kind == 8 then referents.Entry (choices.Only tags.Methodref)
    else if kind == 9 then referents.Entry (choices.Only tags.InterfaceMethodref)
    else referents.Entry choices.AnyMethod

abbrev pub links : Entry → List Link
links (class i) = link 1 (referents.Text roles.Class forms.ClassOrArray) i ∷ []
links (string i) = link 1 (referents.Text roles.Str forms.Any) i ∷ []
links (fieldref c n) = link 1 (referents.Class forms.Any) c ∷ link 3 (referents.NameAndType forms.Field) n ∷ []
links (methodref c n) = link 1 (referents.Class forms.Any) c ∷ link 3 (referents.NameAndType forms.Method) n ∷ []
links (interface_methodref c n) = link 1 (referents.Class forms.Any) c ∷ link 3 (referents.NameAndType forms.Method) n ∷ []
links (name_and_type n d) = link 1 (referents.Text roles.Plain forms.Any) n ∷ link 3 (referents.Text roles.Descriptor forms.FieldOrMethod) d ∷ []
links (method_handle k i) = link 2 (handled k) i ∷ []
links (method_type d) = link 1 (referents.Text roles.Descriptor forms.Method) d ∷ []
links (dynamic n i) = link 3 (referents.NameAndType forms.Field) i ∷ []
links (invoke_dynamic n i) = link 3 (referents.NameAndType forms.Method) i ∷ []
links (module_named i) = link 1 (referents.Text roles.Module forms.Any) i ∷ []
links (package_named i) = link 1 (referents.Text roles.Package forms.ClassName) i ∷ []
links _ = []

-- The use kinds of a body

abbrev pub referent_of : UseKind → Referent
referent_of kinds.Plain = referents.Text roles.Plain forms.Any
referent_of kinds.PlainOrNone = referents.Text roles.Plain forms.Any
referent_of kinds.AttrName = referents.Text roles.AttrName forms.Any
referent_of kinds.FieldDescriptor = referents.Text roles.Descriptor forms.Field
referent_of kinds.MethodDescriptor = referents.Text roles.Descriptor forms.Method
referent_of kinds.ReturnDescriptor = referents.Text roles.Descriptor forms.Return
referent_of kinds.ClassSig = referents.Text roles.ClassSig forms.Any
referent_of kinds.MethodSig = referents.Text roles.MethodSig forms.Any
referent_of kinds.FieldSig = referents.Text roles.FieldSig forms.Any
referent_of kinds.Str = referents.Text roles.Str forms.Any
referent_of kinds.ClassName = referents.Class forms.ClassName
referent_of kinds.ClassNameOrNone = referents.Class forms.ClassName
referent_of kinds.Class = referents.Class forms.Any
referent_of kinds.ClassOrNone = referents.Class forms.Any
referent_of kinds.NameAndTypeOrNone = referents.NameAndType forms.Any
referent_of kinds.Module = referents.Entry (choices.Only tags.Module)
referent_of kinds.Package = referents.Entry (choices.Only tags.Package)
referent_of kinds.Constant = referents.Entry choices.Constant
referent_of kinds.Integer = referents.Entry (choices.Only tags.Integer)
referent_of kinds.Float = referents.Entry (choices.Only tags.Float)
referent_of kinds.Long = referents.Entry (choices.Only tags.Long)
referent_of kinds.Double = referents.Entry (choices.Only tags.Double)
referent_of kinds.Loadable = referents.Entry choices.Loadable
referent_of kinds.MethodHandle = referents.Entry (choices.Only tags.MethodHandle)

-- whether index 0 is allowed, which names nothing
abbrev pub may_be_none : UseKind → Bool
may_be_none kinds.PlainOrNone = true
may_be_none kinds.ClassNameOrNone = true
may_be_none kinds.ClassOrNone = true
may_be_none kinds.NameAndTypeOrNone = true
may_be_none _ = false
