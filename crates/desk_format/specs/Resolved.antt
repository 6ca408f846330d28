-- A body with each index exchanged for what it leads to, and that tree renamed.
use Rattle.desk_base.specs.Names.{Text}
use Rattle.desk_base.specs.declared.kinds.Role.{Role}
use Rattle.desk_base.specs.declared.kinds.Role.TheVariants as roles
use Rattle.desk_base.specs.Entries.{Pool}
use Rattle.desk_format.specs.Values.{Value, value_of_kind}
use Rattle.desk_format.specs.Values.{none, text, text_as, number, class_named, string_of, named_typed, member, handle, method_typed, computed, module_called, package_called}
use Rattle.desk_format.specs.Trees.{Tree, Use, map_tree}

abbrev pub value : Pool → Use → Value
value pool u = value_of_kind pool u.kind u.index

abbrev pub resolved : Pool → Tree Use → Tree Value
resolved pool = map_tree (value pool)

-- The image of a text in each role that has one: a class name or array, a package, a descriptor, the three kinds of
-- signatures, and a string.
pub record Images : Type 0 where
  pub cls : Text → Text
  pub pkg : Text → Text
  pub desc : Text → Text
  pub class_sig : Text → Text
  pub method_sig : Text → Text
  pub field_sig : Text → Text
  pub str : Text → Text

-- A module's name, a plain text and an attribute's name stay.
abbrev pub image : Images → Role → Text → Text
image im roles.Class t = im.cls t
image im roles.Package t = im.pkg t
image im roles.Module t = t
image im roles.Descriptor t = im.desc t
image im roles.ClassSig t = im.class_sig t
image im roles.MethodSig t = im.method_sig t
image im roles.FieldSig t = im.field_sig t
image im roles.Str t = im.str t
image im roles.Plain t = t
image im roles.AttrName t = t

-- each text of a value by its role; a text by itself has none
abbrev pub renamed_value : Images → Value → Value
renamed_value im none = none
renamed_value im (text t) = text t
renamed_value im (text_as role t) = text_as role (image im role t)
renamed_value im (number tag bytes) = number tag bytes
renamed_value im (class_named t) = class_named (im.cls t)
renamed_value im (string_of t) = string_of (im.str t)
renamed_value im (named_typed n d) = named_typed n (im.desc d)
renamed_value im (member tag c n) = member tag (renamed_value im c) (renamed_value im n)
renamed_value im (handle kind v) = handle kind (renamed_value im v)
renamed_value im (method_typed d) = method_typed (im.desc d)
renamed_value im (computed tag n v) = computed tag n (renamed_value im v)
renamed_value im (module_called t) = module_called t
renamed_value im (package_called t) = package_called (im.pkg t)

abbrev pub renamed : Images → Tree Value → Tree Value
renamed im = map_tree (renamed_value im)
