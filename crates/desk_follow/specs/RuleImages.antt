-- The images of the texts of a class under a rule set.
use Rattle.desk_base.specs.Signatures.{SignatureKind}
use Rattle.desk_format.specs.Resolved.{Images}
use Rattle.desk_rules.specs.Rules.{Rules}
use Rattle.desk_rules.specs.Images.{str}
use Rattle.desk_rename.specs.Images.{package_image, cls, desc, sig}

abbrev pub images_of : Rules → Images
images_of rules = record {
  cls = cls rules.renames;
  pkg = package_image rules.renames;
  desc = desc rules.renames;
  class_sig = sig rules.renames SignatureKind.class;
  method_sig = sig rules.renames SignatureKind.method;
  field_sig = sig rules.renames SignatureKind.field;
  str = str rules;
}
