-- The laws of images.
use Rattle.std.specs.Prelude.{◌≡◌, List, None, true, IsTrue}
use Rattle.std.specs.List.{list_all}
use Rattle.desk_base.specs.Utf8.{bad_form}
use Rattle.desk_rules.specs.Images.{dotted, renamed_string}
use Rattle.desk_base.specs.Names.{Text, segments, front, simple, is_class_name, slash}
use Rattle.desk_base.specs.Descriptors.{Descriptor, DescriptorKind, IsDescriptor, is_descriptor, print, renamed}
use Rattle.desk_base.specs.Signatures.{Signature, SignatureKind, IsSignature, print_signature, map_signature}
use Rattle.desk_base.specs.Referents.{begins_array}
use Rattle.desk_names.specs.Laws.{HasNoDescriptor, HasNoSignature}
use Rattle.desk_names.specs.SignatureScan.{is_sound_signature}
use Rattle.desk_packages.specs.Renames.{Renaming, pkg, is_rename}
use Rattle.desk_rules.specs.RuleSets.{PackagesStay}
pub use Rattle.desk_rules.specs.RuleSets.{HaveUtf8Targets}
use Rattle.desk_rename.specs.Images.{package_image, repackaged, desc, cls, sig}

-- what is known of the renames of a rule set: sources and targets are packages, and the image of a package is its own image
pub record IsSettledRenames (renames : List Renaming) : Type 0 where
  pub formed : IsTrue (list_all is_rename renames)
  pub packages : PackagesStay renames

-- ---- packages

pub record PackageImages (renames : List Renaming) : Type 0 where
  pub again : (text : Text) → package_image renames (package_image renames text) ≡ package_image renames text
  pub form : (text : Text) → is_class_name text ≡ true → is_class_name (package_image renames text) ≡ true

-- ---- class names

-- the image of a class name is a class name: the image of its package, and its own last part
pub record IsClassImage (renames : List Renaming) (text image : Text) : Type 0 where
  pub named : is_class_name image ≡ true
  pub package_is : front (segments slash image) ≡ pkg renames (front (segments slash text))
  pub last_is : simple (segments slash image) ≡ simple (segments slash text)

-- An image is its own image. Class names stay class names, and arrays of a descriptor's form keep that.
pub record ClassImages (renames : List Renaming) : Type 0 where
  pub again : (text : Text) → cls renames (cls renames text) ≡ cls renames text
  pub named : (text : Text) → is_class_name text ≡ true → IsClassImage renames text (cls renames text)
  pub array : (text : Text) → begins_array text ≡ true → begins_array (cls renames text) ≡ true
  pub array_form : (text : Text) → begins_array text ≡ true → is_descriptor DescriptorKind.field text ≡ true → is_descriptor DescriptorKind.field (cls renames text) ≡ true

-- ---- descriptors

-- The image of a descriptor is the text of its tree with the image of each class name, and has its kind; the image of any
-- other text is that text; and an image is its own image.
pub record DescriptorImages (renames : List Renaming) : Type 0 where
  pub tree : (kind : DescriptorKind) (text : Text) (d : Descriptor) → IsDescriptor kind text d → desc renames text ≡ print (renamed (cls renames) d)
  pub other : (text : Text) → ((kind : DescriptorKind) → HasNoDescriptor kind text) → desc renames text ≡ text
  pub again : (text : Text) → desc renames (desc renames text) ≡ desc renames text
  pub form : (kind : DescriptorKind) (text : Text) → is_descriptor kind text ≡ true → is_descriptor kind (desc renames text) ≡ true

-- ---- signatures

-- The image of a signature is the text of its tree with each package specifier exchanged, and is a signature of its kind; the
-- image of any other text is that text; and an image is its own image.
pub record SignatureImages (renames : List Renaming) : Type 0 where
  pub tree : (kind : SignatureKind) (text : Text) (s : Signature) → IsSignature kind text s → sig renames kind text ≡ print_signature (map_signature (repackaged renames) s)
  pub other : (kind : SignatureKind) (text : Text) → HasNoSignature kind text → sig renames kind text ≡ text
  pub again : (kind : SignatureKind) (text : Text) → sig renames kind (sig renames kind text) ≡ sig renames kind text
  pub form : (kind : SignatureKind) (text : Text) → is_sound_signature kind text ≡ true → is_sound_signature kind (sig renames kind text) ≡ true

-- ---- modified UTF-8 (JVMS 4.4.7)

-- the images of modified UTF-8 are modified UTF-8
pub record Utf8Images (renames : List Renaming) : Type 0 where
  pub packages : (text : Text) → bad_form text ≡ None → bad_form (package_image renames text) ≡ None
  pub classes : (text : Text) → bad_form text ≡ None → bad_form (cls renames text) ≡ None
  pub dotted_names : (text : Text) → bad_form text ≡ None → bad_form (dotted renames text) ≡ None
  pub strings : (text : Text) → bad_form text ≡ None → bad_form (renamed_string renames text) ≡ None
  pub descriptors : (text : Text) → bad_form text ≡ None → bad_form (desc renames text) ≡ None
  pub signatures : (kind : SignatureKind) (text : Text) → bad_form text ≡ None → bad_form (sig renames kind text) ≡ None

-- ---- of all rule sets

abbrev pub EachUtf8 : Type 0
EachUtf8 = (renames : List Renaming) → HaveUtf8Targets renames → Utf8Images renames

abbrev pub EachPackage : Type 0
EachPackage = (renames : List Renaming) → IsSettledRenames renames → PackageImages renames

abbrev pub EachClass : Type 0
EachClass = (renames : List Renaming) → IsSettledRenames renames → ClassImages renames

abbrev pub EachDescriptor : Type 0
EachDescriptor = (renames : List Renaming) → IsSettledRenames renames → DescriptorImages renames

abbrev pub EachSignature : Type 0
EachSignature = (renames : List Renaming) → IsSettledRenames renames → SignatureImages renames
