-- Images of the texts of class files.
use Rattle.std.specs.Prelude.{Bool, ◌||◌, List, if◌then◌else◌}
use Rattle.desk_base.specs.Names.{Text, segments, written, is_part, slash}
use Rattle.desk_base.specs.Descriptors.{DescriptorKind, is_descriptor}
use Rattle.desk_base.specs.Signatures.{SignatureKind}
use Rattle.desk_base.specs.Referents.{begins_array}
use Rattle.desk_names.specs.Pieces.{joined, pieces}
use Rattle.desk_names.specs.SignatureScan.{is_sound_signature}
use Rattle.desk_names.specs.SignaturePieces.{sig_pieces}
use Rattle.desk_packages.specs.Renames.{Renaming, pkg}
use Rattle.desk_rules.specs.Images.{refronted, name_image}

-- a package that is written with `/`
abbrev pub package_image : List Renaming → Text → Text
package_image renames text = written slash (pkg renames (segments slash text))

-- a name with its package, all parts but the last, exchanged
abbrev pub repackaged : List Renaming → Text → Text
repackaged renames name = written slash (refronted renames (segments slash name))

-- a class name with its package exchanged; any other text is itself
abbrev pub class_image : List Renaming → Text → Text
class_image = name_image is_part slash

-- a descriptor of some kind (JVMS 4.3)
abbrev pub is_any_descriptor : Text → Bool
is_any_descriptor text =
    is_descriptor DescriptorKind.field text || is_descriptor DescriptorKind.method text || is_descriptor DescriptorKind.return text

-- A descriptor with the package of each of its class names exchanged; any other text is itself.
unfoldable pub desc : List Renaming → Text → Text
desc renames text = if is_any_descriptor text then joined (repackaged renames) (pieces text) else text

-- A class name with its package exchanged. An array's name is a field descriptor that begins with `[`, and goes as one; any
-- other text is itself.
unfoldable pub cls : List Renaming → Text → Text
cls renames text = if begins_array text then desc renames text else class_image renames text

-- A signature of a kind (JVMS 4.7.9.1) with each package specifier exchanged; any other text is itself, and so is one whose
-- type arguments nest more than 64 deep.
unfoldable pub sig : List Renaming → SignatureKind → Text → Text
sig renames kind text = if is_sound_signature kind text then joined (repackaged renames) (sig_pieces kind text) else text
