-- The class names that a class holds in its texts.
use Rattle.std.specs.Prelude.{Bool, ◌||◌, List, [], ◌∷◌, ◌++◌, if◌then◌else◌, Contains}
use Rattle.std.specs.List.{list_any}
use Rattle.std.specs.Ordering.{nat_cmp, eq_by_cmp}
use Rattle.std.specs.Cmp.Lexicographic.{slice_cmp}
use Rattle.std.specs.BTreeSet.{insert_key}
use Rattle.desk_base.specs.Names.{Text, is_class_name}
use Rattle.desk_base.specs.Descriptors.{DescriptorKind, is_descriptor}
use Rattle.desk_base.specs.Referents.{begins_array}
use Rattle.desk_base.specs.Signatures.{SignatureKind}
use Rattle.desk_base.specs.declared.kinds.Role.{Role}
use Rattle.desk_base.specs.declared.kinds.Role.TheVariants as roles
use Rattle.desk_base.specs.declared.kinds.Used.{Used}
use Rattle.desk_base.specs.Entries.{Pool, text_at}
use Rattle.desk_names.specs.Pieces.{pieces, names_in}
use Rattle.desk_names.specs.SignaturePieces.{sig_pieces}
use Rattle.desk_names.specs.SignatureScan.{is_sound_signature}
use Rattle.desk_format.specs.Classes.{Class, class_uses, uses_in}
use Rattle.desk_class.specs.Parts.{pool_in}

-- The class names of a field, method or return descriptor. An array has those of its element type. Another text has none.
abbrev pub descriptor_names : Text → List Text
descriptor_names text = if is_descriptor DescriptorKind.return text || is_descriptor DescriptorKind.method text then names_in (pieces text) else []

-- The class names of a signature of a kind, each up to its first simple class. Another text has none.
abbrev pub signature_names : SignatureKind → Text → List Text
signature_names kind text = if is_sound_signature kind text then names_in (sig_pieces kind text) else []

-- the class names of a text that is used in a role
unfoldable pub names_of : Role → Text → List Text
names_of roles.Class text = if is_class_name text then text ∷ [] else if begins_array text then descriptor_names text else []
names_of roles.Descriptor text = descriptor_names text
names_of roles.ClassSig text = signature_names SignatureKind.class text
names_of roles.MethodSig text = signature_names SignatureKind.method text
names_of roles.FieldSig text = signature_names SignatureKind.field text
names_of _ text = []

-- the class names of the texts that are used, in the order of the uses
abbrev pub held_by : Pool → List Used → List Text
held_by pool [] = []
held_by pool (u ∷ us) = names_of u.role (text_at pool u.index) ++ held_by pool us

-- whether a text is one of these
abbrev pub is_held : List Text → Text → Bool
is_held names q = list_any (eq_by_cmp (slice_cmp nat_cmp) q) names

-- the class names that a class holds, in the order of its uses
abbrev pub held_names : Class → List Text
held_names c = held_by c.pool (class_uses c)

-- those that the bytes of a class hold
abbrev pub held_in : Text → List Text
held_in bytes = held_by (pool_in bytes) (uses_in bytes)

-- The bytes of a class hold a class name where it is one of those of a text that is used.
abbrev pub Holds : Text → Text → Type 0
Holds bytes name = Contains (held_in bytes) name

-- these texts, and behind them others in their order, each once
abbrev pub found_all : List Text → List Text → List Text
found_all known [] = known
found_all known (t ∷ ts) = found_all (if is_held known t then known else known ++ t ∷ []) ts

-- texts in the order in which they first stand, each once
abbrev pub each_once : List Text → List Text
each_once = found_all []

-- these texts, with others put among them in byte order, each once
abbrev pub put_all : List Text → List Text → List Text
put_all known [] = known
put_all known (t ∷ ts) = put_all (insert_key (slice_cmp nat_cmp) known t) ts

-- texts in byte order, each once
abbrev pub ascending : List Text → List Text
ascending = put_all []
