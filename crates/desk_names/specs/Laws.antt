-- The laws of descriptors and signatures.
use Rattle.std.specs.Prelude.{◌≡◌, true, All}
use Rattle.desk_base.specs.Names.{Text, is_class_name}
use Rattle.desk_base.specs.Descriptors.{Descriptor, DescriptorKind, IsDescriptor, is_descriptor, print, renamed, names_of, as_is}
use Rattle.desk_base.specs.Signatures.{Signature, SignatureKind, IsSignature, is_signature_name, print_signature, map_signature, signature_names}
use Rattle.desk_names.specs.Pieces.{pieces, joined, names_in}
use Rattle.desk_names.specs.SignatureScan.{is_sound_signature}
use Rattle.desk_names.specs.SignaturePieces.{sig_pieces}

-- some tree is a descriptor of a text, and none is
abbrev pub HasDescriptor : DescriptorKind → Text → Type 0
HasDescriptor kind text = (d : Descriptor) × IsDescriptor kind text d

abbrev pub HasNoDescriptor : DescriptorKind → Text → Type 0
HasNoDescriptor kind text = (d : Descriptor) → IsDescriptor kind text d → ⊥

-- some tree is a signature of a text, and none is
abbrev pub HasSignature : SignatureKind → Text → Type 0
HasSignature kind text = (s : Signature) × IsSignature kind text s

abbrev pub HasNoSignature : SignatureKind → Text → Type 0
HasNoSignature kind text = (s : Signature) → IsSignature kind text s → ⊥

-- A text passes the test of a kind exactly where it is the text of a formed tree of that kind, and there is one such tree.
pub record TreesOfDescriptors : Type 0 where
  pub taken : (kind : DescriptorKind) (text : Text) (d : Descriptor) → IsDescriptor kind text d → is_descriptor kind text ≡ true
  pub tree : (kind : DescriptorKind) (text : Text) → is_descriptor kind text ≡ true → HasDescriptor kind text
  pub one : (kind : DescriptorKind) (text : Text) (a b : Descriptor) → IsDescriptor kind text a → IsDescriptor kind text b → a ≡ b

-- the class names that f gives for class names are class names
abbrev pub KeepsClassNames : (Text → Text) → Type 0
KeepsClassNames f = (name : Text) → is_class_name name ≡ true → is_class_name (f name) ≡ true

-- The parts of a descriptor join to it; they hold its tree's class names in their order; with each class name exchanged they
-- are the text of the exchanged tree, which has the same kind and form.
pub record PartsOfDescriptors : Type 0 where
  pub joins : (kind : DescriptorKind) (text : Text) (d : Descriptor) → IsDescriptor kind text d → joined as_is (pieces text) ≡ text
  pub names : (kind : DescriptorKind) (text : Text) (d : Descriptor) → IsDescriptor kind text d → names_in (pieces text) ≡ names_of d
  pub prints : (f : Text → Text) (kind : DescriptorKind) (text : Text) (d : Descriptor) → IsDescriptor kind text d → joined f (pieces text) ≡ print (renamed f d)
  pub kept : (f : Text → Text) → KeepsClassNames f → (kind : DescriptorKind) (text : Text) (d : Descriptor) → IsDescriptor kind text d → IsDescriptor kind (joined f (pieces text)) (renamed f d)

-- A text is read as a signature of a kind exactly where it is the text of a formed tree of that kind that nests at most 64
-- deep, and there is one such tree.
pub record TreesOfSignatures : Type 0 where
  pub taken : (kind : SignatureKind) (text : Text) (s : Signature) → IsSignature kind text s → is_sound_signature kind text ≡ true
  pub tree : (kind : SignatureKind) (text : Text) → is_sound_signature kind text ≡ true → HasSignature kind text
  pub one : (kind : SignatureKind) (text : Text) (a b : Signature) → IsSignature kind text a → IsSignature kind text b → a ≡ b

-- the class names that f gives for class names of signatures are such names
abbrev pub KeepsSignatureNames : (Text → Text) → Type 0
KeepsSignatureNames f = (name : Text) → is_signature_name name ≡ true → is_signature_name (f name) ≡ true

-- The parts of a signature join to it; they hold its tree's class names in their order, each of which is a class name; with
-- each class name exchanged they are the text of the exchanged tree, which has the same kind and form.
pub record PartsOfSignatures : Type 0 where
  pub joins : (kind : SignatureKind) (text : Text) (s : Signature) → IsSignature kind text s → joined as_is (sig_pieces kind text) ≡ text
  pub names : (kind : SignatureKind) (text : Text) (s : Signature) → IsSignature kind text s → names_in (sig_pieces kind text) ≡ signature_names s
  pub named : (kind : SignatureKind) (text : Text) (s : Signature) → IsSignature kind text s → All (λ (name : Text). is_class_name name ≡ true) (names_in (sig_pieces kind text))
  pub prints : (f : Text → Text) (kind : SignatureKind) (text : Text) (s : Signature) → IsSignature kind text s → joined f (sig_pieces kind text) ≡ print_signature (map_signature f s)
  pub kept : (f : Text → Text) → KeepsSignatureNames f → (kind : SignatureKind) (text : Text) (s : Signature) → IsSignature kind text s → IsSignature kind (joined f (sig_pieces kind text)) (map_signature f s)
