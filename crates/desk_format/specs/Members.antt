-- The fields and methods of a body, and two of one name and descriptor.
use Rattle.std.specs.Prelude.{◌-◌, Bool, true, false, not, ◌&&◌, List, [], ◌∷◌, ◌++◌, find, Option, Some, None}
use Rattle.std.specs.Str.{bytes_eq}
use Rattle.desk_base.specs.Names.{Text}
use Rattle.desk_base.specs.declared.kinds.UseKind.{UseKind}
use Rattle.desk_base.specs.declared.kinds.UseKind.TheVariants as kinds
use Rattle.desk_base.specs.Entries.{Pool, text_at}
use Rattle.desk_format.specs.declared.members.Member.{Member}
use Rattle.desk_format.specs.Trees.{Tree, Use}
use Rattle.desk_format.specs.Trees.{both, used}

-- A field has a name and a field descriptor, a method a name and a method descriptor. The access flags stand in the two
-- bytes before the index of the name.
abbrev pub member_of : Bool → Use → Use → Member
member_of method name descriptor = record { at = name.at - 2; name = name.index; descriptor = descriptor.index; method = method }

abbrev pub member_by : UseKind → UseKind → Use → Use → List Member
member_by kinds.Plain kinds.FieldDescriptor name descriptor = member_of false name descriptor ∷ []
member_by kinds.Plain kinds.MethodDescriptor name descriptor = member_of true name descriptor ∷ []
member_by _ _ name descriptor = []

-- access flags, name and descriptor, then attributes
abbrev pub member_in : Tree Use → List Member
member_in (both (both flags (both (used name) (both (used descriptor) _))) attributes) = member_by name.kind descriptor.kind name descriptor
member_in _ = []

-- the members by place: fields before methods
abbrev pub members : Tree Use → List Member
members Tree.nothing = []
members (Tree.number bytes) = []
members (Tree.raw bytes) = []
members (Tree.code bytes) = []
members (used u) = []
members (both a b) = members a ++ members b
members (Tree.member a) = member_in a

-- ---- twins

-- the texts that tell members apart
pub record Named : Type 0 where
  pub name : Text
  pub descriptor : Text

abbrev pub named_in : Pool → Member → Named
named_in pool m = record { name = text_at pool m.name; descriptor = text_at pool m.descriptor }

abbrev pub same_kind : Bool → Bool → Bool
same_kind true b = b
same_kind false b = not b

-- two fields, or two methods, of one name and descriptor
abbrev pub are_twins : (Member → Named) → Member → Member → Bool
are_twins named a b = same_kind a.method b.method && (bytes_eq (named a).name (named b).name && bytes_eq (named a).descriptor (named b).descriptor)

pub record Twins : Type 0 where
  pub first : Member
  pub second : Member

abbrev pub twins_or : Option Member → Member → Option Twins → Option Twins
twins_or (Some first) second later = Some (record { first = first; second = second })
twins_or None second later = later

-- the first twins among members that stand behind others
abbrev pub twins_behind : (Member → Named) → List Member → List Member → Option Twins
twins_behind named before [] = None
twins_behind named before (m ∷ ms) = twins_or (find (λ b. are_twins named b m) before) m (twins_behind named (before ++ m ∷ []) ms)

-- The least member that is the twin of one before it, and the least of those.
abbrev pub first_twins : (Member → Named) → List Member → Option Twins
first_twins named ms = twins_behind named [] ms
