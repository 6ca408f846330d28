-- Members with numbers of the texts that tell them apart.
use Rattle.std.specs.Prelude.{◌≡◌, ℕ, Bool, List, find, Option, Some, option_map, All}
use Rattle.std.specs.Ordering.{nat_cmp, is_eq, ordering_then, bool_cmp}
use Rattle.std.specs.declared.cmp.Ordering.{Ordering}
use Rattle.std.specs.BTreeMap.{BTreeMap, get}
use Rattle.desk_base.specs.Names.{Text}
use Rattle.desk_format.specs.declared.members.Member.{Member}
use Rattle.desk_format.specs.Members.{Named, Twins}
use Rattle.desk_new_pool.specs.declared.twins.NumberedMember.{NumberedMember}
use Rattle.desk_new_pool.specs.declared.twins.TwinPlaces.{TwinPlaces}

-- No two texts have one number.
abbrev pub TellApart : (Text → Option ℕ) → Type 0
TellApart numbers = (s t : Text) (n : ℕ) → numbers s ≡ Some n → numbers t ≡ Some n → s ≡ t

-- A member has the numbers of the name and the descriptor that a function gives.
pub record IsNumbered (named : Member → Named) (names descriptors : Text → Option ℕ) (m : NumberedMember) : Type 0 where
  pub name : names (named m.member).name ≡ Some m.name
  pub descriptor : descriptors (named m.member).descriptor ≡ Some m.descriptor

-- Members have one number for their names exactly where these are equal, and so for their descriptors.
pub record AreNumbered (named : Member → Named) (ms : List NumberedMember) : Type 0 where
  pub names : Text → Option ℕ
  pub descriptors : Text → Option ℕ
  pub names_apart : TellApart names
  pub descriptors_apart : TellApart descriptors
  pub each : All (IsNumbered named names descriptors) ms

abbrev pub member_in : NumberedMember → Member
member_in m = m.member

-- where two members stand
abbrev pub places_of : Twins → TwinPlaces
places_of t = record { first = t.first.at; second = t.second.at }

-- ---- keys

-- whether it is a method, the number of its name, and that of its descriptor
abbrev pub Key : Type 0
Key = Bool × ℕ × ℕ

abbrev pub key_of : NumberedMember → Key
key_of m = (m.member.method, m.name, m.descriptor)

abbrev pub key_cmp : Key → Key → Ordering
key_cmp x y = ordering_then (ordering_then (bool_cmp x.0 y.0) (nat_cmp x.1 y.1)) (nat_cmp x.2 y.2)

-- the place of the first member of a key
abbrev pub first_place : List NumberedMember → Key → Option ℕ
first_place ms q = option_map (λ (m : NumberedMember). m.member.at) (find (λ m. is_eq (key_cmp q (key_of m))) ms)

-- what a map has at a key
abbrev pub at_key : BTreeMap Key ℕ → Key → Option ℕ
at_key m q = get key_cmp m q
