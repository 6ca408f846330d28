-- A class file (JVMS 4.1): read from its first byte to its last, or its first fault; and printed.
use Rattle.std.specs.Prelude.{ℕ, not, ◌&&◌, ◌||◌, ◌==◌, nat_lt, nat_le, List, [], ◌∷◌, ◌++◌, Option, Some, None, Result, Ok, Err, if◌then◌else◌}
use Rattle.std.specs.Str.{bytes_eq}
use Rattle.desk_base.specs.declared.kinds.Used.{Used}
use Rattle.desk_base.specs.declared.faults.Malformed.{Malformed}
use Rattle.desk_base.specs.declared.faults.FaultKind.TheVariants as faults
use Rattle.desk_base.specs.Entries.{Pool}
use Rattle.desk_format.specs.Trees.{Tree, Use, uses, print}
use Rattle.desk_format.specs.Reading.{Failed, read}
use Rattle.desk_format.specs.Reading.{Got as ReadTree}
use Rattle.desk_format.specs.PoolBytes.{two, print_pool, pool_uses}
use Rattle.desk_format.specs.PoolReading.{Got, got, Reader, fault_at, item, then_read, done, number_read, read_pool}
use Rattle.desk_format.specs.ClassBody.{class_body}
use Rattle.desk_format.specs.Members.{Twins, first_twins, named_in, members}
use Rattle.desk_format.specs.declared.members.Member.{Member}

-- A class: its minor and major version, its constant pool, the offset behind that, and its body.
pub record Class : Type 0 where
  pub minor : ℕ
  pub major : ℕ
  pub pool : Pool
  pub body_at : ℕ
  pub body : Tree Use

-- ---- magic and version

abbrev pub magic : List ℕ
magic = 202 ∷ 254 ∷ 186 ∷ 190 ∷ []

pub record Version : Type 0 where
  pub minor : ℕ
  pub major : ℕ

abbrev pub first_major : ℕ
first_major = 45

abbrev pub last_major : ℕ
last_major = 65

-- From major 56 on the minor is 0, or 65,535 for a class that uses preview features.
abbrev pub checked_version : ℕ → ℕ → Reader Version
checked_version minor major at s =
    if nat_lt major first_major || nat_lt last_major major then fault_at faults.Version 6
    else if nat_le 56 major && not (minor == 0 || minor == 65535) then fault_at faults.Version 4
    else done (record { minor = minor; major = major }) at s

abbrev pub version_read : Reader Version
version_read at s = then_read (number_read at s) (λ minor. λ at s. then_read (number_read at s) (λ major. checked_version minor major))

abbrev pub behind_magic : List ℕ → Reader Version
behind_magic bytes at s = if bytes_eq bytes magic then version_read at s else fault_at faults.Magic 0

-- the four bytes of the magic, the minor version and the major version
abbrev pub header_read : Reader Version
header_read at s = then_read (item 4 at s) behind_magic

-- ---- the body, and the end

abbrev pub tree_of : Result ReadTree Failed → Result (Got (Tree Use)) Malformed
tree_of (Ok g) = Ok (got g.tree g.at g.left)
tree_of (Err e) = Err e.fault

abbrev pub body_read : Pool → Reader (Tree Use)
body_read pool at s = tree_of (read pool class_body at s)

-- No bytes stand behind the class.
abbrev pub ended : Class → Reader Class
ended c at [] = done c at []
ended c at (b ∷ s) = fault_at faults.Trailing at

-- Two fields or two methods of one name and descriptor are a fault at the access flags of the second.
abbrev pub without_twins : Class → Option Twins → Result Class Malformed
without_twins c None = Ok c
without_twins c (Some t) = fault_at faults.Twins t.second.at

abbrev pub twins_in : Class → Option Twins
twins_in c = first_twins (named_in c.pool) (members c.body)

abbrev pub checked_class : Result (Got Class) Malformed → Result Class Malformed
checked_class (Ok g) = without_twins g.value (twins_in g.value)
checked_class (Err f) = Err f

abbrev pub class_of : Version → Pool → ℕ → Tree Use → Class
class_of v pool at body = record { minor = v.minor; major = v.major; pool = pool; body_at = at; body = body }

-- the body of a class, behind its version and its pool
abbrev pub behind_pool : Version → Pool → Reader Class
behind_pool v pool at s = then_read (body_read pool at s) (λ body. ended (class_of v pool at body))

abbrev pub class_at : Reader Class
class_at at s = then_read (header_read at s) (λ v. λ at s. then_read (read_pool at s) (behind_pool v))

-- the class of these bytes, or the first fault
unfoldable pub read_class : List ℕ → Result Class Malformed
read_class bytes = checked_class (class_at 0 bytes)

abbrev pub fault_in : Result Class Malformed → Option Malformed
fault_in (Ok c) = None
fault_in (Err f) = Some f

-- the first fault of these bytes; a class is well-formed where there is none
abbrev pub class_fault : List ℕ → Option Malformed
class_fault bytes = fault_in (read_class bytes)

-- ---- bytes and uses

abbrev pub print_class : Class → List ℕ
print_class c = magic ++ two c.minor ++ two c.major ++ print_pool c.pool ++ print c.body

-- the offset of the first entry's tag: behind magic, versions and the pool's count
abbrev pub entries_at : ℕ
entries_at = 10

-- the uses of texts: those of the pool, then those of the body
abbrev pub class_uses : Class → List Used
class_uses c = pool_uses entries_at c.pool ++ uses c.body

-- ---- what the bytes of a class hold

-- a list that the class of some bytes has, and none where these are no class
abbrev pub list_in : {A : Type 0} → (Class → List A) → Result Class Malformed → List A
list_in f (Ok c) = f c
list_in f (Err e) = []

-- its uses of texts
abbrev pub uses_in : List ℕ → List Used
uses_in bytes = list_in class_uses (read_class bytes)

-- its fields, and then its methods
abbrev pub members_in : List ℕ → List Member
members_in bytes = list_in (λ c. members c.body) (read_class bytes)
