-- The parts of a class, by its bytes: where the bytes are no class, they have none.
use Rattle.std.specs.Prelude.{◌≡◌, ℕ, ◌≤◌, List, length, None, Result, Ok, Err}
use Rattle.desk_base.specs.Names.{Text}
use Rattle.desk_base.specs.Entries.{Pool, class_name_at}
use Rattle.desk_base.specs.Limits.{file_size}
use Rattle.desk_base.specs.declared.faults.Malformed.{Malformed}
use Rattle.desk_base.specs.declared.kinds.Used.{Used}
use Rattle.desk_format.specs.declared.members.Member.{Member}
use Rattle.desk_format.specs.Trees.{Tree, Use}
use Rattle.desk_format.specs.Trees.{both, used}
use Rattle.desk_format.specs.Classes.{Class, Version, read_class, class_fault, entries_at, list_in, uses_in, members_in}
use Rattle.desk_format.specs.PoolBytes.{pool_uses}
use Rattle.desk_pool.specs.Seen.{ReadPool}
use Rattle.desk_class.specs.Formed.{AreFormed}
use Rattle.desk_class.specs.declared.header.Version.{Version as CodeVersion}

-- the index of this class, which stands behind the access flags (JVMS 4.1)
abbrev pub this_class : Tree Use → ℕ
this_class (both (both flags (both (used u) more)) rest) = u.index
this_class _ = 0

abbrev pub class_name : Class → Text
class_name c = class_name_at c.pool (this_class c.body)

-- the constant pool
abbrev pub pool_in : List ℕ → Pool
pool_in bytes = list_in (λ c. c.pool) (read_class bytes)

abbrev pub body_at_of : Result Class Malformed → ℕ
body_at_of (Ok c) = c.body_at
body_at_of (Err f) = 0

-- the offset behind the pool
abbrev pub body_at_in : List ℕ → ℕ
body_at_in bytes = body_at_of (read_class bytes)

-- the name of the class
abbrev pub name_in : List ℕ → Text
name_in bytes = list_in class_name (read_class bytes)

-- a version as it is read
abbrev pub version_of : CodeVersion → Version
version_of v = record { minor = v.minor; major = v.major }

-- What a view of a class keeps beside the bytes are the parts of the class of these bytes.
pub record IsRead (bytes : List ℕ) (pool : ReadPool) (body_at : ℕ) (us : List Used) (ms : List Member) (name : Text) : Type 0 where
  pub short : length bytes ≤ file_size
  pub sound : class_fault bytes ≡ None
  pub entries : pool.entries ≡ pool_in bytes
  pub pool_texts : pool.uses ≡ pool_uses entries_at (pool_in bytes)
  pub body : body_at ≡ body_at_in bytes
  pub texts : us ≡ uses_in bytes
  pub formed : AreFormed (pool_in bytes) (uses_in bytes)
  pub fields_and_methods : ms ≡ members_in bytes
  pub named : name ≡ name_in bytes
