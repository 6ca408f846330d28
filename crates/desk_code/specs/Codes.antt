-- The code arrays of the methods of a class (JVMS 4.7.3), in order of place.
use Rattle.std.specs.Prelude.{ℕ, ◌+◌, List, [], ◌∷◌, ◌++◌, length, map, take, drop, if◌then◌else◌}
use Rattle.desk_format.specs.declared.members.Member.{Member}
use Rattle.desk_format.specs.Trees.{Tree, Use, print}
use Rattle.desk_format.specs.Members.{member_in}
use Rattle.desk_format.specs.Classes.{Class, read_class, list_in}
use Rattle.desk_code.specs.declared.places.CodeAt.{CodeAt}

-- a code array: its offset from the start of the file, and its bytes
pub record CodeArray : Type 0 where
  pub at : ℕ
  pub code : List ℕ

-- the code arrays of a tree that begins at an offset
abbrev pub code_arrays : ℕ → Tree Use → List CodeArray
code_arrays at Tree.nothing = []
code_arrays at (Tree.number bytes) = []
code_arrays at (Tree.raw bytes) = []
code_arrays at (Tree.code bytes) = record { at = at; code = bytes } ∷ []
code_arrays at (Tree.used u) = []
code_arrays at (Tree.both a b) = code_arrays at a ++ code_arrays (at + length (print a)) b
code_arrays at (Tree.member a) = code_arrays at a

-- a code array of a method
abbrev pub code_at : Member → CodeArray → CodeAt
code_at m a = record { member = m.at; name = m.name; descriptor = m.descriptor; at = a.at; length = length a.code }

-- those of a method; a field has none
abbrev pub codes_of_member : Member → List CodeArray → List CodeAt
codes_of_member m as' = if m.method then map (code_at m) as' else []

abbrev pub codes_of_members : List Member → List CodeArray → List CodeAt
codes_of_members [] as' = []
codes_of_members (m ∷ ms) as' = codes_of_member m as' ++ codes_of_members ms as'

-- those of the methods of a tree that begins at an offset
abbrev pub method_codes : ℕ → Tree Use → List CodeAt
method_codes at Tree.nothing = []
method_codes at (Tree.number bytes) = []
method_codes at (Tree.raw bytes) = []
method_codes at (Tree.code bytes) = []
method_codes at (Tree.used u) = []
method_codes at (Tree.both a b) = method_codes at a ++ method_codes (at + length (print a)) b
method_codes at (Tree.member a) = codes_of_members (member_in a) (code_arrays at a)

-- those of a class
abbrev pub codes_of : Class → List CodeAt
codes_of c = method_codes c.body_at c.body

-- those of the class of some bytes; none where the bytes are no class
abbrev pub codes_in : List ℕ → List CodeAt
codes_in bytes = list_in codes_of (read_class bytes)

-- the bytes of a code array of the class of some bytes
abbrev pub code_bytes : List ℕ → CodeAt → List ℕ
code_bytes bytes c = take c.length (drop c.at bytes)
