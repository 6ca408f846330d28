-- What the body of a class is read into.
use Rattle.std.specs.Prelude.{◌≡◌, ℕ, ◌+◌, List, [], ◌∷◌, ◌++◌, length, Option, Some, None, ◌&&◌, ◌==◌, if◌then◌else◌}
use Rattle.std.specs.Int.{w16, to_be_bytes}
use Rattle.desk_base.specs.declared.kinds.UseKind.{UseKind}
use Rattle.desk_base.specs.declared.kinds.Used.{Used}
use Rattle.desk_base.specs.declared.referents.Referent.{Referent}
use Rattle.desk_base.specs.declared.referents.Referent.TheVariants as referents
use Rattle.desk_base.specs.Referents.{referent_of, may_be_none}

-- An index as it stands in the body: its offset from the start of the file, what it must name, and its number.
pub record Use : Type 0 where
  pub at : ℕ
  pub kind : UseKind
  pub index : ℕ

-- A tree whose leaves are numbers, by their bytes, raw bytes, code arrays, and indices of the constant pool. A field or a method
-- is marked as a member.
pub data Tree (U : Type 0) : Type 0 where
  nothing : Tree U
  number : List ℕ → Tree U
  raw : List ℕ → Tree U
  code : List ℕ → Tree U
  used : U → Tree U
  both : Tree U → Tree U → Tree U
  member : Tree U → Tree U

-- each index exchanged
abbrev pub map_tree : {U V : Type 0} → (U → V) → Tree U → Tree V
map_tree f nothing = nothing
map_tree f (number bytes) = number bytes
map_tree f (raw bytes) = raw bytes
map_tree f (code bytes) = code bytes
map_tree f (used u) = used (f u)
map_tree f (both a b) = both (map_tree f a) (map_tree f b)
map_tree f (member a) = member (map_tree f a)

-- a fact of each index
abbrev pub Each : {U : Type 0} → (U → Type 0) → Tree U → Type 0
Each P nothing = Unit {0}
Each P (number bytes) = Unit {0}
Each P (raw bytes) = Unit {0}
Each P (code bytes) = Unit {0}
Each P (used u) = P u
Each P (both a b) = Each P a × Each P b
Each P (member a) = Each P a

-- the bytes of a tree
abbrev pub print : Tree Use → List ℕ
print nothing = []
print (number bytes) = bytes
print (raw bytes) = bytes
print (code bytes) = bytes
print (used u) = to_be_bytes w16 u.index
print (both a b) = print a ++ print b
print (member a) = print a

-- Each index stands at its place, where the tree begins at an offset.
abbrev pub IsPlaced : ℕ → Tree Use → Type 0
IsPlaced at nothing = Unit {0}
IsPlaced at (number bytes) = Unit {0}
IsPlaced at (raw bytes) = Unit {0}
IsPlaced at (code bytes) = Unit {0}
IsPlaced at (used u) = u.at ≡ at
IsPlaced at (both a b) = IsPlaced at a × IsPlaced (at + length (print a)) b
IsPlaced at (member a) = IsPlaced at a

-- ---- uses

-- an index that must name a text, as a use of it in a role
abbrev pub text_in_role : Referent → ℕ → ℕ → Option Used
text_in_role (referents.Text role form) at index = Some (record { at = at; index = index; role = role })
text_in_role _ at index = None

-- The text that an index of the body names, with its role. Index 0, where it may stand, names none.
abbrev pub text_use : Use → Option Used
text_use u = if may_be_none u.kind && u.index == 0 then None else text_in_role (referent_of u.kind) u.at u.index

abbrev pub uses_of : Option Used → List Used
uses_of None = []
uses_of (Some u) = u ∷ []

-- the uses of texts, by place
abbrev pub uses : Tree Use → List Used
uses nothing = []
uses (number bytes) = []
uses (raw bytes) = []
uses (code bytes) = []
uses (used u) = uses_of (text_use u)
uses (both a b) = uses a ++ uses b
uses (member a) = uses a
