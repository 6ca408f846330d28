-- Reading a body by a layout: the tree and what stands behind it, or the first fault.
use Rattle.std.specs.Prelude.{ℕ, zero, suc, ◌+◌, ◌-◌, List, [], ◌++◌, length, take, drop, Option, Some, None, Result, Ok, Err, nat_lt, ◌==◌, if◌then◌else◌}
use Rattle.std.specs.Int.{Width, w8, w16, w32, byte_len, from_be_bytes}
use Rattle.desk_base.specs.Names.{Text}
use Rattle.desk_base.specs.declared.kinds.UseKind.{UseKind}
use Rattle.desk_base.specs.declared.kinds.UseKind.TheVariants as kinds
use Rattle.desk_base.specs.declared.kinds.Used.{Used}
use Rattle.desk_base.specs.declared.faults.FaultKind.{FaultKind}
use Rattle.desk_base.specs.declared.faults.FaultKind.TheVariants as faults
use Rattle.desk_base.specs.declared.faults.Malformed.{Malformed}
use Rattle.desk_base.specs.Entries.{Pool, text_at}
use Rattle.desk_base.specs.Misfits.{misfit}
use Rattle.desk_format.specs.Layouts.{Layout, Check, any}
use Rattle.desk_format.specs.Trees.{Tree, Use, uses}

-- what was read, the offset behind it, and the bytes that are left there
pub record Got : Type 0 where
  pub tree : Tree Use
  pub at : ℕ
  pub left : List ℕ

-- the first fault, and the uses of texts before it
pub record Failed : Type 0 where
  pub fault : Malformed
  pub before : List Used

abbrev pub fails : FaultKind → ℕ → Failed
fails kind at = record { fault = record { kind = kind; at = at }; before = [] }

-- A reader starts at an offset, with the bytes from there to the end.
abbrev pub Reader : Type 0
Reader = ℕ → List ℕ → Result Got Failed

-- ---- items

abbrev pub leaf_or : Option FaultKind → Tree Use → ℕ → ℕ → List ℕ → Result Got Failed
leaf_or None leaf at after left = Ok (record { tree = leaf; at = after; left = left })
leaf_or (Some kind) leaf at after left = Err (fails kind at)

-- One item of so many bytes, which is a leaf. It may reach past the end, or its bytes may be a fault: both stand
-- at its first byte.
abbrev pub item : ℕ → (List ℕ → Option FaultKind) → (ℕ → List ℕ → Tree Use) → Reader
item n check leaf at s =
    if nat_lt (length s) n then Err (fails faults.Truncated at)
    else leaf_or (check (take n s)) (leaf at (take n s)) at (at + n) (drop n s)

unfoldable pub number_at : Width → Check → Reader
number_at w check = item (byte_len w) (λ bytes. check (from_be_bytes w bytes)) (λ at bytes. Tree.number bytes)

unfoldable pub raw_at : ℕ → Reader
raw_at n = item n (λ bytes. None) (λ at bytes. Tree.raw bytes)

abbrev pub code_at : ℕ → Reader
code_at n = item n (λ bytes. None) (λ at bytes. Tree.code bytes)

unfoldable pub index_at : Pool → UseKind → Reader
index_at pool kind = item 2 (λ bytes. misfit pool kind (from_be_bytes w16 bytes)) (λ at bytes. Tree.used (record { at = at; kind = kind; index = from_be_bytes w16 bytes }))

unfoldable pub nothing_at : Reader
nothing_at at s = Ok (record { tree = Tree.nothing; at = at; left = s })

-- ---- readers one behind the other

abbrev pub behind : Tree Use → Result Got Failed → Result Got Failed
behind a (Ok b) = Ok (record { tree = Tree.both a b.tree; at = b.at; left = b.left })
behind a (Err e) = Err (record { fault = e.fault; before = uses a ++ e.before })

abbrev pub goes_on : (Tree Use → Reader) → Result Got Failed → Result Got Failed
goes_on second (Ok a) = behind a.tree (second a.tree a.at a.left)
goes_on second (Err e) = Err e

-- One reader, and another behind it that goes by what the first read.
unfoldable pub and_then : Reader → (Tree Use → Reader) → Reader
and_then first second at s = goes_on second (first at s)

unfoldable pub times : ℕ → Reader → Reader
times zero reader = nothing_at
times (suc n) reader = and_then reader (λ _. times n reader)

abbrev pub marked : Result Got Failed → Result Got Failed
marked (Ok got) = Ok (record { tree = Tree.member got.tree; at = got.at; left = got.left })
marked (Err e) = Err e

unfoldable pub member_at : Reader → Reader
member_at reader at s = marked (reader at s)

-- the number that a leaf holds
abbrev pub value_of : Width → Tree Use → ℕ
value_of w (Tree.number bytes) = from_be_bytes w bytes
value_of w _ = 0

-- ---- attributes (JVMS 4.7)

-- the text that an index names, where it is that of an attribute's name
abbrev pub name_under : Pool → UseKind → ℕ → Text
name_under pool kinds.AttrName i = text_at pool i
name_under pool _ i = []

abbrev pub name_of : Pool → Tree Use → Text
name_of pool (Tree.used u) = name_under pool u.kind u.index
name_of pool _ = []

-- A body of so many bytes, which its length fences; the length stands in the four bytes before it. Where an item in
-- it would reach past its end, or bytes of it are left, the length is the fault, at its first byte. So the innermost
-- body decides. An item that reaches past the file without such a fence is Truncated.
abbrev pub fence_fault : ℕ → Malformed → Malformed
fence_fault at f = elim (f.kind) [ faults.Truncated ↦ record { kind = faults.AttributeLength; at = at - 4 } | _ ↦ f ]

abbrev pub close : ℕ → ℕ → List ℕ → Result Got Failed → Result Got Failed
close at after more (Ok got) =
    if length got.left == 0 then Ok (record { tree = got.tree; at = after; left = more })
    else Err (record { fault = record { kind = faults.AttributeLength; at = at - 4 }; before = uses got.tree })
close at after more (Err e) = Err (record { fault = fence_fault at e.fault; before = e.before })

unfoldable pub fenced : ℕ → Reader → Reader
fenced n body at s =
    if nat_lt (length s) n then Err (fails faults.Truncated at)
    else close at (at + n) (drop n s) (body at (take n s))

-- An attribute: its name, the length of its body, and the body, read as length and name select.
unfoldable pub attribute_at : Pool → (ℕ → Text → Reader) → Reader
attribute_at pool body =
    and_then (index_at pool kinds.AttrName)
    (λ name. and_then (number_at w32 any) (λ n. fenced (value_of w32 n) (body (value_of w32 n) (name_of pool name))))

-- ---- each kind of layout

unfoldable pub read : Pool → Layout → Reader
read pool (Layout.number w check) = number_at w check
read pool (Layout.sized w check) = and_then (number_at w check) (λ n. code_at (value_of w n))
read pool (Layout.raw size) = raw_at size
read pool (Layout.index kind) = index_at pool kind
read pool Layout.nothing = nothing_at
read pool (Layout.row a b) = and_then (read pool a) (λ _. read pool b)
read pool (Layout.table w each) = and_then (number_at w any) (λ n. times (value_of w n) (read pool each))
read pool (Layout.tagged check branch) = and_then (number_at w8 check) (λ tag. read pool (branch (value_of w8 tag)))
read pool (Layout.attributes body) = and_then (number_at w16 any) (λ n. times (value_of w16 n) (attribute_at pool (λ size name. read pool (body size name))))
read pool (Layout.member each) = member_at (read pool each)
read pool (Layout.fault kind) = λ at s. Err (fails kind at)
