-- Two lists of files compared: whether they are the same, and else the least path at which they differ, with what differs there.
use Rattle.std.specs.Prelude.{◌≡◌, ◌≤◌, Bool, true, false, ◌&&◌, List, [], ◌∷◌, map, length, Option, Some, None, if◌then◌else◌}
use Rattle.std.specs.Str.{bytes_eq}
use Rattle.std.specs.Ordering.{nat_cmp}
use Rattle.std.specs.Cmp.Lexicographic.{slice_cmp}
use Rattle.std.specs.declared.cmp.Ordering.TheVariants.{Less}
use Rattle.desk_base.specs.Names.{Text}
use Rattle.desk_base.specs.Limits.{file_size}
use Rattle.desk_base.specs.declared.faults.Malformed.{Malformed}
use Rattle.desk_format.specs.Classes.{class_fault}
use Rattle.desk_paths.specs.declared.Kind.{Kind}
use Rattle.desk_paths.specs.declared.Kind.TheVariants as kinds
use Rattle.desk_paths.specs.Kinds.{kind_of}
use Rattle.desk_folders.specs.declared.folders.GenFile.{GenFile}
use Rattle.desk_compare.specs.Free.{free_in}
use Rattle.desk_compare.specs.declared.files.What.{What}
use Rattle.desk_compare.specs.declared.files.What.TheVariants as whats
use Rattle.desk_compare.specs.declared.files.Verdict.{Verdict}
use Rattle.desk_compare.specs.declared.files.Verdict.TheVariants as verdicts

-- ---- lists of files

abbrev pub paths_of : List GenFile → List Text
paths_of files = map (λ (f : GenFile). f.path) files

-- no longer than a file may be
abbrev pub IsShort : GenFile → Type 0
IsShort f = length f.content ≤ file_size

-- the content at a path
abbrev pub content_at : List GenFile → Text → Option Text
content_at [] p = None
content_at (f ∷ fs) p = if bytes_eq f.path p then Some f.content else content_at fs p

-- ---- two contents at a path

abbrev pub is_class : Kind → Bool
is_class kinds.Class = true
is_class _ = false

abbrev pub is_sound : Option Malformed → Bool
is_sound None = true
is_sound (Some f) = false

-- whether a content is compared as a class: a well-formed class at the path of a class file
abbrev pub holds_class : Text → Text → Bool
holds_class p a = is_class (kind_of p) && is_sound (class_fault a)

-- The left content, which is compared as a class or by its bytes, and the right one: well-formed classes of equal free classes,
-- or the same bytes.
abbrev pub SameContents : Bool → Text → Text → Type 0
SameContents true a b = (class_fault b ≡ None) × (free_in a ≡ free_in b)
SameContents false a b = a ≡ b

-- how two such contents differ
abbrev pub DifferentContents : Bool → Text → Text → What → Type 0
DifferentContents true a b whats.Malformed = class_fault b ≡ None → ⊥
DifferentContents true a b whats.Tree = (class_fault b ≡ None) × (free_in a ≡ free_in b → ⊥)
DifferentContents false a b whats.Bytes = a ≡ b → ⊥
DifferentContents _ a b _ = ⊥

-- what two lists have at a path is the same
abbrev pub SameAt : Text → Option Text → Option Text → Type 0
SameAt p None None = Unit {0}
SameAt p (Some a) (Some b) = SameContents (holds_class p a) a b
SameAt p None (Some b) = ⊥
SameAt p (Some a) None = ⊥

-- how what two lists have at a path differs
abbrev pub DifferentAt : Text → Option Text → Option Text → What → Type 0
DifferentAt p (Some a) None whats.Missing = Unit {0}
DifferentAt p None (Some b) whats.Extra = Unit {0}
DifferentAt p (Some a) (Some b) what = DifferentContents (holds_class p a) a b what
DifferentAt p _ _ what = ⊥

-- ---- two lists

-- the same paths, and at each of them the same
abbrev pub AreSame : List GenFile → List GenFile → Type 0
AreSame left right = (p : Text) → SameAt p (content_at left p) (content_at right p)

-- one path stands before another in byte order
abbrev pub IsLess : Text → Text → Type 0
IsLess p q = slice_cmp nat_cmp p q ≡ Less

-- They differ at a path in such a way, and at no path before it.
pub record IsLeastDifference (left right : List GenFile) (p : Text) (what : What) : Type 0 where
  pub different : DifferentAt p (content_at left p) (content_at right p) what
  pub before : (q : Text) → IsLess q p → SameAt q (content_at left q) (content_at right q)

abbrev pub IfDiffers : Verdict → (Text → What → Type 0) → Type 0
IfDiffers verdicts.Same P = Unit {0}
IfDiffers (verdicts.Differs p what) P = P p what

-- what a comparison of the contents at one path found
abbrev pub FindsDifference : Bool → Text → Text → Option What → Type 0
FindsDifference form a b None = SameContents form a b
FindsDifference form a b (Some what) = DifferentContents form a b what
