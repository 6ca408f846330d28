-- Two lists of files compared, as a function of both: the verdict, and the test of free classes that it goes by.
use Rattle.std.specs.Prelude.{Bool, true, false, ◌&&◌, ◌==◌, List, [], ◌∷◌, ◌++◌, Option, Some, None, if◌then◌else◌}
use Rattle.std.specs.Str.{bytes_eq}
use Rattle.std.specs.Option.{option_eq}
use Rattle.std.specs.Ordering.{nat_cmp}
use Rattle.std.specs.Cmp.Lexicographic.{slice_cmp, pointwise}
use Rattle.std.specs.declared.cmp.Ordering.{Ordering}
use Rattle.std.specs.declared.cmp.Ordering.TheVariants.{Less}
use Rattle.desk_base.specs.Names.{Text}
use Rattle.desk_base.specs.Entries.{number_of}
use Rattle.desk_base.specs.declared.kinds.Tag.{Tag}
use Rattle.desk_base.specs.declared.kinds.Role.{Role}
use Rattle.desk_base.specs.declared.kinds.Role.TheVariants as roles
use Rattle.desk_format.specs.Trees.{Tree}
use Rattle.desk_format.specs.Values.{Value}
use Rattle.desk_format.specs.Values.{none, text, text_as, number, class_named, string_of, named_typed, member, handle, method_typed, computed, module_called, package_called}
use Rattle.desk_format.specs.Classes.{class_fault}
use Rattle.desk_folders.specs.declared.folders.GenFile.{GenFile}
use Rattle.desk_compare.specs.declared.files.What.{What}
use Rattle.desk_compare.specs.declared.files.What.TheVariants as whats
use Rattle.desk_compare.specs.declared.files.Verdict.{Verdict}
use Rattle.desk_compare.specs.declared.files.Verdict.TheVariants as verdicts
use Rattle.desk_compare.specs.Free.{FreeInstruction, Leaf, FreeClass, free_in}
use Rattle.desk_compare.specs.Verdicts.{paths_of, content_at, is_sound, holds_class}

-- ---- whether two free classes are the same

-- two tags, by their numbers in the class file format
abbrev pub equal_tags : Tag → Tag → Bool
equal_tags tag other = number_of tag == number_of other

-- two roles of a text
abbrev pub equal_roles : Role → Role → Bool
equal_roles roles.Class roles.Class = true
equal_roles roles.Package roles.Package = true
equal_roles roles.Module roles.Module = true
equal_roles roles.Descriptor roles.Descriptor = true
equal_roles roles.ClassSig roles.ClassSig = true
equal_roles roles.MethodSig roles.MethodSig = true
equal_roles roles.FieldSig roles.FieldSig = true
equal_roles roles.Str roles.Str = true
equal_roles roles.Plain roles.Plain = true
equal_roles roles.AttrName roles.AttrName = true
equal_roles _ _ = false

-- two values that indices lead to
abbrev pub equal_values : Value → Value → Bool
equal_values none none = true
equal_values (text s) (text t) = bytes_eq s t
equal_values (text_as role s) (text_as other t) = equal_roles role other && bytes_eq s t
equal_values (number tag s) (number other t) = equal_tags tag other && bytes_eq s t
equal_values (class_named s) (class_named t) = bytes_eq s t
equal_values (string_of s) (string_of t) = bytes_eq s t
equal_values (named_typed n d) (named_typed m e) = bytes_eq n m && bytes_eq d e
equal_values (member tag c n) (member other d m) = equal_tags tag other && (equal_values c d && equal_values n m)
equal_values (handle k v) (handle l w) = k == l && equal_values v w
equal_values (method_typed s) (method_typed t) = bytes_eq s t
equal_values (computed tag n v) (computed other m w) = equal_tags tag other && (n == m && equal_values v w)
equal_values (module_called s) (module_called t) = bytes_eq s t
equal_values (package_called s) (package_called t) = bytes_eq s t
equal_values _ _ = false

-- two instructions with no index left in them
abbrev pub equal_instructions : FreeInstruction → FreeInstruction → Bool
equal_instructions i j = i.at == j.at && (i.opcode == j.opcode && (bytes_eq i.bytes j.bytes && option_eq equal_values i.value j.value))

-- what stands in place of an index, or of a code array
abbrev pub equal_leaves : Leaf → Leaf → Bool
equal_leaves (Leaf.index_to v) (Leaf.index_to w) = equal_values v w
equal_leaves (Leaf.code_of is) (Leaf.code_of js) = pointwise equal_instructions is js
equal_leaves _ _ = false

-- two bodies of classes
abbrev pub equal_trees : Tree Leaf → Tree Leaf → Bool
equal_trees Tree.nothing Tree.nothing = true
equal_trees (Tree.number s) (Tree.number t) = bytes_eq s t
equal_trees (Tree.raw s) (Tree.raw t) = bytes_eq s t
equal_trees (Tree.code s) (Tree.code t) = bytes_eq s t
equal_trees (Tree.used u) (Tree.used v) = equal_leaves u v
equal_trees (Tree.both a b) (Tree.both c d) = equal_trees a c && equal_trees b d
equal_trees (Tree.member a) (Tree.member b) = equal_trees a b
equal_trees _ _ = false

-- two free classes: their versions and their bodies
abbrev pub equal_classes : FreeClass → FreeClass → Bool
equal_classes c d = c.minor == d.minor && (c.major == d.major && equal_trees c.body d.body)

-- the same free class, or none on both sides
unfoldable pub same_free : Option FreeClass → Option FreeClass → Bool
same_free a b = option_eq equal_classes a b

-- ---- how what two lists have at a path differs

-- how two contents differ, where the left one is compared as a class, and where it is compared by its bytes
abbrev pub what_between : Bool → Text → Text → Option What
what_between true a b = if is_sound (class_fault b) then (if same_free (free_in a) (free_in b) then None else Some whats.Tree) else Some whats.Malformed
what_between false a b = if bytes_eq a b then None else Some whats.Bytes

-- how what the left list and the right list have at a path differs
unfoldable pub what_at : Text → Option Text → Option Text → Option What
what_at p None None = None
what_at p (Some a) None = Some whats.Missing
what_at p None (Some b) = Some whats.Extra
what_at p (Some a) (Some b) = what_between (holds_class p a) a b

-- ---- the verdict on two lists

-- the verdict by what differs at one path alone
abbrev pub verdict_at : Text → Option What → Verdict
verdict_at p None = verdicts.Same
verdict_at p (Some what) = verdicts.Differs p what

-- of two verdicts, the first where it is less
abbrev pub by_order : Ordering → Verdict → Verdict → Verdict
by_order Less v w = v
by_order _ v w = w

-- Of two verdicts the one whose path is less in byte order. One that tells no difference gives way.
abbrev pub lesser : Verdict → Verdict → Verdict
lesser verdicts.Same w = w
lesser (verdicts.Differs p what) verdicts.Same = verdicts.Differs p what
lesser (verdicts.Differs p what) (verdicts.Differs q other) = by_order (slice_cmp nat_cmp p q) (verdicts.Differs p what) (verdicts.Differs q other)

-- the verdict by what two lists have at some paths
abbrev pub verdict_among : List GenFile → List GenFile → List Text → Verdict
verdict_among left right [] = verdicts.Same
verdict_among left right (p ∷ ps) = lesser (verdict_at p (what_at p (content_at left p) (content_at right p))) (verdict_among left right ps)

-- the verdict by what they have at each path of either, in whatever order their files stand
unfoldable pub verdict_of : List GenFile → List GenFile → Verdict
verdict_of left right = verdict_among left right (paths_of left ++ paths_of right)
