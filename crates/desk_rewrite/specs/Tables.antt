-- The images of texts by index and role, as the code keeps them.
use Rattle.std.specs.Prelude.{◌≡◌, ◌≤◌, ℕ, Bool, true, false, List, length, slice_get, Option, Some, None, if◌then◌else◌, All}
use Rattle.std.specs.Ordering.{nat_cmp, ordering_then, is_eq}
use Rattle.std.specs.declared.cmp.Ordering.{Ordering}
use Rattle.desk_base.specs.Names.{Text}
use Rattle.desk_base.specs.Entries.{Pool, text_at}
use Rattle.desk_base.specs.declared.kinds.Role.{Role}
use Rattle.desk_base.specs.declared.kinds.Role.TheVariants as roles
use Rattle.desk_base.specs.declared.kinds.Used.{Used}
use Rattle.desk_format.specs.declared.members.Member.{Member}
use Rattle.desk_format.specs.Resolved.{Images, image}
use Rattle.desk_rules.specs.Images.{IsImage}
use Rattle.desk_new_pool.specs.Wants.{numbered}
use Rattle.desk_rewrite.specs.declared.seen.ByRole.{ByRole}
use Rattle.desk_rewrite.specs.declared.seen.Looked.{Looked}
use Rattle.desk_rewrite.specs.declared.seen.Looked.TheVariants as looks
use Rattle.desk_rewrite.specs.declared.table.ImageTable.{ImageTable}
use Rattle.desk_rewrite.specs.declared.table.TextRole.{TextRole}
use Rattle.desk_rewrite.specs.declared.table.TextRole.TheVariants as text_roles

-- ---- roles

-- a role as one whose texts may have another image; none where each text is its own image
abbrev pub text_role_of : Role → Option TextRole
text_role_of roles.Class = Some text_roles.Class
text_role_of roles.Package = Some text_roles.Package
text_role_of roles.Module = None
text_role_of roles.Descriptor = Some text_roles.Descriptor
text_role_of roles.ClassSig = Some text_roles.ClassSig
text_role_of roles.MethodSig = Some text_roles.MethodSig
text_role_of roles.FieldSig = Some text_roles.FieldSig
text_role_of roles.Str = Some text_roles.Str
text_role_of roles.Plain = None
text_role_of roles.AttrName = None

abbrev pub role_of : TextRole → Role
role_of text_roles.Class = roles.Class
role_of text_roles.Package = roles.Package
role_of text_roles.Descriptor = roles.Descriptor
role_of text_roles.ClassSig = roles.ClassSig
role_of text_roles.MethodSig = roles.MethodSig
role_of text_roles.FieldSig = roles.FieldSig
role_of text_roles.Str = roles.Str

-- the place of a role among those whose texts may have another image
abbrev pub rank : TextRole → ℕ
rank text_roles.Class = 0
rank text_roles.Package = 1
rank text_roles.Descriptor = 2
rank text_roles.ClassSig = 3
rank text_roles.MethodSig = 4
rank text_roles.FieldSig = 5
rank text_roles.Str = 6

-- ---- keys

-- an index and a role
abbrev pub Key : Type 0
Key = ℕ × TextRole

abbrev pub key_cmp : Key → Key → Ordering
key_cmp x y = ordering_then (nat_cmp x.0 y.0) (nat_cmp (rank x.1) (rank y.1))

-- ---- what is known of texts

-- what is known of a text in a role
abbrev pub looked_of : ByRole → TextRole → Looked
looked_of known text_roles.Class = known.class
looked_of known text_roles.Package = known.package
looked_of known text_roles.Descriptor = known.descriptor
looked_of known text_roles.ClassSig = known.class_signature
looked_of known text_roles.MethodSig = known.method_signature
looked_of known text_roles.FieldSig = known.field_signature
looked_of known text_roles.Str = known.string

abbrev pub looked_in : Option ByRole → TextRole → Looked
looked_in None text_role = looks.NotYet
looked_in (Some known) text_role = looked_of known text_role

-- what is known of the text of a key, by what is known of the text at each index
abbrev pub looked_at : List ByRole → Key → Looked
looked_at rows key = looked_in (slice_get rows key.0) key.1

-- this is known of the text of a key, and of each other what was known before
abbrev pub Notes : List ByRole → Key → Looked → List ByRole → Type 0
Notes old key looked new = (q : Key) → looked_at new q ≡ (if is_eq (key_cmp key q) then looked else looked_at old q)

abbrev pub was_looked_at : Looked → Bool
was_looked_at looks.NotYet = false
was_looked_at looks.Own = true
was_looked_at (looks.Image n) = true

-- the number of an image that is another text, and else 0
abbrev pub number_of : Looked → ℕ
number_of looks.NotYet = 0
number_of looks.Own = 0
number_of (looks.Image n) = n

-- ---- tables

-- the images that are other texts
abbrev pub Table : Type 0
Table = ImageTable

-- whether the text of a key was looked at
abbrev pub is_seen : Table → Key → Bool
is_seen table key = was_looked_at (looked_at table.rows.items key)

-- the number of the image that a table has at a key, and 0 where it has none
abbrev pub number_at : Table → Key → ℕ
number_at table key = number_of (looked_at table.rows.items key)

-- what a table has at a key
abbrev pub image_at : Table → Key → Option Text
image_at table key = numbered table.images.items (number_at table key)

-- Each number is that of an image.
abbrev pub IsNumberedTable : Table → Type 0
IsNumberedTable table = (key : Key) → number_at table key ≤ length table.images.items

-- the image of the text at the index of a key, as an answer
abbrev pub IsAnswer : Images → Pool → Key → Option Text → Type 0
IsAnswer im pool key answer = IsImage (text_at pool key.0) (image im (role_of key.1) (text_at pool key.0)) answer

-- What a table has at a key is the image of its text, and nothing where that is the text itself.
abbrev pub FindsAt : Images → Pool → Table → Key → Type 0
FindsAt im pool table key = IsAnswer im pool key (image_at table key)

-- ---- what is found

abbrev pub found_by : Table → ℕ → Option TextRole → Option Text
found_by table i None = None
found_by table i (Some text_role) = image_at table (i, text_role)

-- the image of the text at an index in a role, where a table has one that is another text
abbrev pub image_found : Table → ℕ → Role → Option Text
image_found table i role = found_by table i (text_role_of role)

-- What is found for an index in a role is the image of its text.
abbrev pub Finds : Images → Pool → Table → Role → ℕ → Type 0
Finds im pool table role i = IsImage (text_at pool i) (image im role (text_at pool i)) (image_found table i role)

-- What is found for each use is the image of its text.
abbrev pub HasImages : Images → Pool → List Used → Table → Type 0
HasImages im pool us table = All (λ (u : Used). Finds im pool table u.role u.index) us

-- What is found for the descriptor of each member is its image.
abbrev pub HasDescriptors : Images → Pool → Table → List Member → Type 0
HasDescriptors im pool table ms = All (λ (m : Member). Finds im pool table roles.Descriptor m.descriptor) ms
