-- Descriptors (JVMS 4.3), as trees and as texts.
use Rattle.std.specs.Prelude.{◌≡◌, ℕ, ◌+◌, ◌-◌, Bool, true, false, ◌&&◌, ◌||◌, ◌==◌, nat_le, nat_lt, List, [], ◌∷◌, ◌++◌, if◌then◌else◌}
use Rattle.std.specs.List.{list_all}
use Rattle.desk_base.specs.Names.{Text, is_class_name, is_reserved}

-- A field type (JVMS 4.3.2): one of the letters B C D F I J S Z, a class by its name, or an array of a field type.
pub data FieldType : Type 0 where
  base : ℕ → FieldType
  class : Text → FieldType
  array : FieldType → FieldType

-- What a method returns (JVMS 4.3.3): nothing, which is written `V`, or a value.
pub data Returned : Type 0 where
  void : Returned
  value : FieldType → Returned

-- A field descriptor, a method descriptor with its parameters and what it returns, or a return descriptor.
pub data Descriptor : Type 0 where
  field : FieldType → Descriptor
  method : List FieldType → Returned → Descriptor
  returned : Returned → Descriptor

-- Printing: each in front of a text, with each class name spelled by f

unfoldable pub type_text : (Text → Text) → FieldType → Text → Text
type_text f (FieldType.base c) more = c ∷ more
type_text f (FieldType.class name) more = 76 ∷ (f name ++ 59 ∷ more)
type_text f (FieldType.array t) more = 91 ∷ type_text f t more

unfoldable pub types_text : (Text → Text) → List FieldType → Text → Text
types_text f [] more = more
types_text f (t ∷ ts) more = type_text f t (types_text f ts more)

unfoldable pub returned_text : (Text → Text) → Returned → Text
returned_text f Returned.void = 86 ∷ []
returned_text f (Returned.value t) = type_text f t []

-- the text of a descriptor, with each class name spelled by f
unfoldable pub text_with : (Text → Text) → Descriptor → Text
text_with f (Descriptor.field t) = type_text f t []
text_with f (Descriptor.method ts r) = 40 ∷ types_text f ts (41 ∷ returned_text f r)
text_with f (Descriptor.returned r) = returned_text f r

abbrev pub as_is : Text → Text
as_is name = name

-- the text of a descriptor
abbrev pub print : Descriptor → Text
print = text_with as_is

-- Exchanging

unfoldable pub map_type : (Text → Text) → FieldType → FieldType
map_type f (FieldType.base c) = FieldType.base c
map_type f (FieldType.class name) = FieldType.class (f name)
map_type f (FieldType.array t) = FieldType.array (map_type f t)

unfoldable pub map_types : (Text → Text) → List FieldType → List FieldType
map_types f [] = []
map_types f (t ∷ ts) = map_type f t ∷ map_types f ts

unfoldable pub map_returned : (Text → Text) → Returned → Returned
map_returned f Returned.void = Returned.void
map_returned f (Returned.value t) = Returned.value (map_type f t)

-- the descriptor with each class name exchanged
unfoldable pub renamed : (Text → Text) → Descriptor → Descriptor
renamed f (Descriptor.field t) = Descriptor.field (map_type f t)
renamed f (Descriptor.method ts r) = Descriptor.method (map_types f ts) (map_returned f r)
renamed f (Descriptor.returned r) = Descriptor.returned (map_returned f r)

-- The class names, in their order, each in front of further names

unfoldable pub type_names : FieldType → List Text → List Text
type_names (FieldType.base c) more = more
type_names (FieldType.class name) more = name ∷ more
type_names (FieldType.array t) more = type_names t more

unfoldable pub types_names : List FieldType → List Text → List Text
types_names [] more = more
types_names (t ∷ ts) more = type_names t (types_names ts more)

unfoldable pub returned_names : Returned → List Text
returned_names Returned.void = []
returned_names (Returned.value t) = type_names t []

-- the class names of a descriptor
unfoldable pub names_of : Descriptor → List Text
names_of (Descriptor.field t) = type_names t []
names_of (Descriptor.method ts r) = types_names ts (returned_names r)
names_of (Descriptor.returned r) = returned_names r

-- Forms

-- one of B C D F I J S Z
abbrev pub is_base : ℕ → Bool
is_base c = c == 66 || c == 67 || c == 68 || c == 70 || c == 73 || c == 74 || c == 83 || c == 90

-- J and D take two units
abbrev pub is_wide : ℕ → Bool
is_wide c = c == 74 || c == 68

-- the most dimensions of an array (JVMS 4.3.2), and the most units of a method's parameters (JVMS 4.3.3)
abbrev pub most_dimensions : ℕ
most_dimensions = 255

abbrev pub most_units : ℕ
most_units = 255

-- a type with at most so many dimensions
unfoldable pub is_type : ℕ → FieldType → Bool
is_type most (FieldType.base c) = is_base c
is_type most (FieldType.class name) = is_class_name name
is_type most (FieldType.array t) = nat_le 1 most && is_type (most - 1) t

-- J and D take two units, each other type takes one; `this` is not counted
unfoldable pub units : FieldType → ℕ
units (FieldType.base c) = if is_wide c then 2 else 1
units _ = 1

unfoldable pub units_of : List FieldType → ℕ
units_of [] = 0
units_of (t ∷ ts) = units t + units_of ts

unfoldable pub is_returned : Returned → Bool
is_returned Returned.void = true
is_returned (Returned.value t) = is_type most_dimensions t

unfoldable pub is_formed : Descriptor → Bool
is_formed (Descriptor.field t) = is_type most_dimensions t
is_formed (Descriptor.method ts r) = list_all (is_type most_dimensions) ts && nat_le (units_of ts) most_units && is_returned r
is_formed (Descriptor.returned r) = is_returned r

-- The three kinds
pub data DescriptorKind : Type 0 where
  field : DescriptorKind
  method : DescriptorKind
  return : DescriptorKind

unfoldable pub kind_of : Descriptor → DescriptorKind
kind_of (Descriptor.field t) = DescriptorKind.field
kind_of (Descriptor.method ts r) = DescriptorKind.method
kind_of (Descriptor.returned r) = DescriptorKind.return

-- a text is a descriptor of a kind, and of which tree
pub record IsDescriptor (wanted : DescriptorKind) (text : Text) (d : Descriptor) : Type 0 where
  pub kind : kind_of d ≡ wanted
  pub formed : is_formed d ≡ true
  pub prints : print d ≡ text

-- Telling whether a text is a descriptor, byte by byte. A law of the readers says that this is so exactly where some tree
-- is one of that text.

-- where a type stands: alone, as a parameter behind others of so many units, or as what a method returns
pub data Position : Type 0 where
  alone : Position
  parameter : ℕ → Position
  result : Position

-- what a descriptor goes on with: a method's `(`; a type behind so many `[`; the rest of a class name, and whether a part
-- of it has begun; nothing; or it is none
pub data Awaited : Type 0 where
  opening : Awaited
  type_behind : Position → ℕ → Awaited
  name_rest : Position → Bool → Awaited
  over : Awaited
  wrong : Awaited

-- behind a type, which is wide or not
abbrev pub behind : Position → Bool → Awaited
behind Position.alone wide = Awaited.over
behind Position.result wide = Awaited.over
behind (Position.parameter u) true = if nat_lt u 254 then Awaited.type_behind (Position.parameter (u + 2)) 0 else Awaited.wrong
behind (Position.parameter u) false = if nat_lt u 255 then Awaited.type_behind (Position.parameter (u + 1)) 0 else Awaited.wrong

-- behind a byte that begins no type
abbrev pub ends : Position → ℕ → Awaited
ends Position.alone b = Awaited.wrong
ends Position.result b = if b == 86 then Awaited.over else Awaited.wrong
ends (Position.parameter u) b = if b == 41 then Awaited.type_behind Position.result 0 else Awaited.wrong

abbrev pub behind_in_type : Position → ℕ → ℕ → Awaited
behind_in_type position dimensions b =
    if b == 91 then (if nat_lt dimensions 255 then Awaited.type_behind position (dimensions + 1) else Awaited.wrong)
    else if b == 76 then Awaited.name_rest position false
    else if is_base b then behind position (dimensions == 0 && is_wide b)
    else if dimensions == 0 then ends position b
    else Awaited.wrong

abbrev pub behind_in_name : Position → Bool → ℕ → Awaited
behind_in_name position inside b =
    if b == 59 then (if inside then behind position false else Awaited.wrong)
    else if b == 47 then (if inside then Awaited.name_rest position false else Awaited.wrong)
    else if is_reserved b then Awaited.wrong
    else Awaited.name_rest position true

-- behind a byte
unfoldable pub step : Awaited → ℕ → Awaited
step Awaited.opening b = if b == 40 then Awaited.type_behind (Position.parameter 0) 0 else Awaited.wrong
step (Awaited.type_behind position dimensions) b = behind_in_type position dimensions b
step (Awaited.name_rest position inside) b = behind_in_name position inside b
step Awaited.over b = Awaited.wrong
step Awaited.wrong b = Awaited.wrong

unfoldable pub run : Awaited → Text → Awaited
run state [] = state
run state (b ∷ t) = run (step state b) t

abbrev pub is_over : Awaited → Bool
is_over Awaited.over = true
is_over _ = false

abbrev pub start : DescriptorKind → Awaited
start DescriptorKind.field = Awaited.type_behind Position.alone 0
start DescriptorKind.method = Awaited.opening
start DescriptorKind.return = Awaited.type_behind Position.result 0

-- whether a text is a descriptor of a kind
unfoldable pub is_descriptor : DescriptorKind → Text → Bool
is_descriptor kind text = is_over (run (start kind) text)
