-- The file of the inverse of rules, or why there is none.
use Rattle.std.specs.Prelude.{◌≡◌, ⊤, List, [], ◌∷◌, Option, Some, None, Result, Ok, Err}
use Rattle.std.specs.List.{filter}
use Rattle.desk_base.specs.Names.{Text}
use Rattle.desk_packages.specs.Renames.{Renaming, changes, key_of}
use Rattle.desk_rules.specs.Rules.{Rules}
use Rattle.desk_rules.specs.Others.{first_other}
use Rattle.desk_rules.specs.declared.InvertFault.{InvertFault}
use Rattle.desk_rules.specs.declared.InvertFault.TheVariants.{NotRenames, Nothing, Overlap}
use Rattle.desk_invert.specs.Inverse.{inverse, first_overlap}
use Rattle.desk_invert.specs.Files.{file_of}
use Rattle.desk_invert.specs.declared.InvertError.{InvertError}
use Rattle.desk_invert.specs.declared.InvertError.TheVariants.{Fault, Memory}

-- what comes of it where no other file has a key
abbrev pub unless_other : Option Text → Result Text InvertFault → Result Text InvertFault
unless_other None rest = rest
unless_other (Some file) rest = Err (NotRenames file)

-- what comes of it where one rename at least changes
abbrev pub unless_nothing : List Renaming → Result Text InvertFault → Result Text InvertFault
unless_nothing [] rest = Err Nothing
unless_nothing (r ∷ rs) rest = rest

-- what comes of it where no two overlap
abbrev pub unless_overlap : Option (Renaming × Renaming) → Result Text InvertFault → Result Text InvertFault
unless_overlap None rest = rest
unless_overlap (Some pair) rest = Err (Overlap (key_of pair.0) (key_of pair.1))

-- the file of the inverse of renames, or why there is none
abbrev pub inverted : List Renaming → Result Text InvertFault
inverted renames = unless_nothing (filter changes renames) (unless_overlap (first_overlap renames) (Ok (file_of (inverse renames))))

-- the file of the inverse of rules, or why there is none: there are other rules than renames, none changes, or two overlap
abbrev pub inversion : Rules → Result Text InvertFault
inversion rules = unless_other (first_other rules) (inverted rules.renames)

-- the fault of what was found; want of memory comes freely
abbrev pub IsFaultOf : Result Text InvertFault → InvertError → Type 0
IsFaultOf found (Fault fault) = found ≡ Err fault
IsFaultOf found Memory = ⊤

-- a fault is that of two renames
abbrev pub IsOverlapOf : Renaming → Renaming → InvertFault → Type 0
IsOverlapOf r s (NotRenames file) = ⊥
IsOverlapOf r s Nothing = ⊥
IsOverlapOf r s (Overlap first second) = (first ≡ key_of r) × (second ≡ key_of s)
