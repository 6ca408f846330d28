-- The call sites of a class: the instructions that name a member of a class in a package.
use Rattle.std.specs.Prelude.{ℕ, Bool, false, ◌&&◌, nat_le, List, [], ◌∷◌, map, filter, Option, Some, None, option_map}
use Rattle.std.specs.List.{flat_map}
use Rattle.desk_base.specs.Names.{Text, Package}
use Rattle.desk_base.specs.Entries.{Pool}
use Rattle.desk_base.specs.Misfits.{or_else}
use Rattle.desk_base.specs.declared.faults.CodeFault.{CodeFault}
use Rattle.desk_code.specs.declared.places.CodeAt.{CodeAt}
use Rattle.desk_code.specs.declared.reader.Instruction.{Instruction}
use Rattle.desk_code.specs.Codes.{code_bytes}
use Rattle.desk_code.specs.Instructions.{Instructions, instructions_of}
use Rattle.desk_sites.specs.declared.sites.Site.{Site}
use Rattle.desk_sites.specs.Packages.{named_class, is_in_package}
use Rattle.desk_sites.specs.Members.{member_class}
use Rattle.desk_sites.specs.Faults.{moved_fault}

-- B2 to B9: getfield and its kin, and the calls of methods but invokedynamic (JVMS 6.5)
abbrev pub names_member : ℕ → Bool
names_member opcode = nat_le 178 opcode && nat_le opcode 185

-- whether the member at an index is one of a class in a package, or below it
abbrev pub names_in : Pool → Package → Option ℕ → Bool
names_in pool scope None = false
names_in pool scope (Some i) = is_in_package scope (named_class (member_class pool i))

abbrev pub is_site : Pool → Package → Instruction → Bool
is_site pool scope i = names_member i.opcode && names_in pool scope i.index

-- ---- the sites of code

abbrev pub site_in : CodeAt → Instruction → Site
site_in code i = record { code = code; instruction = i }

abbrev pub sites_among : Pool → Package → CodeAt → List Instruction → List Site
sites_among pool scope code is = map (site_in code) (filter (is_site pool scope) is)

-- a code array of the class of some bytes, as it reads
abbrev pub read_code : Pool → Text → CodeAt → Instructions
read_code pool bytes code = instructions_of pool (code_bytes bytes code)

-- its sites, in order of place
abbrev pub sites_of_code : Pool → Package → Text → CodeAt → List Site
sites_of_code pool scope bytes code = sites_among pool scope code (read_code pool bytes code).instructions

abbrev pub sites_of_codes : Pool → Package → Text → List CodeAt → List Site
sites_of_codes pool scope bytes = flat_map (sites_of_code pool scope bytes)

-- ---- code that doesn't read

-- its fault, by its place in the file
abbrev pub code_fault : Pool → Text → CodeAt → Option CodeFault
code_fault pool bytes code = option_map (moved_fault code.at) (read_code pool bytes code).fault

-- the fault of the first code array that doesn't read
abbrev pub first_fault : Pool → Text → List CodeAt → Option CodeFault
first_fault pool bytes [] = None
first_fault pool bytes (code ∷ codes) = or_else (code_fault pool bytes code) (first_fault pool bytes codes)
