-- Class files that were read.
use Rattle.std.specs.Prelude.{ℕ, List, [], ◌∷◌, length, Option, Some, None}
use Rattle.desk_base.specs.Names.{Package}
use Rattle.desk_sites.specs.Answers.{class_sites}
use Rattle.desk_sites.specs.declared.class.ClassSites.{ClassSites}
use Rattle.desk_calls.specs.declared.batches.ClassFile.{ClassFile}

-- how many bytes a class file has
abbrev pub size_of : ClassFile → ℕ
size_of file = length file.bytes

-- what a class file gives
abbrev pub sites_in : Package → ClassFile → ClassSites
sites_in scope file = class_sites scope file.path file.bytes

-- what was read of a file, as a list: a class, or nothing
abbrev pub classes_of : Option ClassFile → List ClassFile
classes_of None = []
classes_of (Some file) = file ∷ []
