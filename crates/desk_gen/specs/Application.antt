-- The files of a generated application.
use Rattle.std.specs.Prelude.{ℕ, ◌+◌, ◌*◌, ◌%◌, ◌==◌, ◌&&◌, not, nat_le, Bool, ◌++◌, List, [], ◌∷◌, codes, map}
use Rattle.std.specs.List.{range_with_len}
use Rattle.desk_folders.specs.declared.folders.GenFile.{GenFile}
use Rattle.desk_gen.specs.Names.{class_name}
use Rattle.desk_gen.specs.Classes.{class_file}

-- how many classes an application may have
abbrev pub is_count : ℕ → Bool
is_count n = not (n == 0) && nat_le n 20000

-- the number of the class that class `i` of `n` names
abbrev pub neighbour : ℕ → ℕ → ℕ
neighbour n i = (7 * i + 3) % n

-- class `i` of `n`
abbrev pub class_at : ℕ → ℕ → GenFile
class_at n i = record { path = class_name i ++ codes ".class"; content = class_file i (neighbour n i) }

abbrev pub classes : ℕ → List GenFile
classes n = map (class_at n) (range_with_len 0 n)

-- the providers of a service that one of the classes is
abbrev pub service_file : GenFile
service_file = record { path = codes "META-INF/services/javax.gen.p0.C0"; content = codes "javax.gen.p1.C1\n" }

-- the classes in the order of their numbers, and the service file
abbrev pub generated : ℕ → List GenFile
generated n = classes n ++ service_file ∷ []

-- the rule file that renames them
abbrev pub rule_file : GenFile
rule_file = record { path = codes "renames.properties"; content = codes "javax.gen.*=jakarta.gen\n" }
