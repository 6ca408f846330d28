-- The class file of a generated class (JVMS 4.1): version 52.0, a class with one field and neither methods nor attributes.
use Rattle.std.specs.Prelude.{ℕ, ◌++◌, [], ◌∷◌, Some, codes, map}
use Rattle.desk_base.specs.Names.{Text}
use Rattle.desk_base.specs.Entries.{Pool, utf8, class, string, name_and_type, fieldref}
use Rattle.desk_format.specs.PoolBytes.{two, print_pool}
use Rattle.desk_format.specs.Classes.{magic}
use Rattle.desk_gen.specs.Names.{class_name, dotted_name, descriptor}

-- The constant pool of class `i`, which names class `j`: entries 1 to 13.
abbrev pub pool : ℕ → ℕ → Pool
pool i j = map Some (
    utf8 (class_name i)
    ∷ class 1
    ∷ utf8 (codes "java/lang/Object")
    ∷ class 3
    ∷ utf8 (class_name j)
    ∷ class 5
    ∷ utf8 (dotted_name j)
    ∷ string 7
    ∷ utf8 (descriptor j)
    ∷ utf8 (codes "f")
    ∷ name_and_type 10 9
    ∷ fieldref 6 11
    ∷ string 1
    ∷ [])

-- the minor and the major version
abbrev pub version : Text
version = two 0 ++ two 52

-- the access flags ACC_PUBLIC and ACC_SUPER, this class, the super class, and no interfaces
abbrev pub class_head : Text
class_head = two 33 ++ (two 2 ++ (two 4 ++ two 0))

-- one field: no access flags, its name, its descriptor, and no attributes
abbrev pub fields : Text
fields = two 1 ++ (two 0 ++ (two 10 ++ (two 9 ++ two 0)))

-- no methods and no attributes
abbrev pub class_end : Text
class_end = two 0 ++ two 0

abbrev pub class_file : ℕ → ℕ → Text
class_file i j = magic ++ (version ++ (print_pool (pool i j) ++ (class_head ++ (fields ++ class_end))))
