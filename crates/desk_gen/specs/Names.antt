-- The names of the generated classes. The class of number `i` is `Ci` in the package `javax.gen.pK`, with `K` the last digit of `i`.
use Rattle.std.specs.Prelude.{ℕ, ◌%◌, ◌++◌, codes, decimal}
use Rattle.desk_base.specs.Names.{Text}

-- as a class file has it (JVMS 4.2.1)
abbrev pub class_name : ℕ → Text
class_name i = codes "javax/gen/p" ++ (decimal (i % 10) ++ (codes "/C" ++ decimal i))

-- with dots, as text in a program has it
abbrev pub dotted_name : ℕ → Text
dotted_name i = codes "javax.gen.p" ++ (decimal (i % 10) ++ (codes ".C" ++ decimal i))

-- the descriptor of a field of the class (JVMS 4.3.2)
abbrev pub descriptor : ℕ → Text
descriptor i = codes "Ljavax/gen/p" ++ (decimal (i % 10) ++ (codes "/C" ++ (decimal i ++ codes ";")))
