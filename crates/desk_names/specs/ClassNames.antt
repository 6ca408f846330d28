-- Class names (JVMS 4.2.1), cut into package and simple name.
use Rattle.std.specs.Prelude.{[], ◌∷◌, ◌++◌}
use Rattle.desk_base.specs.Names.{Text, segments, written, front, simple, slash}

-- the package of a class name: all its parts but the last
unfoldable pub package_of : Text → Text
package_of name = written slash (front (segments slash name))

-- its simple name: the last part
unfoldable pub simple_of : Text → Text
simple_of name = simple (segments slash name)

-- a class name by its package and its simple name: with a `/` between them, or the simple name alone where the package is
-- empty
abbrev pub class_name : Text → Text → Text
class_name [] last = last
class_name (b ∷ t) last = (b ∷ t) ++ slash ∷ last
