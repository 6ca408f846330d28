-- The new pool: each old index keeps its tag, the texts are split, and each index that names a text is exchanged.
use Rattle.std.specs.Prelude.{ℕ, List, map, option_map}
use Rattle.desk_base.specs.declared.kinds.Role.{Role}
use Rattle.desk_base.specs.declared.kinds.Role.TheVariants as roles
use Rattle.desk_base.specs.declared.kinds.Used.{Used}
use Rattle.desk_base.specs.Names.{Text}
use Rattle.desk_base.specs.Entries.{Entry, class, string, name_and_type, method_type, module_named, package_named, Pool, text_at}
use Rattle.desk_format.specs.Resolved.{Images, image}
use Rattle.desk_format.specs.Exchange.{Change}
use Rattle.desk_format.specs.Split.{Want, missing_texts, split, chosen}

-- what the use of an index in a role wants
abbrev pub want_in_role : Images → Pool → Role → ℕ → Want
want_in_role im pool role i = record { index = i; text = image im role (text_at pool i) }

abbrev pub wants : Images → Pool → List Used → List Want
wants im pool us = map (λ u. want_in_role im pool u.role u.index) us

-- the index that takes the place of one in a role
abbrev pub Choice : Type 0
Choice = Role → ℕ → ℕ

-- an entry with the index of each text that it names exchanged
abbrev pub with_texts : Choice → Entry → Entry
with_texts g (class i) = class (g roles.Class i)
with_texts g (string i) = string (g roles.Str i)
with_texts g (name_and_type n d) = name_and_type (g roles.Plain n) (g roles.Descriptor d)
with_texts g (method_type d) = method_type (g roles.Descriptor d)
with_texts g (module_named i) = module_named (g roles.Module i)
with_texts g (package_named i) = package_named (g roles.Package i)
with_texts g e = e

-- the pool with its texts split, where all uses are these
abbrev pub new_texts : Images → Pool → List Used → Pool
new_texts im pool us = split (wants im pool us) pool

abbrev pub choice : Images → Pool → List Used → Choice
choice im pool us role i = chosen (new_texts im pool us) (want_in_role im pool role i)

abbrev pub new_pool : Images → Pool → List Used → Pool
new_pool im pool us = map (option_map (with_texts (choice im pool us))) (new_texts im pool us)

-- the missing texts
abbrev pub added : Images → Pool → List Used → List Text
added im pool us = missing_texts (wants im pool us) pool

-- the new index of each use, for a body that begins at an offset, before and after
abbrev pub change_by : Choice → ℕ → ℕ → Change
change_by g from to = record { index = λ u. g u.role u.index; from = from; to = to }
