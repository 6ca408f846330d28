-- The parts of a Module (JVMS 4.7.25).
use Rattle.std.specs.Prelude.{[], ◌∷◌}
use Rattle.desk_base.specs.declared.kinds.UseKind.TheVariants.{Class, Module, Package, PlainOrNone}
use Rattle.desk_format.specs.declared.attributes.Slot.TheVariants.{Index, Number}
use Rattle.desk_format.specs.Layouts.{Layout}
use Rattle.desk_format.specs.Rows.{rows, many, row_layout, table_layout}

-- the modules that it requires
abbrev pub required : Layout
required = table_layout (Index Module ∷ Number ∷ Index PlainOrNone ∷ [])

-- the packages that it exports, or those that it opens, each to modules
abbrev pub packages : Layout
packages = many (rows (row_layout (Index Package ∷ Number ∷ []) ∷ table_layout (Index Module ∷ []) ∷ []))

-- the services that it uses
abbrev pub used : Layout
used = table_layout (Index Class ∷ [])

-- the services that it provides, each by its implementations
abbrev pub provided : Layout
provided = many (rows (row_layout (Index Class ∷ []) ∷ table_layout (Index Class ∷ []) ∷ []))
