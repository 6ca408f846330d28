-- The text of the statement that writes rows, and the values of its parameters.
use Rattle.std.specs.Prelude.{ℕ, zero, suc, ◌-◌, List, [], ◌++◌, codes}
use Rattle.std.specs.List.{flat_map}
use Rattle.sqlite.specs.declared.types.Value.{Value}
use Rattle.desk_base.specs.Names.{Text}
use Rattle.desk_ledger.specs.declared.keeper.Row.{Row}
use Rattle.desk_ledger_tables.specs.Rows.{row_values}
use Rattle.desk_sqlite.specs.declared.tables.OnConflict.{OnConflict}
use Rattle.desk_sqlite.specs.declared.tables.OnConflict.TheVariants.{Abort, Replace}

-- what is done with a row whose target has one already
abbrev pub verb : OnConflict → Text
verb Abort = codes "INSERT"
verb Replace = codes "INSERT OR REPLACE"

-- the places of so many further rows' values
abbrev pub further : ℕ → Text
further zero = []
further (suc n) = further n ++ codes ", (?, ?, ?, ?)"

-- the statement that writes so many rows, of which there is one at least
abbrev pub insertion : OnConflict → ℕ → Text
insertion on_conflict rows = verb on_conflict ++ codes " INTO rows2 VALUES (?, ?, ?, ?)" ++ further (rows - 1)

-- the values of rows, one behind the other
abbrev pub values_in : List Row → List Value
values_in rows = flat_map row_values rows
