-- The formats of a ledger's file, by the statements that made its tables.
use Rattle.std.specs.Prelude.{List, [], ◌∷◌, map}
use Rattle.sqlite.specs.declared.types.Value.{Value}
use Rattle.sqlite.specs.declared.types.Value.TheVariants.{Text as Shown}
use Rattle.sqlite.specs.Order.{Row, column}
use Rattle.desk_base.specs.Names.{Text}
use Rattle.desk_sqlite.specs.declared.formats.TheConstants.{FOLDER, WRITTEN}
use Rattle.desk_sqlite.specs.declared.formats.Format.{Format}
use Rattle.desk_sqlite.specs.declared.formats.Format.TheVariants.{Present, OneWithFolder, One}

-- the statements that made tables, as the list of tables shows them
abbrev pub made_by : List Row → List Value
made_by tables = map (λ table. column table 0) tables

abbrev pub shown : List Text → List Value
shown statements = map Shown statements

-- the statements that make the tables of a format, in the order of the tables' names, where these two make the tables of header and rows
abbrev pub statements_of : Text → Text → Format → List Text
statements_of headers rows Present = FOLDER.now ∷ headers ∷ rows ∷ []
statements_of headers rows OneWithFolder = FOLDER.now ∷ headers ∷ WRITTEN.now ∷ []
statements_of headers rows One = headers ∷ WRITTEN.now ∷ []
