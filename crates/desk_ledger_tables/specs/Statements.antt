-- What the statements on the tables of a ledger mean. A column of a row is told by its place: its number stands at 0. Term
-- `col 0 k` is the k-th parameter, and `col 1 k` the k-th column of a row.
use Rattle.std.specs.Prelude.{◌≡◌, ℕ, pos, negsuc, List, [], ◌∷◌, codes, false, Option, Some, None, Ok, IsOkAnd, IfSome}
use Rattle.sqlite.specs.declared.types.Value.TheVariants.{Null, Int}
use Rattle.sqlite_value.specs.declared.keys.Collation.TheVariants.{Binary}
use Rattle.sqlite.specs.Term.{Term, lit, col, op2}
use Rattle.sqlite_sql.specs.declared.ops.BinaryOp.TheVariants.{Compare}
use Rattle.sqlite_sql.specs.declared.ops.CompareOp.TheVariants.{Eq}
use Rattle.sqlite.specs.Query.{Query, inner, end}
use Rattle.sqlite.specs.Schema.{Schema}
use Rattle.sqlite.specs.Table.{Table}
use Rattle.sqlite_schema.specs.declared.program.Program.{Program}
use Rattle.sqlite_schema.specs.declared.command.Conflict.TheVariants.{Abort, Replace}
use Rattle.sqlite_schema.specs.declared.command.Upsert.{Upsert}
use Rattle.sqlite.specs.Source.TheVariants.{Values}
use Rattle.sqlite.specs.Command.{Command}
use Rattle.sqlite.specs.Command.TheVariants.{InsertOr, Delete, Select, CreateTable}
use Rattle.sqlite.specs.Compile.{table_defined_by}
use Rattle.sqlite.specs.Given.{IsPlain}
use Rattle.sqlite.specs.Listing.{understood, reads_listing}
use Rattle.sqlite.specs.State.{text_of}
use Rattle.desk_ledger_tables.specs.declared.statements.Statement.{Statement}
use Rattle.desk_ledger_tables.specs.declared.statements.Statement.TheVariants.{MakeHeaders, MakeRows, SetHeader, FindHeader, PutRow, FindRow, FindRows, ForgetRow}
use Rattle.desk_ledger_tables.specs.Tables.{header_table, rows_table, no_schema, header_schema, ledger_schema}

-- the rows of a table that pass the tests, as the terms show them
abbrev pub query_of : ℕ → List Term → List Term → Query
query_of tree filter project = record {
  from = inner tree end;
  filter = filter;
  group = None;
  project = project;
  distinct = false;
  collations = [];
  order = [];
  limit = lit (Int (negsuc 0));
  offset = lit (Int (pos 0));
}

abbrev pub program_of : ℕ → List Term → List Term → Program
program_of tree filter project = record { lets = []; body = query_of tree filter project }

-- the new header: its number is 1, and its column for the number stays empty
abbrev pub header_terms : List Term
header_terms = lit (Int (pos 1)) ∷ lit Null ∷ col 0 0 ∷ col 0 1 ∷ col 0 2 ∷ []

-- the new row: its number is chosen
abbrev pub row_terms : List Term
row_terms = lit Null ∷ col 0 0 ∷ col 0 1 ∷ col 0 2 ∷ col 0 3 ∷ []

-- the target of the row is the parameter
abbrev pub has_target : Term
has_target = op2 (Compare Eq Binary) (col 1 1) (col 0 0)

-- the row has the number of the one that has the new row's target
abbrev pub has_number : Term
has_number = op2 (Compare Eq Binary) (col 1 0) (col 0 4)

-- the row keeps its number and its target, and takes source, digest and output of the new row, which stands behind the parameters and that number
abbrev pub written_over : List Term
written_over = col 1 0 ∷ col 1 0 ∷ col 1 1 ∷ col 0 7 ∷ col 0 8 ∷ col 0 9 ∷ []

-- where the new row's target has a row, that row is written over
abbrev pub on_same_target : Upsert
on_same_target = record { target = Some (1 ∷ []); update = Some (program_of 1 (has_number ∷ []) written_over) }

abbrev pub shown_columns : List Term
shown_columns = col 1 1 ∷ col 1 2 ∷ col 1 3 ∷ col 1 4 ∷ []

abbrev pub shown_names : List (List ℕ)
shown_names = codes "target" ∷ codes "source" ∷ codes "digest" ∷ codes "output" ∷ []

abbrev pub command : Statement → Command
command MakeHeaders = CreateTable
command MakeRows = CreateTable
command SetHeader = InsertOr 0 Replace (Values header_terms 5) []
command FindHeader = Select (program_of 0 [] (col 1 2 ∷ col 1 3 ∷ col 1 4 ∷ [])) (codes "from_root" ∷ codes "to_root" ∷ codes "rules" ∷ [])
command PutRow = InsertOr 1 Abort (Values row_terms 5) (on_same_target ∷ [])
command FindRow = Select (program_of 1 (has_target ∷ []) shown_columns) shown_names
command FindRows = Select (program_of 1 [] shown_columns) shown_names
command ForgetRow = Delete 1 (program_of 1 (has_target ∷ []) (col 1 0 ∷ []))

-- the tables that there are before it
abbrev pub schema_before : Statement → Schema
schema_before MakeHeaders = no_schema
schema_before MakeRows = header_schema
schema_before _ = ledger_schema

-- the table that it makes
abbrev pub table_made : Statement → Option Table
table_made MakeHeaders = Some header_table
table_made MakeRows = Some rows_table
table_made _ = None

-- The text is the statement, over the tables that there are before it.
pub record Means (statement : Statement) (text : List ℕ) : Type 0 where
  -- it is understood as the statement's command
  pub command_is : IsOkAnd (understood (schema_before statement) text) (λ c. c.command ≡ command statement)
  -- it answers no rows that it wrote, and doesn't read the time
  pub plain : IsPlain (understood (schema_before statement) text)
  -- the text has no other statement
  pub whole : IsOkAnd (understood (schema_before statement) text) (λ c. text_of text c ≡ text)
  -- it doesn't read the list of the tables
  pub unlisted : reads_listing (schema_before statement) text ≡ false
  -- it defines the table that it makes
  pub made : IfSome (table_made statement) (λ table. table_defined_by text ≡ Ok table)
