-- The tables of a ledger.
use Rattle.std.specs.Prelude.{true, false, ℕ, [], ◌∷◌, List, Some, None, codes}
use Rattle.sqlite.specs.Collation.TheVariants.{Binary}
use Rattle.sqlite.specs.declared.types.Value.TheVariants.{Null}
use Rattle.sqlite.specs.Table.{Table}
use Rattle.sqlite_schema.specs.declared.schema.Column.{Column}
use Rattle.sqlite.specs.Schema.{Schema}
use Rattle.sqlite.specs.Kind.TheVariants.{Integer, Blob}
use Rattle.sqlite_value.specs.Keys.{plain}
use Rattle.sqlite.specs.Change.{created}

-- a column of bytes
abbrev bytes_column : List ℕ → Column
bytes_column name = record { name = name; kind = Blob; is_strict = true; not_null = true; default = Null; collation = Binary }

-- the table of the header, whose only row has the number 1
abbrev pub header_table : Table
header_table = record {
  name = codes "header";
  tree = 0;
  columns = (record { name = codes "number"; kind = Integer; is_strict = true; not_null = false; default = Null; collation = Binary })
      ∷ bytes_column (codes "from_root") ∷ bytes_column (codes "to_root") ∷ bytes_column (codes "rules") ∷ [];
  key = Some 0;
  primary = 0 ∷ [];
  uniques = [];
  orders = [];
  checks = [];
  references = [];
  computed = [];
  stamps = record { places = []; terms = []; formats = [] };
  is_counted = false;
}

-- the table of the rows, by their targets
abbrev pub rows_table : Table
rows_table = record {
  name = codes "rows2";
  tree = 0;
  columns = bytes_column (codes "target") ∷ bytes_column (codes "source") ∷ bytes_column (codes "digest")
      ∷ (record { name = codes "output"; kind = Blob; is_strict = true; not_null = false; default = Null; collation = Binary }) ∷ [];
  key = None;
  primary = 1 ∷ [];
  uniques = (1 ∷ []) ∷ [];
  orders = plain ∷ [];
  checks = [];
  references = [];
  computed = [];
  stamps = record { places = []; terms = []; formats = [] };
  is_counted = false;
}

abbrev pub no_schema : Schema
no_schema = record { tables = []; indexes = []; views = [] }

abbrev pub header_schema : Schema
header_schema = created no_schema header_table

-- the header is in tree 0 and the rows are in tree 1
abbrev pub ledger_schema : Schema
ledger_schema = created header_schema rows_table
