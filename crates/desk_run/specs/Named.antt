-- What words ask for, and what is said of words by what they ask for.
use Rattle.std.specs.Prelude.{ℕ, List, Result, Ok, Err}
use Rattle.desk_base.specs.Names.{Text, Package}
use Rattle.desk_report.specs.declared.status.Status.{Status}
use Rattle.desk_report.specs.declared.status.Status.TheVariants as status
use Rattle.desk_words.specs.declared.roots.Order.{Order}
use Rattle.desk_words.specs.declared.roots.Order.TheVariants as order
use Rattle.desk_words.specs.declared.roots.Query.{Query}
use Rattle.desk_words.specs.declared.roots.Query.TheVariants as query
use Rattle.desk_words.specs.declared.roots.RootsFault.{RootsFault}
use Rattle.desk_words.specs.declared.roots.RootsFault.TheVariants.{Usage, Nested, Memory}
use Rattle.desk_words.specs.Roots.{order_of_words}
use Rattle.desk_run.specs.Asked.{Asked}
use Rattle.desk_run.specs.GeneratedSql.{generated_answer}
use Rattle.desk_run.specs.Queries.{query_answer}

-- how a fault of words is told
abbrev pub status_of_words : RootsFault → Status
status_of_words Usage = status.Usage
status_of_words (Nested first second) = status.NestedRoots first second
status_of_words Memory = status.Memory

-- words that ask for a run name its roots. A generated application with folders and a ledger of its own is always done; one whose
-- rows go into the ledger that is handed in, unless that is another run's; a query ends as its answer says, and other words as their
-- fault is told
abbrev pub asked_by : Result Order RootsFault → Asked
asked_by (Ok (order.Run roots workers)) = Ok roots
asked_by (Ok (order.Generate count workers)) = Err (λ m l. status.Done)
asked_by (Ok (order.GenerateSql count workers)) = Err (λ m l. generated_answer count l)
asked_by (Ok (order.Query asked)) = Err (λ m l. query_answer asked m)
asked_by (Err fault) = Err (λ m l. status_of_words fault)

abbrev pub asked_of : List Text → Asked
asked_of words = asked_by (order_of_words words)

abbrev pub UnlessOther : Result Order RootsFault → Type 0 → Type 0
UnlessOther (Ok (order.Generate count workers)) P = Unit {0}
UnlessOther (Ok (order.GenerateSql count workers)) P = Unit {0}
UnlessOther (Ok (order.Query asked)) P = Unit {0}
UnlessOther _ P = P

-- of all words but those that ask for another task than a run
abbrev pub OfRun : List Text → Type 0 → Type 0
OfRun words P = UnlessOther (order_of_words words) P

abbrev pub WhereGenerate : Result Order RootsFault → (ℕ → Type 0) → Type 0
WhereGenerate (Ok (order.Generate count workers)) P = P count
WhereGenerate _ P = Unit {0}

-- of words that ask for a generated application of so many classes
abbrev pub OfGenerate : List Text → (ℕ → Type 0) → Type 0
OfGenerate words P = WhereGenerate (order_of_words words) P

abbrev pub WhereSql : Result Order RootsFault → (ℕ → Type 0) → Type 0
WhereSql (Ok (order.GenerateSql count workers)) P = P count
WhereSql _ P = Unit {0}

-- of words that ask for a generated application of so many classes whose rows go into the ledger that is handed in
abbrev pub OfSql : List Text → (ℕ → Type 0) → Type 0
OfSql words P = WhereSql (order_of_words words) P

abbrev pub WhereQuery : Result Order RootsFault → (Query → Type 0) → Type 0
WhereQuery (Ok (order.Query asked)) P = P asked
WhereQuery _ P = Unit {0}

-- of words that ask a query
abbrev pub OfQuery : List Text → (Query → Type 0) → Type 0
OfQuery words P = WhereQuery (order_of_words words) P

abbrev pub WhereCalls : (Text → Package → Type 0) → Query → Type 0
WhereCalls P (query.Calls from scope) = P from scope
WhereCalls P _ = Unit {0}

-- of words that ask where the classes below a root use members of a package
abbrev pub OfCalls : List Text → (Text → Package → Type 0) → Type 0
OfCalls words P = OfQuery words (WhereCalls P)

abbrev pub WhereCompare : (Text → Text → Text → Type 0) → Query → Type 0
WhereCompare P (query.Compare rules from other) = P rules from other
WhereCompare P _ = Unit {0}

-- of words that ask whether an application is what rules make of another
abbrev pub OfCompare : List Text → (Text → Text → Text → Type 0) → Type 0
OfCompare words P = OfQuery words (WhereCompare P)

abbrev pub WhereInvert : (Text → Type 0) → Query → Type 0
WhereInvert P (query.Invert rules) = P rules
WhereInvert P _ = Unit {0}

-- of words that ask for the inverse of the rules in a folder
abbrev pub OfInvert : List Text → (Text → Type 0) → Type 0
OfInvert words P = OfQuery words (WhereInvert P)
