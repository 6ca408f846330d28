-- What words ask for, with the roots of a run as they are written, or the fault that stands against them; and what is known of such roots.
use Rattle.std.specs.Prelude.{◌≡◌, ◌≢◌, ◌<◌, ◌≤◌, ℕ, Bool, true, false, List, Option, Some, None, Result, Ok, Err}
use Rattle.desk_base.specs.Names.{Text}
use Rattle.desk_base.specs.Paths.{is_root, is_relative_path, is_full_path, full}
use Rattle.desk_words.specs.declared.roots.Root.{Root}
use Rattle.desk_words.specs.declared.roots.Roots.{Roots}
use Rattle.desk_words.specs.declared.roots.Order.{Order}
use Rattle.desk_words.specs.declared.roots.Order.TheVariants as order
use Rattle.desk_words.specs.declared.roots.Query.{Query}
use Rattle.desk_words.specs.declared.roots.Query.TheVariants as query
use Rattle.desk_words.specs.declared.roots.RootsFault.{RootsFault}
use Rattle.desk_words.specs.declared.roots.RootsFault.TheVariants.{Memory, Usage, Nested}
use Rattle.desk_words.specs.declared.words.Task.{Task}
use Rattle.desk_words.specs.declared.words.Task.TheVariants.{Run, Generate, Calls, Compare, Invert}
use Rattle.desk_words.specs.Words.{task_of, first_nested, written}

-- two roots, as they are written, of which one lies in the other
abbrev pub nested_fault : Root × Root → RootsFault
nested_fault pair = Nested (written pair.0) (written pair.1)

-- a run over the written roots, where none lies in another that it may not lie in
abbrev pub order_apart : Root → Root → Root → Root → ℕ → Bool → Option (Root × Root) → Result Order RootsFault
order_apart rules from to ledger workers verify None = Ok (order.Run (record { rules = written rules; from = written from; to = written to; ledger = written ledger; verify = verify }) workers)
order_apart rules from to ledger workers verify (Some pair) = Err (nested_fault pair)

-- a run over a generated application, with a ledger of its own, or with the one that is handed in
abbrev pub generate_order : ℕ → ℕ → Bool → Order
generate_order count workers false = order.Generate count workers
generate_order count workers true = order.GenerateSql count workers

abbrev pub order_of_task : Option Task → Result Order RootsFault
order_of_task None = Err Usage
order_of_task (Some (Run rules from to ledger workers verify)) = order_apart rules from to ledger workers verify (first_nested rules from to ledger)
order_of_task (Some (Generate count workers sql)) = Ok (generate_order count workers sql)
order_of_task (Some (Calls from segments)) = Ok (order.Query (query.Calls (written from) segments))
order_of_task (Some (Compare rules from other)) = Ok (order.Query (query.Compare (written rules) (written from) (written other)))
order_of_task (Some (Invert rules)) = Ok (order.Query (query.Invert (written rules)))

-- what words ask for
abbrev pub order_of_words : List Text → Result Order RootsFault
order_of_words words = order_of_task (task_of words)

-- want of memory, or the fault that stands against an order
abbrev pub RefusedBy : Result Order RootsFault → RootsFault → Type 0
RefusedBy order Memory = Unit {0}
RefusedBy order fault = order ≡ Err fault

-- a root that full paths stand below
abbrev pub IsPathRoot : Text → Type 0
IsPathRoot root = (p : Text) → is_relative_path p ≡ true → is_full_path (full root p) ≡ true

-- nothing below one root is below the other
abbrev pub RootsApart : Text → Text → Type 0
RootsApart from to = (p q : Text) → is_relative_path p ≡ true → is_relative_path q ≡ true → full from p ≢ full to q

-- the roots that are read are roots, paths stand below the one that is written to, and neither the source nor the rule
-- folder has a path in common with the target
pub record AreRoots (roots : Roots) : Type 0 where
  pub rules_is_root : is_root roots.rules ≡ true
  pub from_is_root : is_root roots.from ≡ true
  pub below_to : IsPathRoot roots.to
  pub apart : RootsApart roots.from roots.to
  pub rules_apart : RootsApart roots.rules roots.to

-- as many workers as words may ask for
pub record AreWorkers (workers : ℕ) : Type 0 where
  pub some : 0 < workers
  pub most : workers ≤ 64

-- what a query names are roots
abbrev pub IsSoundQuery : Query → Type 0
IsSoundQuery (query.Calls from segments) = is_root from ≡ true
IsSoundQuery (query.Compare rules from other) = (is_root rules ≡ true) × ((is_root from ≡ true) × (is_root other ≡ true))
IsSoundQuery (query.Invert rules) = is_root rules ≡ true

-- the roots of a run are such, and so are the workers; and what a query names are roots
abbrev pub IsSound : Order → Type 0
IsSound (order.Run roots workers) = AreRoots roots × AreWorkers workers
IsSound (order.Generate count workers) = AreWorkers workers
IsSound (order.GenerateSql count workers) = AreWorkers workers
IsSound (order.Query asked) = IsSoundQuery asked
