-- Where a run may stop, and what the writing leaves there.
use Rattle.std.specs.Prelude.{◌≡◌, ◌⊎◌, ℕ, List, length, Option, option_map, slice_get, false, IsSomeAnd}
use Rattle.desk_base.specs.Names.{Text}
use Rattle.desk_batches.specs.Stops.{StoppedAt}
use Rattle.desk_batches.specs.Works.{Work, files_after, keeps, ledger_after}
use Rattle.desk_batches.specs.declared.stops.Stop.{Stop}
use Rattle.desk_batches.specs.declared.stops.Stop.TheVariants.{Memory, Folders, Ledger as LedgerStop, Moved}
use Rattle.desk_folders.specs.Contents.{Contents}
use Rattle.desk_ledger.specs.declared.keeper.Row.{Row}
use Rattle.desk_ledger.specs.Ledger.{Ledger, NoneWaits}
use Rattle.desk_report.specs.declared.status.Status.{Status}
use Rattle.desk_report.specs.declared.status.Status.TheVariants as status
use Rattle.desk_intake.specs.declared.halts.Halt.{Halt}
use Rattle.desk_intake.specs.declared.halts.Halt.TheVariants as halt

-- all works were done, so many
pub record StoppedBehind (to : Text) (works : List Work) (done : ℕ) (f f' : Option Contents) (k k' : Option Ledger) : Type 0 where
  pub count : length works ≡ done
  pub folders : f' ≡ option_map (files_after to works) f
  pub ledger : k' ≡ option_map (ledger_after works) k

-- the work behind so many isn't that of a kept file
abbrev pub IsFreshWork : List Work → ℕ → Type 0
IsFreshWork works done = IsSomeAnd (slice_get works done) (λ work. keeps work.plan ≡ false)

-- the folders stop a run within the works, at one of a file that isn't kept
pub record StoppedAtFresh (to : Text) (works : List Work) (done : ℕ) (f f' : Option Contents) (k k' : Option Ledger) : Type 0 where
  pub stopped : StoppedAt to works done f f' k k'
  pub fresh : IsFreshWork works done

-- the folders and a file that moved stop a run within the works, the ledger and want of memory behind them, too
abbrev pub StopsAt : Stop → Text → List Work → ℕ → Option Contents → Option Contents → Option Ledger → Option Ledger → Type 0
StopsAt Folders to works done f f' k k' = StoppedAtFresh to works done f f' k k'
StopsAt (Moved moved) to works done f f' k k' = StoppedAt to works done f f' k k'
StopsAt Memory to works done f f' k k' = StoppedAt to works done f f' k k' ⊎ StoppedBehind to works done f f' k k'
StopsAt LedgerStop to works done f f' k k' = StoppedAt to works done f f' k k' ⊎ StoppedBehind to works done f f' k k'

-- behind a stop by the folders, or by a file that moved, no row waits
abbrev pub CommittedBehind : Option (List Row) → Stop → Type 0
CommittedBehind waiting Folders = NoneWaits waiting
CommittedBehind waiting (Moved moved) = NoneWaits waiting
CommittedBehind waiting Memory = Unit {0}
CommittedBehind waiting LedgerStop = Unit {0}

abbrev pub status_of_stop : Stop → ℕ → Status
status_of_stop Memory done = status.Memory
status_of_stop Folders done = status.FolderFault done
status_of_stop LedgerStop done = status.LedgerFault done
status_of_stop (Moved moved) done = status.Moved moved.path moved.first moved.second

abbrev pub status_of_halt : Halt → Status
status_of_halt halt.Memory = status.Memory
status_of_halt halt.Folders = status.FolderFault 0
status_of_halt halt.Ledger = status.LedgerFault 0
status_of_halt (halt.Answer status) = status
