-- At which file a run stops while it writes.
use Rattle.std.specs.Prelude.{◌≡◌, ◌≢◌, ◌⊎◌, ℕ, List, slice_get, IsSomeAnd}
use Rattle.desk_batches.specs.declared.planned.PlannedFile.{PlannedFile}
use Rattle.desk_batches.specs.declared.planned.Action.TheVariants as action
use Rattle.desk_batches.specs.declared.stops.Stop.{Stop}
use Rattle.desk_batches.specs.declared.stops.Stop.TheVariants.{Memory}

-- a file isn't kept from an earlier run
abbrev pub IsNotKept : PlannedFile → Type 0
IsNotKept file = file.action ≢ action.Keep

-- a stop, but for want of memory, comes at a file that isn't kept
abbrev pub StopsAtFresh : List PlannedFile → ℕ → Stop → Type 0
StopsAtFresh files done why = (why ≡ Memory) ⊎ IsSomeAnd (slice_get files done) IsNotKept
