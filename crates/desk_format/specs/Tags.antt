-- Which byte may begin a structure.
use Rattle.std.specs.Prelude.{ℕ, Bool, true, false, [], ◌∷◌, is_some, Result, Ok, Err}
use Rattle.desk_base.specs.declared.faults.FaultKind.{FaultKind}
use Rattle.desk_base.specs.declared.faults.FaultKind.TheVariants as faults
use Rattle.desk_format.specs.Layouts.{Layout}
use Rattle.desk_format.specs.Reading.{Got, Failed, read}
use Rattle.desk_format.specs.PoolReading.{tag_numbered}

abbrev pub is_truncated : FaultKind → Bool
is_truncated faults.Truncated = true
is_truncated _ = false

-- nothing is wrong but that more bytes may be wanted
abbrev pub is_open : Result Got Failed → Bool
is_open (Ok got) = true
is_open (Err e) = is_truncated e.fault.kind

-- whether a structure of a layout may begin with a byte
abbrev pub may_begin : Layout → ℕ → Bool
may_begin layout byte = is_open (read [] layout 0 (byte ∷ []))

-- whether a byte stands for a tag of the constant pool
abbrev pub is_numbered : ℕ → Bool
is_numbered byte = is_some (tag_numbered byte)
