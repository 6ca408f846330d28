-- What a reader of a constant pool gives.
use Rattle.std.proofs.Common.{◌≡◌, Result, Ok}
use Rattle.desk_base.specs.declared.faults.Malformed.{Malformed}
use Rattle.desk_format.specs.PoolReading.{Got}

abbrev pub okay : {A : Type 0} → Got A → Result (Got A) Malformed
okay a = Ok a

pub ok_is : {A : Type 0} (a b : Got A) → okay a ≡ Ok b → a ≡ b
ok_is a b h = cc
