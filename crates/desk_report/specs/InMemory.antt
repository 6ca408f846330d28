-- What a sink in memory holds.
use Rattle.std.specs.Prelude.{ℕ}
use Rattle.desk_base.specs.Names.{Text}

-- the bytes that were written, how many it has room for, and how many faults there were
pub record InMemory : Type 0 where
  pub written : Text
  pub room : ℕ
  pub faults : ℕ
