-- The laws of a constant pool that is read, and of one that is printed.
use Rattle.std.specs.Prelude.{◌≡◌, ℕ, ◌+◌, List, ◌++◌, length, suc, Ok}
use Rattle.desk_format.specs.Laws.{IsBytes}
use Rattle.desk_base.specs.Entries.{Pool}
use Rattle.desk_format.specs.PoolBytes.{print_pool}
use Rattle.desk_format.specs.PoolReading.{Got, got, read_pool}
use Rattle.desk_laws.specs.Sound.{IsWellFormed, IsTwoBytes}

-- A pool that was read is well-formed and prints to the bytes that were read, and the printed bytes of a well-formed pool
-- are read into it, whatever follows them.
pub record PrintedPools : Type 0 where
  pub well_formed : (at : ℕ) (s : List ℕ) (g : Got Pool) → IsBytes s → read_pool at s ≡ Ok g → IsWellFormed g.value
  pub bytes : (at : ℕ) (s : List ℕ) (g : Got Pool) → IsBytes s → read_pool at s ≡ Ok g → s ≡ print_pool g.value ++ g.left
  pub behind : (at : ℕ) (s : List ℕ) (g : Got Pool) → IsBytes s → read_pool at s ≡ Ok g → g.at ≡ at + length (print_pool g.value)
  pub again : (at : ℕ) (pool : Pool) (more : List ℕ) → IsWellFormed pool → IsTwoBytes (suc (length pool))
      → read_pool at (print_pool pool ++ more) ≡ Ok (got pool (at + length (print_pool pool)) more)
