-- The law of the values of a pool.
use Rattle.std.specs.Prelude.{◌≡◌, ℕ, suc}
use Rattle.desk_base.specs.Entries.{Pool}
use Rattle.desk_format.specs.Values.{value_within, value_of}
use Rattle.desk_laws.specs.Sound.{IsWellFormed}

-- In a well-formed pool three levels are all: following further changes no value, so no index is left in one.
abbrev pub FollowedValues : Type 0
FollowedValues = (pool : Pool) → IsWellFormed pool → (more i : ℕ) → value_within (suc (suc (suc more))) pool i ≡ value_of pool i
