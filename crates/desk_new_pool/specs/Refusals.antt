-- When texts have no new pool.
use Rattle.std.specs.Prelude.{◌≡◌, ℕ, suc, min, ◌<◌, true, false, List, length, Option, Some, None}
use Rattle.desk_base.specs.Entries.{Pool}
use Rattle.desk_base.specs.Misfits.{or_else}
use Rattle.desk_format.specs.Split.{Want, wanted, missing_texts}
use Rattle.desk_format.specs.NewClass.{Refusal, any_long, overlong_from, full_at}
use Rattle.desk_new_pool.specs.declared.new_texts.NewPoolFault.{NewPoolFault}
use Rattle.desk_new_pool.specs.declared.new_texts.NewPoolFault.TheVariants as pool_faults

abbrev pub lesser : Option ℕ → ℕ → ℕ
lesser None i = i
lesser (Some j) i = min j i

-- the least index with a wanted text that is too long, and none where no text is
abbrev pub IsLeastLong : List Want → Option ℕ → Type 0
IsLeastLong ws None = (i : ℕ) → any_long (wanted i ws) ≡ false
IsLeastLong ws (Some i) = (any_long (wanted i ws) ≡ true) × ((j : ℕ) → j < i → any_long (wanted j ws) ≡ false)

-- the first refusal of a pool's texts: one is too long, or the missing ones have no room
abbrev pub pool_refusal : Pool → List Want → Option Refusal
pool_refusal pool ws = or_else (overlong_from ws 1 pool) (full_at (suc (length pool)) (length (missing_texts ws pool)))

-- A fault is the refusal that stands, or want of memory.
abbrev pub Refuses : NewPoolFault → Option Refusal → Type 0
Refuses (pool_faults.Overlong index length) r = r ≡ Some (Refusal.overlong index length)
Refuses (pool_faults.PoolFull count needed) r = r ≡ Some (Refusal.pool_full count needed)
Refuses pool_faults.Memory r = Unit {0}
