-- Why a class isn't rewritten.
use Rattle.std.specs.Prelude.{◌≡◌, Option, Some}
use Rattle.desk_format.specs.NewClass.{Refusal}
use Rattle.desk_new_pool.specs.declared.new_texts.NewPoolFault.{NewPoolFault}
use Rattle.desk_new_pool.specs.declared.new_texts.NewPoolFault.TheVariants as pool_faults
use Rattle.desk_rewrite.specs.declared.rewriting.RewriteFault.{RewriteFault}
use Rattle.desk_rewrite.specs.declared.rewriting.RewriteFault.TheVariants as rewrite_faults

-- A fault is the refusal that stands, or want of memory.
abbrev pub Refuses : RewriteFault → Option Refusal → Type 0
Refuses (rewrite_faults.Overlong index length) r = r ≡ Some (Refusal.overlong index length)
Refuses (rewrite_faults.PoolFull count needed) r = r ≡ Some (Refusal.pool_full count needed)
Refuses (rewrite_faults.Twins first second) r = r ≡ Some (Refusal.twins first second)
Refuses rewrite_faults.Memory r = Unit {0}

abbrev pub fault_of : NewPoolFault → RewriteFault
fault_of (pool_faults.Overlong index length) = rewrite_faults.Overlong index length
fault_of (pool_faults.PoolFull count needed) = rewrite_faults.PoolFull count needed
fault_of pool_faults.Memory = rewrite_faults.Memory
