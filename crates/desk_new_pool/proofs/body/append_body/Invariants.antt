use Rattle.std.proofs.Common.{◌≡◌, ℕ, ◌+◌, ◌++◌, length, drop, map}
use Rattle.desk_base.specs.declared.kinds.Used.{Used}
use Rattle.desk_format.specs.Exchange.{patch}
use Rattle.desk_new_pool.specs.Printing.{Stands}
use Rattle.desk_new_pool.proofs.body.append_body.Given as goal

abbrev pub invariant-loop-place : goal.invariant-loop-place
invariant-loop-place l = record {
  end : l.at + length l.left ≡ l.from + length l.body;
  stands : Stands l.at l.left (drop l.place l.uses);
  written : (g : Used → ℕ) → l.indices ≡ map g l.uses → l.out ++ patch g l.at (drop l.place l.uses) l.left ≡ l.initial.out ++ patch g l.from l.uses l.body;
}
