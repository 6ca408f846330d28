use Rattle.std.proofs.Common.{◌≡◌, ◌≤◌, ℕ, List, ◌∷◌, ◌++◌, length, drop, None}
use Rattle.desk_format.specs.PoolBytes.{print_slots}
use Rattle.desk_new_pool.specs.Printing.{renewed, all_named}
use Rattle.desk_new_pool.proofs.printing.append_entries.Given as goal

abbrev pub invariant-loop-index : goal.invariant-loop-index
invariant-loop-index g l = record {
  written : l.out ++ print_slots (renewed (drop l.index l.texts) l.later (drop l.index (None ∷ g.P.PoolView.pool l.view))) ≡ l.initial.out ++ print_slots (renewed l.texts l.indices (None ∷ g.P.PoolView.pool l.view));
  bytes : (more : List ℕ) × (l.left ≡ print_slots (drop l.index (None ∷ g.P.PoolView.pool l.view)) ++ more);
  enough : all_named (drop l.index (None ∷ g.P.PoolView.pool l.view)) ≤ length l.later;
}
