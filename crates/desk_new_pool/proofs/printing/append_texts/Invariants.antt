use Rattle.std.proofs.Common.{◌≡◌, ◌++◌, drop}
use Rattle.desk_new_pool.specs.Printing.{print_texts}
use Rattle.desk_new_pool.proofs.printing.append_texts.Given as goal

abbrev pub invariant-loop-text : goal.invariant-loop-text
invariant-loop-text l = l.out ++ print_texts (drop l.text-index l.texts) ≡ l.initial.out ++ print_texts l.texts
