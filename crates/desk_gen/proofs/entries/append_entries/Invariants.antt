use Rattle.std.proofs.Common.{◌≡◌, ◌++◌, drop}
use Rattle.desk_format.specs.PoolBytes.{print_slots}
use Rattle.desk_gen.specs.Entries.{slots_of}
use Rattle.desk_gen.proofs.entries.append_entries.Given as goal

abbrev pub invariant-loop-entry : goal.invariant-loop-entry
invariant-loop-entry l = l.out ++ print_slots (slots_of (drop l.entry-index l.entries)) ≡ l.initial.out ++ print_slots (slots_of l.entries)
