use Rattle.desk_properties.proofs.Fronts.{IsDigitsRead}
use Rattle.desk_properties.proofs.entries.read_number.Given as goal

abbrev pub invariant-loop-read : goal.invariant-loop-read
invariant-loop-read l = IsDigitsRead l.file l.from l._read l.number l.next
