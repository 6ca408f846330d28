use Rattle.std.proofs.Common.{◌≡◌, drop}
use Rattle.desk_class.specs.Found.{is_told, texts}
use Rattle.desk_class.proofs.found.is_told.Given as goal

abbrev pub invariant-loop-place : goal.invariant-loop-place
invariant-loop-place l = is_told (drop l.place l.marks) (drop l.place (texts l.names)) l.fn.mark l.fn.name ≡ is_told l.marks (texts l.names) l.fn.mark l.fn.name
