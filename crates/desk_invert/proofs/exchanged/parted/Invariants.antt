use Rattle.std.proofs.Common.{take, length}
use Rattle.desk_invert.specs.Exchanged.{IsParted}
use Rattle.desk_invert.proofs.exchanged.parted.Given as goal

-- those so far are parted
abbrev pub invariant-loop-rename : goal.invariant-loop-rename
invariant-loop-rename l = IsParted (take (length l.yielded) l.fn.renames.items) l.once.items l.repeated.items
