use Rattle.std.proofs.Common.{◌≡◌, ◌++◌, take}
use Rattle.std.specs.List.{flat_map}
use Rattle.desk_calls.specs.Told.{lines_in}
use Rattle.desk_calls.proofs.telling.append_lines.Given as goal

abbrev pub invariant-loop-one : goal.invariant-loop-one
invariant-loop-one l = l.text ≡ l.fn.text ++ flat_map lines_in (take l.one-index l.found)
