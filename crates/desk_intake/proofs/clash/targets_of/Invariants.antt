use Rattle.std.proofs.Common.{◌≡◌, take, map}
use Rattle.desk_intake.proofs.clash.targets_of.Given as goal

abbrev pub invariant-loop-file : goal.invariant-loop-file
invariant-loop-file g l = l.targets ≡ map (λ file. (g.T.HasRoute.along file).target) (take l.file-index l.files)
