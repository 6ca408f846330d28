use Rattle.std.proofs.Common.{subst, IfOk, IsTrue}
use Rattle.desk_base.specs.Paths.{is_relative_path}
use Rattle.desk_file.proofs.targets.target_of.Goals as goal

pub returns-clause-relative : goal.returns-clause-relative
returns-clause-relative c =
    subst (λ p. IfOk c.target.result (λ found. IsTrue (is_relative_path p) → IsTrue (is_relative_path found))) c.as_bytes.ensures c.target.ensures.relative
