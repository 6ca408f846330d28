-- Limits of sizes, file by file.
use Rattle.std.proofs.Common.{◌≡◌, ◌≤◌, List, ◌∷◌, length, Some, ap}
use Rattle.std.specs.Prelude.{if◌then◌else◌}
use Rattle.std.proofs.lemmas.Bool.{le-ltb}
use Rattle.desk_folders.specs.Contents.{File}
use Rattle.desk_report.specs.declared.status.LimitKind.TheVariants.{RuleSize}
use Rattle.desk_report.specs.declared.status.Status.TheVariants.{Limit}
use Rattle.desk_base.specs.Limits.{rule_size}
use Rattle.desk_intake.specs.Limits.{rule_size_answer}

pub rule_fits : (file : File) (more : List File) → length file.bytes ≤ rule_size → rule_size_answer (file ∷ more) ≡ rule_size_answer more
rule_fits file more e = ap (λ b. if b then Some (Limit RuleSize file.path) else rule_size_answer more) (le-ltb rule_size _ e)
