-- The rules that a run goes by.
use Rattle.std.proofs.Common.{◌≡◌, Ok}
use Rattle.desk_rules.specs.Files.{Files}
use Rattle.desk_rules.specs.RuleFiles.{rules_of_files}
use Rattle.desk_rules.specs.RuleSets.{IsRuleSet}
use Rattle.desk_rules.specs.Rules.{Rules}
use Rattle.desk_second.specs.Second.{AreRules}
use Rattle.desk_second.proofs.Sources.{are_rules}

pub are : (files : Files) (rules : Rules) → rules_of_files files ≡ Ok rules → IsRuleSet rules → AreRules rules
are = are_rules
