-- The laws of the images of a rule set.
use Rattle.desk_laws.specs.Classes.{IsSettled}
use Rattle.desk_laws.specs.NewPools.{KeepsForms}
use Rattle.desk_rules.specs.Rules.{Rules}
use Rattle.desk_rules.specs.RuleSets.{IsRuleSet}
use Rattle.desk_follow.specs.RuleImages.{images_of}

-- The images of each rule set keep forms.
abbrev pub FormsStay : Type 0
FormsStay = (rules : Rules) → IsRuleSet rules → KeepsForms (images_of rules)

-- The images of each rule set are their own images.
abbrev pub ImagesStay : Type 0
ImagesStay = (rules : Rules) → IsRuleSet rules → IsSettled (images_of rules)
