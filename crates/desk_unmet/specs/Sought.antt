-- Rules that are looked for.
use Rattle.std.specs.Prelude.{codes}
use Rattle.desk_base.specs.Names.{Text}
use Rattle.desk_unmet.specs.declared.sought.RuleKind.{RuleKind}
use Rattle.desk_unmet.specs.declared.sought.RuleKind.TheVariants as kind

-- the rule file of a kind of rules
abbrev pub file_of : RuleKind → Text
file_of kind.Rename = codes "renames.properties"
file_of kind.Direct = codes "direct.properties"
file_of kind.Version = codes "versions.properties"
file_of kind.Bundle = codes "bundles.properties"
