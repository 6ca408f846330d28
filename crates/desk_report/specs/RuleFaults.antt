-- The lines of the faults of rule files.
use Rattle.std.specs.Prelude.{List, [], ◌∷◌, codes, decimal}
use Rattle.desk_base.specs.Names.{Text}
use Rattle.desk_base.specs.Shown.{shown}
use Rattle.desk_properties.specs.declared.PropFault.{PropFault}
use Rattle.desk_properties.specs.declared.PropFault.TheVariants.{NotUtf8, Escape}
use Rattle.desk_chains.specs.Chains.{chain_number}
use Rattle.desk_rules.specs.declared.RuleFault.{RuleFault}
use Rattle.desk_rules.specs.declared.RuleFault.TheVariants.{NoRenames, Properties, BadKey, BadValue, MissingText, Chain}
use Rattle.desk_report.specs.Joined.{joined, pair_pieces}

-- why a file isn't one of properties, and at which byte
abbrev pub prop_fault_pieces : PropFault → List Text
prop_fault_pieces (NotUtf8 at) = codes " not-utf8 " ∷ decimal at ∷ codes "\n" ∷ []
prop_fault_pieces (Escape at) = codes " escape " ∷ decimal at ∷ codes "\n" ∷ []

abbrev pub rule_fault_pieces : RuleFault → List Text
rule_fault_pieces NoRenames = codes "migrate: 22 no renames\n" ∷ []
rule_fault_pieces (Properties file fault) = codes "migrate: 22 properties " ∷ shown file ∷ prop_fault_pieces fault
rule_fault_pieces (BadKey file key) = pair_pieces (codes "migrate: 22 bad key ") file key
rule_fault_pieces (BadValue file key) = pair_pieces (codes "migrate: 22 bad value ") file key
rule_fault_pieces (MissingText key name) = pair_pieces (codes "migrate: 22 missing text ") key name
rule_fault_pieces (Chain kind first second) = codes "migrate: 22 chain " ∷ decimal (chain_number kind) ∷ codes " " ∷ shown first ∷ codes " " ∷ shown second ∷ codes "\n" ∷ []

-- the line of a fault
abbrev pub rule_fault_text : RuleFault → Text
rule_fault_text fault = joined (rule_fault_pieces fault)
