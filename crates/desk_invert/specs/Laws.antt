-- Rules that have an inverse, and what it takes back.
use Rattle.std.specs.Prelude.{◌≡◌, [], List, Some, IsTrue, IsOk}
use Rattle.std.specs.List.{Contains}
use Rattle.desk_base.specs.Names.{Package}
use Rattle.desk_packages.specs.Renames.{Renaming, changes, in_reach, pick, pkg}
use Rattle.desk_rules.specs.Rules.{Rules}
use Rattle.desk_packages.specs.Keys.{IsTable}
use Rattle.desk_rules.specs.RuleSets.{rules_of, IsRuleSet}
use Rattle.desk_invert.specs.Inverse.{inverse}
use Rattle.desk_invert.specs.Answers.{inversion}

-- the rules that are renames alone
abbrev pub renames_alone : List Renaming → Rules
renames_alone renames = rules_of renames [] [] [] [] []

-- the inverse of rules: the inverse of their renames alone
abbrev pub inverse_rules : Rules → Rules
inverse_rules rules = renames_alone (inverse rules.renames)

-- a rule set, in byte order of its keys, that has an inverse
pub record IsInvertible (rules : Rules) : Type 0 where
  pub rule_set : IsRuleSet rules
  pub table : IsTable rules.renames
  pub inverted : IsOk (inversion rules)

-- a package lies in the reach of a changing rename
pub record IsReached (renames : List Renaming) (p : Package) : Type 0 where
  pub by : Renaming
  pub there : Contains renames by
  pub moves : IsTrue (changes by)
  pub reach : IsTrue (in_reach by p)

-- a package lies in no reach
abbrev pub IsUnreached : List Renaming → Package → Type 0
IsUnreached renames p = IsReached renames p → ⊥

-- The inverse takes back the image of each package that a changing rename picks, and that of each package that lies in no
-- reach; and a package that lies in no reach stays under it.
pub record TakesPackagesBack (renames inverse : List Renaming) : Type 0 where
  pub picked : (p : Package) (r : Renaming) → pick renames p ≡ Some r → IsTrue (changes r) → pkg inverse (pkg renames p) ≡ p
  pub unreached : (p : Package) → IsUnreached renames p → pkg inverse p ≡ p
  pub back : (p : Package) → IsUnreached renames p → pkg inverse (pkg renames p) ≡ p
