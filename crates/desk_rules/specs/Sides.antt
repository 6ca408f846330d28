-- Imports and exports.
use Rattle.std.specs.Prelude.{Bool, true, false}
use Rattle.desk_rules.specs.declared.Side.{Side}
use Rattle.desk_rules.specs.declared.Side.TheVariants.{Import, Export}

-- whether a package is exported
abbrev pub exports : Side → Bool
exports Import = false
exports Export = true
