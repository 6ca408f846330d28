-- The fault that a reader answers.
use Rattle.std.specs.Prelude.{◌≡◌, Option, Some}
use Rattle.desk_base.specs.declared.faults.Malformed.{Malformed}
use Rattle.desk_base.specs.declared.faults.ReadFault.{ReadFault}
use Rattle.desk_base.specs.declared.faults.ReadFault.TheVariants as read_faults

-- A fault is the first one, unless memory ran out.
abbrev pub IsFirst : Option Malformed → ReadFault → Type 0
IsFirst fault (read_faults.Malformed f) = fault ≡ Some f
IsFirst fault read_faults.Memory = Unit {0}
