-- Why sites weren't found.
use Rattle.std.specs.Prelude.{◌≡◌, Option, Some}
use Rattle.desk_base.specs.declared.faults.CodeFault.{CodeFault}
use Rattle.desk_sites.specs.declared.sites.SiteStop.{SiteStop}
use Rattle.desk_sites.specs.declared.sites.SiteStop.TheVariants.{Fault, Memory}

-- there is this fault; or memory ran out
abbrev pub Stops : SiteStop → Option CodeFault → Type 0
Stops (Fault f) fault = fault ≡ Some f
Stops Memory fault = Unit {0}
