-- What a call that walks answers, by what the step does.
use Rattle.std.specs.Prelude.{◌≡◌, ℕ, Option, Some, None, Result, Ok, Err}
use Rattle.std.specs.Int.{Width, byte_len}
use Rattle.desk_base.specs.declared.kinds.UseKind.TheVariants as kinds
use Rattle.desk_format.specs.declared.attributes.Attribute.{Attribute}
use Rattle.desk_format.specs.Attributes.{attribute_named}
use Rattle.desk_parts.specs.declared.walker.Stop.{Stop}
use Rattle.desk_parts.specs.declared.walker.Stop.TheVariants as stops
use Rattle.desk_parts.specs.Steps.{Steps}

-- The step ends there; or memory ran out.
abbrev pub Stops : {S : Type 0} → Stop → Option S → Type 0
Stops stops.Ended o = o ≡ None
Stops stops.Memory o = Unit {0}

-- The walk stands where the step leads, or stopped.
abbrev pub Gives : {T S : Type 0} → Result T Stop → Option S → S → Type 0
Gives (Ok _) o new = o ≡ Some new
Gives (Err e) o new = Stops e o

-- the number in front, and on behind it
abbrev pub Counts : {S : Type 0} → Result ℕ Stop → Steps S → Width → S → S → Type 0
Counts (Ok n) by w old new = (by.bytes (byte_len w) old ≡ Some new) × (n ≡ by.ahead w old)
Counts (Err e) by w old new = Stops e (by.bytes (byte_len w) old)

-- the attribute that the index in front names, and on behind it
abbrev pub Names : {S : Type 0} → Result (Option Attribute) Stop → Steps S → S → S → Type 0
Names (Ok a) by old new = (by.index kinds.AttrName old ≡ Some new) × (a ≡ attribute_named (by.name old))
Names (Err e) by old new = Stops e (by.index kinds.AttrName old)
