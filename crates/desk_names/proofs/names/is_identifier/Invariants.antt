use Rattle.std.specs.Prelude.{◌≡◌, drop}
use Rattle.std.specs.List.{list_all}
use Rattle.desk_base.specs.Names.{is_identifier, is_identifier_byte}
use Rattle.desk_names.proofs.names.is_identifier.Given as goal

abbrev pub invariant-loop-byte : goal.invariant-loop-byte
invariant-loop-byte l = list_all is_identifier_byte (drop l.byte-index l.text) ≡ is_identifier l.text
