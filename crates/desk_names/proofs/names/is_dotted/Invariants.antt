use Rattle.std.specs.Prelude.{◌≡◌, drop}
use Rattle.desk_base.specs.Names.{is_dotted, is_identifier_byte}
use Rattle.desk_names.proofs.Bytes.{parts_from, is_first}
use Rattle.desk_names.proofs.names.is_dotted.Given as goal

abbrev pub invariant-loop-byte : goal.invariant-loop-byte
invariant-loop-byte l = parts_from is_first is_identifier_byte 46 l.inside (drop l.byte-index l.text) ≡ is_dotted l.text
