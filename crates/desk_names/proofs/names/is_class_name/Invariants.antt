use Rattle.std.specs.Prelude.{◌≡◌, drop}
use Rattle.desk_base.specs.Names.{is_reserved, is_class_name}
use Rattle.desk_names.proofs.Bytes.{name_from}
use Rattle.desk_names.proofs.names.is_class_name.Given as goal

abbrev pub invariant-loop-byte : goal.invariant-loop-byte
invariant-loop-byte l = name_from is_reserved l.inside (drop l.byte-index l.text) ≡ is_class_name l.text
