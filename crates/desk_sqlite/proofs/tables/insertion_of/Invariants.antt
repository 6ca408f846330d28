use Rattle.std.proofs.Common.{◌≡◌, ◌++◌, codes, string_bytes}
use Rattle.desk_sqlite.specs.Statements.{further, verb}
use Rattle.desk_sqlite.proofs.tables.insertion_of.Given as goal

abbrev pub invariant-loop-further : goal.invariant-loop-further
invariant-loop-further l = string_bytes l.text ≡ verb l.fn.on_conflict ++ codes " INTO rows2 VALUES (?, ?, ?, ?)" ++ further l._further
