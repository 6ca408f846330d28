-- What a statement's meaning says of what its text is understood as.
use Rattle.std.proofs.Common.{◌≡◌, List, ℕ, Ok, Err, Result, IsOkAnd}
use Rattle.sqlite.specs.Command.{Command}
use Rattle.sqlite.specs.State.{text_of}
use Rattle.sqlite.specs.Listing.{understood}
use Rattle.sqlite_resolve.specs.declared.compiled.Compiled.{Compiled}
use Rattle.sqlite_resolve.specs.declared.error.CompileError.{CompileError}
use Rattle.sqlite.proofs.Callers.{command_of, statement_of}
use Rattle.desk_ledger_tables.specs.declared.statements.Statement.{Statement}
use Rattle.desk_ledger_tables.specs.Statements.{Means, command, schema_before}

command_in : (r : Result Compiled CompileError) (k : Command) → IsOkAnd r (λ c. c.command ≡ k) → command_of r ≡ k
command_in (Ok c) k h = h
command_in (Err e) k h = absurd h

statement_in : (text : List ℕ) (r : Result Compiled CompileError) → IsOkAnd r (λ c. text_of text c ≡ text) → statement_of text r ≡ text
statement_in text (Ok c) h = h
statement_in text (Err e) h = absurd h

module _ (statement : Statement) (text : List ℕ) (m : Means statement text) where
  pub command_found : command_of (understood (schema_before statement) text) ≡ command statement
  command_found = command_in _ _ m.command_is

  pub statement_found : statement_of text (understood (schema_before statement) text) ≡ text
  statement_found = statement_in text _ m.whole
