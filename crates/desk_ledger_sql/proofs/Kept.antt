-- The law over lists of calls.
use Rattle.std.proofs.Common.{◌≡◌, List, [], ◌∷◌, ap, ◌∙◌}
use Rattle.desk_ledger.specs.Ledger.{Ledger}
use Rattle.desk_ledger_sql.specs.Kept.{Call, kept_on, TellsAfter}

-- what is told after calls, each of which gave its step, is what they keep
pub kept_by_steps : (calls : List Call) (before after : Ledger) → TellsAfter before calls after → after ≡ kept_on calls before
kept_by_steps [] before after h = h
kept_by_steps (call ∷ calls) before after h = kept_by_steps calls h.0 after h.2 ∙ ap (kept_on calls) h.1
