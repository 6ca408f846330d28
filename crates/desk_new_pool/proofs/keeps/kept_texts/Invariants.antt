use Rattle.std.proofs.Common.{◌≡◌, ◌<◌, ℕ, get_or, vec_len, None}
use Rattle.std.specs.Option.{option_copied}
use Rattle.desk_base.specs.Entries.{utf8_at}
use Rattle.desk_format.specs.Split.{kept}
use Rattle.desk_new_pool.specs.Wants.{wants_of}
use Rattle.desk_new_pool.proofs.keeps.kept_texts.Given as goal

abbrev pub invariant-loop-index : goal.invariant-loop-index
invariant-loop-index g l = record {
  count : vec_len l.texts ≡ l.index;
  each : (i : ℕ) → i < l.index → option_copied (get_or l.texts.items i None) ≡ utf8_at (kept (wants_of (g.P.PoolView.pool l.view) l.wants) 1 (g.P.PoolView.pool l.view)) i;
}
