-- The texts of a new pool, as the code makes them.
use Rattle.std.specs.Prelude.{◌≡◌, ℕ, List, ◌++◌, map, Option, Some}
use denote.Ref.{Bor}
use Rattle.desk_base.specs.Names.{Text}
use Rattle.desk_new_pool.specs.Places.{least, not_kept, index_by, missing_among}
use Rattle.desk_new_pool.specs.declared.wants.WantedText.{WantedText}
use Rattle.desk_new_pool.specs.declared.new_texts.NewTexts.{NewTexts}

-- texts with others behind them
pub record Adds (old : List (Option (Bor Text))) (more : List Text) (new : List (Option (Bor Text))) : Type 0 where
  pub added : List (Bor Text)
  pub whole : new ≡ old ++ map Some added
  pub same : map (λ t. t.now) added ≡ more

-- the index of a use among the texts of the new pool, of which these are kept
abbrev pub new_index : List (Option (Bor Text)) → List (Option (Bor Text)) → WantedText → ℕ
new_index kept all w = index_by (least 0 all) w.used.index (not_kept kept w)

-- The missing texts stand behind those that are kept, and each use has its new index.
pub record Splits (kept : List (Option (Bor Text))) (ws : List WantedText) (new : NewTexts) : Type 0 where
  pub adds : Adds kept (missing_among kept ws) new.texts.items
  pub indices : new.indices.items ≡ map (new_index kept new.texts.items) ws
