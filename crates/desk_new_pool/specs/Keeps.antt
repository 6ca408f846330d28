-- The text that each index keeps.
use Rattle.std.specs.Prelude.{◌≡◌, ℕ, suc, true, false, List, [], ◌∷◌, ◌++◌, length, map, get_or, Option, None, option_map, option_copied}
use denote.Ref.{Bor}
use Rattle.desk_base.specs.Names.{Text}
use Rattle.desk_base.specs.Entries.{Pool, utf8_at}
use Rattle.desk_base.specs.declared.kinds.Used.{Used}
use Rattle.desk_format.specs.NewPool.{Choice, with_texts}
use Rattle.desk_format.specs.PoolBytes.{print_pool, pool_uses}
use Rattle.desk_format.specs.Split.{Want, split, holds}
use Rattle.desk_new_pool.specs.declared.keeps.Keep.{Keep}
use Rattle.desk_new_pool.specs.declared.keeps.Keep.TheVariants as keeps

-- what is known of an entry's text by the texts that its uses want
abbrev pub Keeps : Text → List Text → Keep → Type 0
Keeps own ts keeps.Unused = ts ≡ []
Keeps own ts keeps.Own = holds ts own ≡ true
Keeps own ts (keeps.Image t) = (holds ts own ≡ false) × ((rest : List Text) × (ts ≡ t.now ∷ rest))

-- the text at each index of a pool, from 0 on
pub record TextsAre (pool : Pool) (texts : List (Option (Bor Text))) : Type 0 where
  pub count : length texts ≡ suc (length pool)
  pub each : (i : ℕ) → option_copied (get_or texts i None) ≡ utf8_at pool i

-- what is said of the new pool's bytes, whatever the texts that are wanted and the new index of each use
abbrev pub ForNewPool : Pool → List (Option (Bor Text)) → List ℕ → (List ℕ → Type 0) → Type 0
ForNewPool pool texts indices Says =
    (ws : List Want) (g : Choice) (rest : List ℕ)
    → TextsAre (split ws pool) texts → indices ≡ map (λ (u : Used). g u.role u.index) (pool_uses 10 pool) ++ rest
    → Says (print_pool (map (option_map (with_texts g)) (split ws pool)))
