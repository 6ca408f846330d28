-- The bytes of the new class, one part behind the other.
use Rattle.std.proofs.Common.{◌≡◌, ℕ, List, ◌++◌, map, length, take, drop, option_map, ap, ap₂, ◌∙◌, subst}
use Rattle.std.proofs.lemmas.List.{map-append, drop-map}
use Rattle.desk_base.specs.declared.kinds.Used.{Used}
use Rattle.desk_base.specs.Entries.{Pool}
use Rattle.desk_format.specs.Classes.{Class, class_uses, entries_at}
use Rattle.desk_format.specs.Exchange.{patch}
use Rattle.desk_format.specs.NewClass.{pool_of, change_of, new_bytes}
use Rattle.desk_format.specs.NewPool.{Choice, with_texts, wants, choice}
use Rattle.desk_format.specs.PoolBytes.{print_pool, pool_uses}
use Rattle.desk_format.specs.Resolved.{Images}
use Rattle.desk_format.specs.Split.{Want, split}
use Rattle.desk_format.specs.Trees.{uses}
use Rattle.desk_new_pool.specs.Keeps.{TextsAre}
use Rattle.desk_new_pool.specs.declared.new_texts.NewTexts.{NewTexts}
use Rattle.desk_rewrite.specs.Wanting.{IsNewTexts}
use Rattle.desk_rewrite.proofs.Parts.{body_uses}

-- what is said of the bytes of a pool
abbrev pub AppendsPool : NewTexts → List ℕ → List ℕ → Pool → Type 0
AppendsPool new old out pool = (ws : List Want) (g : Choice) (rest : List ℕ) → TextsAre (split ws pool) new.texts.items → new.indices.items ≡ map (λ (u : Used). g u.role u.index) (pool_uses entries_at pool) ++ rest
    → out ≡ old ++ print_pool (map (option_map (with_texts g)) (split ws pool))

-- and of those of a body
abbrev pub AppendsBody : List ℕ → List ℕ → List ℕ → ℕ → List Used → List ℕ → Type 0
AppendsBody indices old out at us body = (g : Used → ℕ) → indices ≡ map g us → out ≡ old ++ patch g at us body

module _ (im : Images) (bytes : List ℕ) (c : Class) (new : NewTexts) (h : IsNewTexts im c new) where
  pool_printed : (old out : List ℕ) (pool : Pool) → pool ≡ c.pool → AppendsPool new old out pool → out ≡ old ++ print_pool (pool_of im c)
  pool_printed old out pool e f =
      let all : AppendsPool new old out c.pool = subst (AppendsPool new old out) e f in
      all (wants im c.pool (class_uses c)) (choice im c.pool (class_uses c)) (map (change_of im c).index (uses c.body)) h.texts (h.indices ∙ map-append (change_of im c).index (pool_uses entries_at c.pool) (uses c.body))

  body_printed : (indices old out : List ℕ) (n at : ℕ) (us : List Used) (body : List ℕ) → at ≡ c.body_at → us ≡ uses c.body → body ≡ drop c.body_at bytes → n ≡ length (pool_uses entries_at c.pool) → indices ≡ drop n new.indices.items
      → AppendsBody indices old out at us body → out ≡ old ++ patch (change_of im c).index c.body_at (uses c.body) (drop c.body_at bytes)
  body_printed indices old out n at us body p q r e i f =
      let first : AppendsBody indices old out c.body_at us body = subst (λ (k : ℕ). AppendsBody indices old out k us body) p f in
      let second : AppendsBody indices old out c.body_at (uses c.body) body = subst (λ (vs : List Used). AppendsBody indices old out c.body_at vs body) q first in
      let third : AppendsBody indices old out c.body_at (uses c.body) (drop c.body_at bytes) = subst (AppendsBody indices old out c.body_at (uses c.body)) r second in
      third (change_of im c).index
      (i ∙ ap₂ (λ (k : ℕ) (l : List ℕ). drop k l) e h.indices ∙ drop-map (change_of im c).index (length (pool_uses entries_at c.pool)) (class_uses c) ∙ ap (map (change_of im c).index) (body_uses c))

  pub printed : (one two three indices : List ℕ) (pool : Pool) (n at : ℕ) (us : List Used) (body : List ℕ) → one ≡ take 8 bytes → pool ≡ c.pool → AppendsPool new one two pool
      → at ≡ c.body_at → us ≡ uses c.body → body ≡ drop c.body_at bytes → n ≡ length (pool_uses entries_at c.pool) → indices ≡ drop n new.indices.items → AppendsBody indices two three at us body → three ≡ new_bytes im bytes c
  printed one two three indices pool n at us body a p f q r s e i g =
      body_printed indices two three n at us body q r s e i g
      ∙ ap (λ (l : List ℕ). l ++ patch (change_of im c).index c.body_at (uses c.body) (drop c.body_at bytes)) (pool_printed one two pool p f ∙ ap (λ (l : List ℕ). l ++ print_pool (pool_of im c)) a)
