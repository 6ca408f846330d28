-- Answers to whether a text is odd.
use Rattle.std.proofs.Common.{◌≡◌, ℕ, Bool, List, Option, Some, ap₂, sym, ◌∙◌, inl, inr}
use Rattle.desk_base.specs.Entries.{Pool, text_at}
use Rattle.desk_base.specs.declared.kinds.Role.{Role}
use Rattle.desk_base.specs.declared.kinds.Used.{Used}
use Rattle.desk_class.specs.Answers.{Keeps, answer_at}
use Rattle.desk_rewrite.specs.Counts.{AreOdd, is_odd, is_odd_use}

module _ (pool : Pool) where
  -- one answer more
  pub odd_kept : (u : Used) (odd : Bool) (answers after : List (Option Bool)) → odd ≡ is_odd u.role (text_at pool u.index) → AreOdd pool answers → Keeps answers u.index u.role odd after → AreOdd pool after
  odd_kept u odd answers after is all keeps i r b e =
      elim (keeps i r b e) [
        | inl before ↦ all i r b before
        | inr now ↦ now.1.1 ∙ is ∙ ap₂ (λ (j : ℕ) (s : Role). is_odd s (text_at pool j)) (sym now.0) (sym now.1.0)
      ]

  pub odd_known : (u : Used) (odd : Bool) (answers : List (Option Bool)) → AreOdd pool answers → answer_at answers u.index u.role ≡ Some odd → odd ≡ is_odd_use pool u
  odd_known u odd answers all e = all u.index u.role odd e
