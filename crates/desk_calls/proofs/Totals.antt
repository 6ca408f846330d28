-- The line of the totals, put together.
use Rattle.std.proofs.Common.{◌≡◌, List, [], ◌∷◌, ◌++◌, refl, sym, ap, ◌∙◌, append_assoc, append-nil}
use Rattle.desk_base.specs.Names.{Text}
use Rattle.desk_report.specs.Joined.{joined}

joined_behind : (xs ys : List Text) → joined (xs ++ ys) ≡ joined xs ++ joined ys
joined_behind [] ys = refl
joined_behind (x ∷ xs) ys = ap (λ (t : Text). x ++ t) (joined_behind xs ys) ∙ sym (append_assoc x (joined xs) (joined ys))

pub totals_joined : (old a n b m c k e : Text) → (((old ++ joined (a ∷ n ∷ [])) ++ joined (b ∷ m ∷ [])) ++ joined (c ∷ k ∷ [])) ++ e ≡ old ++ joined (a ∷ n ∷ b ∷ m ∷ c ∷ k ∷ e ∷ [])
totals_joined old a n b m c k e =
    let first : Text = joined (a ∷ n ∷ []) in
    let second : Text = joined (b ∷ m ∷ []) in
    let third : Text = joined (c ∷ k ∷ []) in
    append_assoc ((old ++ first) ++ second) third e ∙ append_assoc (old ++ first) second (third ++ e) ∙ append_assoc old first (second ++ (third ++ e))
    ∙ sym (ap (λ (t : Text). old ++ t) (joined_behind (a ∷ n ∷ []) (b ∷ m ∷ c ∷ k ∷ e ∷ [])
    ∙ ap (λ (t : Text). first ++ t) (joined_behind (b ∷ m ∷ []) (c ∷ k ∷ e ∷ [])
    ∙ ap (λ (t : Text). second ++ t) (joined_behind (c ∷ k ∷ []) (e ∷ []) ∙ ap (λ (t : Text). third ++ t) (append-nil e)))))
