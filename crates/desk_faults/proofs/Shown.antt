-- Texts that are shown byte by byte.
use Rattle.std.proofs.Common.{◌≡◌, ℕ, ◌+◌, ◌<◌, List, ◌++◌, append_assoc, sym, length, take, get_or, ap, ◌∙◌}
use Rattle.std.specs.List.{flat_map}
use Rattle.desk_base.specs.Names.{Text}
use Rattle.desk_base.proofs.Lists.{texts_more}

-- a line that has the texts of a list up to one item, with that item's text behind it
pub texts_behind : {X : Type 0} (f : X → Text) (xs : List X) (i : ℕ) (d : X) (old line new : Text) → i < length xs
    → line ≡ old ++ flat_map f (take i xs) → new ≡ line ++ f (get_or xs i d) → new ≡ old ++ flat_map f (take (i + 1) xs)
texts_behind f xs i d old line new lt before after =
    after ∙ ap (λ t. t ++ f (get_or xs i d)) before ∙ append_assoc old (flat_map f (take i xs)) (f (get_or xs i d))
    ∙ ap (λ t. old ++ t) (sym (texts_more f xs i d lt))
