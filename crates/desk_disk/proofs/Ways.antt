-- Folders on the way to a folder that was found, by the bytes that its path shares with another.
use Rattle.std.proofs.Common.{◌≡◌, ◌<◌, ℕ, zero, suc, ◌+◌, [], ◌∷◌, ◌++◌, Some, inl, inr, refl, ap, ◌∙◌, length, take, arith}
use Rattle.std.specs.Prelude.{slice_get}
use Rattle.desk_base.specs.Names.{Text, slash}
use Rattle.desk_disk.specs.Disk.{IsAbove, IsOnTheWay}

further : (x y : ℕ) (folder path : Text) → x ≡ y → IsAbove folder path → IsAbove (y ∷ folder) (x ∷ path)
further x y folder path e h = record { rest = h.rest; is = ap (λ t. x ∷ t) h.is ∙ ap (λ b. b ∷ folder ++ slash ∷ h.rest) e }

-- a folder that ends before the byte up to which both paths are the same
pub shared_above : (found path : Text) (n end : ℕ) → take n found ≡ take n path → end < n → slice_get path end ≡ Some slash → IsAbove (take end path) found
shared_above found path zero end e lt at = absurd (omega arith)
shared_above found [] (suc n) end e lt at = absurd cc
shared_above [] (y ∷ ys) (suc n) end e lt at = absurd cc
shared_above (x ∷ xs) (y ∷ ys) (suc n) zero e lt at = record { rest = xs; is = cc }
shared_above (x ∷ xs) (y ∷ ys) (suc n) (suc end) e lt at = further x y (take end ys) xs (cc) (shared_above xs ys n end (cc) (omega arith) at)

-- the same, where they are the same up to the end of the folder that was found
pub shared_way : (found path : Text) (end : ℕ) → take (length found) found ≡ take (length found) path → end < length found + 1 → slice_get path end ≡ Some slash → IsOnTheWay (take end path) found
shared_way [] path zero e lt at = inl refl
shared_way [] path (suc end) e lt at = absurd (omega arith)
shared_way (x ∷ xs) [] end e lt at = absurd cc
shared_way (x ∷ xs) (y ∷ ys) zero e lt at = inr (record { rest = xs; is = cc })
shared_way (x ∷ xs) (y ∷ ys) (suc end) e lt at =
    elim (shared_way xs ys end (cc) (omega arith) at) [
      | inl h ↦ inl (cc)
      | inr h ↦ inr (further x y (take end ys) xs (cc) h)
    ]
