-- Entries by their parts, a level deeper.
use Rattle.std.proofs.Common.{◌≡◌, ◌<◌, ◌-◌, ℕ, zero, suc, Bool, true, false, ◌&&◌, [], Option, Some, None, refl, sym, ◌∙◌, arith}
use Rattle.desk_base.specs.Entries.{Entry, utf8, Pool, entry_at, utf8_in, utf8_at, text_in, text_at}
use Rattle.desk_compare.specs.Values.{EntryParts, parts_at, same_parts, same_within}

empty_text : (e : Option Entry) → utf8_in e ≡ None → text_in e ≡ []
empty_text None h = refl
empty_text (Some (utf8 t)) h = absurd cc
empty_text (Some _) h = refl

pub no_text : (pool : Pool) (i : ℕ) → utf8_at pool i ≡ None → text_at pool i ≡ []
no_text pool i h = empty_text (entry_at pool i) h

-- ---- a level deeper

level_of : (n : ℕ) (left right : Pool) (i j : ℕ) → 0 < n
    → same_within n left right i j ≡ (same_parts (parts_at left i) (parts_at right j) && (same_within (n - 1) left right (parts_at left i).first (parts_at right j).first && same_within (n - 1) left right (parts_at left i).second (parts_at right j).second))
unfolding same_within
level_of zero left right i j h = absurd (omega arith)
level_of (suc n) left right i j h = let e : suc n - 1 ≡ n = omega arith in rw e refl

pub level_by : (n : ℕ) (left right : Pool) (i j : ℕ) (f g : EntryParts) → 0 < n → f ≡ parts_at left i → g ≡ parts_at right j
    → same_within n left right i j ≡ (same_parts f g && (same_within (n - 1) left right f.first g.first && same_within (n - 1) left right f.second g.second))
level_by n left right i j f g h p q = rw (p, q) (level_of n left right i j h)
