-- Texts cut at a separator and put together again.
use Rattle.std.proofs.Common.{◌≡◌, ℕ, Bool, true, false, not, ◌==◌, [], ◌∷◌, ◌++◌, refl, ap, ◌∙◌}
use Rattle.std.specs.List.{slice_split, list_all}
use Rattle.std.proofs.lemmas.Bool.{and_parts, and_from, eq-eqb, both_ways}
use Rattle.std.proofs.lemmas.List.{append_assoc}
use Rattle.std.proofs.lemmas.List.Splits.{slice_split_none, slice_split_at, join_with_byte-slice_split}
use Rattle.desk_base.specs.Names.{Text, Package, segments, written, front, simple, is_empty, is_whole}
use Rattle.desk_base.proofs.Separated.{none_is}

-- whole parts, joined and followed by a separator, are cut apart again
pub split_behind : (separator : ℕ) (x : Text) (xs : Package) (more : Text) → list_all (is_whole separator) (x ∷ xs) ≡ true → slice_split (λ b. b == separator) (written separator (x ∷ xs) ++ separator ∷ more) ≡ (x ∷ xs) ++ slice_split (λ b. b == separator) more
split_behind separator x [] more h = slice_split_at (λ b. b == separator) x separator more (none_is separator x (and_parts _ _ h).0) (eq-eqb separator separator refl)
split_behind separator x (y ∷ xs) more h =
    rw (append_assoc x (separator ∷ written separator (y ∷ xs)) (separator ∷ more))
    (slice_split_at (λ b. b == separator) x separator (written separator (y ∷ xs) ++ separator ∷ more) (none_is separator x (and_parts _ _ h).0) (eq-eqb separator separator refl)
    ∙ ap (λ (ps : Package). x ∷ ps) (split_behind separator y xs more (and_parts _ _ h).1))

pub split_written : (separator : ℕ) (x : Text) (xs : Package) → list_all (is_whole separator) (x ∷ xs) ≡ true → slice_split (λ b. b == separator) (written separator (x ∷ xs)) ≡ x ∷ xs
split_written separator x [] h = slice_split_none (λ b. b == separator) x (none_is separator x (and_parts _ _ h).0)
split_written separator x (y ∷ xs) h =
    slice_split_at (λ b. b == separator) x separator (written separator (y ∷ xs)) (none_is separator x (and_parts _ _ h).0) (eq-eqb separator separator refl)
    ∙ ap (λ (ps : Package). x ∷ ps) (split_written separator y xs (and_parts _ _ h).1)

-- a test that passes only parts with bytes and without the separator
pub record Cuts (separator : ℕ) (part : Text → Bool) : Type 0 where
  pub filled : part [] ≡ false
  pub whole : (t : Text) → part t ≡ true → is_whole separator t ≡ true

all_whole : (separator : ℕ) (part : Text → Bool) → Cuts separator part → (ps : Package) → list_all part ps ≡ true → list_all (is_whole separator) ps ≡ true
all_whole separator part cuts [] h = refl
all_whole separator part cuts (p ∷ ps) h = and_from _ _ (cuts.whole p (and_parts _ _ h).0) (all_whole separator part cuts ps (and_parts _ _ h).1)

-- the segments of parts that were joined
pub segments_written : (separator : ℕ) (part : Text → Bool) → Cuts separator part → (ps : Package) → list_all part ps ≡ true → segments separator (written separator ps) ≡ ps
segments_written separator part cuts [] h = refl
segments_written separator part cuts ([] ∷ ps) h = absurd (both_ways (part []) cuts.filled (and_parts _ _ h).0)
segments_written separator part cuts ((b ∷ p) ∷ []) h = split_written separator (b ∷ p) [] (all_whole separator part cuts ((b ∷ p) ∷ []) h)
segments_written separator part cuts ((b ∷ p) ∷ q ∷ ps) h = split_written separator (b ∷ p) (q ∷ ps) (all_whole separator part cuts ((b ∷ p) ∷ q ∷ ps) h)

-- of parts, then a separator and more
pub segments_behind : (separator : ℕ) (part : Text → Bool) → Cuts separator part → (p : Text) (ps : Package) (more : Text) → list_all part (p ∷ ps) ≡ true → segments separator (written separator (p ∷ ps) ++ separator ∷ more) ≡ (p ∷ ps) ++ slice_split (λ b. b == separator) more
segments_behind separator part cuts [] ps more h = absurd (both_ways (part []) cuts.filled (and_parts _ _ h).0)
segments_behind separator part cuts (b ∷ p) [] more h = split_behind separator (b ∷ p) [] more (all_whole separator part cuts ((b ∷ p) ∷ []) h)
segments_behind separator part cuts (b ∷ p) (q ∷ ps) more h = split_behind separator (b ∷ p) (q ∷ ps) more (all_whole separator part cuts ((b ∷ p) ∷ q ∷ ps) h)

-- a text is its segments joined
pub written-segments : (separator : ℕ) (t : Text) → written separator (segments separator t) ≡ t
written-segments separator [] = refl
written-segments separator (b ∷ t) = join_with_byte-slice_split separator (b ∷ t)

pub front_simple : (p : Package) → not (is_empty p) ≡ true → front p ++ simple p ∷ [] ≡ p
front_simple [] h = absurd cc
front_simple (a ∷ []) h = refl
front_simple (a ∷ b ∷ p) h = ap (λ (ps : Package). a ∷ ps) (front_simple (b ∷ p) refl)
