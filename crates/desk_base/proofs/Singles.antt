-- From the mask of a block to bytes that are forms by themselves.
use Rattle.std.proofs.Common.{◌≡◌, ℕ, ◌+◌, ◌%◌, ◌^◌, ◌<◌, ◌≤◌, Bool, true, false, cond, ◌||◌, ◌==◌, eqb, leb, List, length, get_or, map, replicate, bit_or, Fits, w8, refl, sym, ap, ◌∙◌, inl, inr, arith}
use Rattle.std.proofs.lemmas.Bool.{OnTrue_from, agree_below_at, eqb-true, cases_lt}
use Rattle.std.proofs.lemmas.List.{length-map}
use Rattle.std.proofs.lemmas.Simd.{length-chunk, map-map, mask_l-mod, none_from_empty_mask, zip2_of_maps, zip2_splat, zip2_splat_left}
use Rattle.std.specs.Bool.{OnTrue}
use lib.Lanes.{chunk, mask_l, top, zip2}
use Rattle.desk_base.specs.Utf8.{is_single, AreSingle}

abbrev equal : ℕ → ℕ → ℕ
equal a b = cond (eqb a b) 255 0

abbrev at_most : ℕ → ℕ → ℕ
at_most a b = cond (leb a b) 255 0

-- what the two tests make of a byte
abbrev tested : ℕ → ℕ
tested x = bit_or (equal x 0) (at_most 128 x)

abbrev is_other : ℕ → Bool
is_other x = top 7 (tested x)

single_at : (x : ℕ) → x < 256 → is_other x ≡ false → is_single x ≡ true
single_at x small h = sym (ap (λ (b : Bool). b || is_single x) h) ∙ agree_below_at (λ x. is_other x || is_single x) (λ _. true) 256 x refl small

single_where : (d : List ℕ) (i n m : ℕ) → i + n ≤ length d → ((k : ℕ) → Fits w8 (get_or d k 0)) → m ≡ mask_l (map is_other (chunk i n d)) → OnTrue (m == 0) (AreSingle d i (i + n))
single_where d i n m room fits e =
    OnTrue_from (m == 0) (AreSingle d i (i + n)) (λ t k p q. single_at (get_or d k 0) (fits k).fits (none_from_empty_mask is_other d i n 0 room (sym e ∙ eqb-true m 0 t) k p q))

-- the two tests of a block of n bytes, as the code makes them
pub single_from_lanes : (d : List ℕ) (i n : ℕ) → i + n ≤ length d → n ≤ 64 → ((k : ℕ) → Fits w8 (get_or d k 0))
    → OnTrue (mask_l (map (top 7) (zip2 bit_or (zip2 equal (chunk i n d) (replicate n 0)) (zip2 at_most (replicate n 128) (chunk i n d)))) % 2 ^ 64 == 0) (AreSingle d i (i + n))
single_from_lanes d i n room few fits =
    let v = chunk i n d in
    let long = length-chunk i n d room in
    let lanes = zip2_of_maps bit_or _ _ v (zip2_splat equal v n 0 long) (zip2_splat_left at_most 128 n v long) in
    let mask = ap (λ (l : List ℕ). mask_l (map (top 7) l) % 2 ^ 64) lanes ∙ ap (λ (l : List Bool). mask_l l % 2 ^ 64) (map-map (top 7) tested v) ∙ mask_l-mod (map is_other v) 64 (omega (arith, length-map v is_other, long)) in
    single_where d i n _ room fits mask

-- a block at the end, which overlaps bytes that were passed before
pub single_to_end : (d : List ℕ) (at from : ℕ) → from ≤ at → AreSingle d 0 at → AreSingle d from (length d) → AreSingle d 0 (length d)
single_to_end d at from h front back k p q = elim (cases_lt k at) [ inl l ↦ front k p l | inr g ↦ back k (omega arith) q ]
