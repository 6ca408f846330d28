-- The segments of a class name, one after the other, beside those of a package.
use Rattle.std.specs.Prelude.{◌&&◌}
use Rattle.std.proofs.Common.{◌≡◌, ℕ, ◌+◌, ◌<◌, ◌≤◌, Bool, true, false, not, cond, List, [], ◌∷◌, length, take, drop, get_or, refl, sym, ap, ap₂, ◌∙◌, arith}
use Rattle.std.specs.List.{slice_split, onto_first, before_first, after_first, position_or_len}
use Rattle.std.specs.Str.{bytes_eq}
use Rattle.std.proofs.lemmas.List.{drop_more, drop_all}
use Rattle.std.proofs.lemmas.List.Splits.{slice_split_first}
use Rattle.desk_base.specs.Names.{Text, Package, segments, begins_with, front, slash}
use Rattle.desk_sites.specs.Packages.{is_slash, lies_in}

-- ---- all segments but the last

-- a list with a first element
abbrev IsSome : List Text → Type 0
IsSome xs = (y : Text) × (ys : List Text) × (xs ≡ y ∷ ys)

parts_some : (bs : Text) → IsSome (slice_split is_slash bs)
parts_some [] = ([], [], refl)
parts_some (b ∷ bs) =
    let more : IsSome (slice_split is_slash bs) = parts_some bs in
    elim (is_slash b) as (λ (x : Bool). IsSome (cond x ([] ∷ slice_split is_slash bs) (onto_first b (slice_split is_slash bs)))) [
      | true ↦ ([], slice_split is_slash bs, refl)
      | false ↦ (b ∷ more.0, more.1, ap (onto_first b) more.2)
    ]

front_more : (x : Text) (ys : List Text) → IsSome ys → front (x ∷ ys) ≡ x ∷ front ys
front_more x [] h = let e : [] ≡ h.0 ∷ h.1 = h.2 in absurd cc
front_more x (y ∷ ys) h = refl

-- the empty text has no segments, and so none but the last
front_parts : (bs : Text) → front (segments slash bs) ≡ front (slice_split is_slash bs)
front_parts [] = refl
front_parts (b ∷ bs) = refl

front_first : (t : Text) → position_or_len is_slash t < length t → front (segments slash t) ≡ before_first is_slash t ∷ front (segments slash (after_first is_slash t))
front_first t h =
    front_parts t ∙ ap front (slice_split_first is_slash t 0 h)
    ∙ front_more (before_first is_slash t) (slice_split is_slash (after_first is_slash t)) (parts_some (after_first is_slash t))
    ∙ ap (λ (xs : List Text). before_first is_slash t ∷ xs) (sym (front_parts (after_first is_slash t)))

whole_by : (x : Bool) (b : ℕ) (bs : Text) → length (b ∷ bs) ≤ cond (not x) (1 + position_or_len is_slash bs) 0 → (length bs ≤ position_or_len is_slash bs → slice_split is_slash bs ≡ bs ∷ [])
    → cond x ([] ∷ slice_split is_slash bs) (onto_first b (slice_split is_slash bs)) ≡ (b ∷ bs) ∷ []
whole_by true b bs h k = absurd (omega arith)
whole_by false b bs h k = ap (onto_first b) (k (omega arith))

whole : (t : Text) → length t ≤ position_or_len is_slash t → slice_split is_slash t ≡ t ∷ []
whole [] h = refl
whole (b ∷ bs) h = whole_by (is_slash b) b bs h (λ k. whole bs k)

front_whole : (t : Text) → length t ≤ position_or_len is_slash t → front (segments slash t) ≡ []
front_whole t h = front_parts t ∙ ap front (whole t h)

-- ---- one segment after the other

pub lies_end : (rest : Text) (scope : Package) (i : ℕ) → length scope ≤ i → lies_in (drop i scope) rest ≡ true
lies_end rest scope i h = ap (λ (p : Package). lies_in p rest) (drop_all i scope h)

-- no segment is left of the name
pub lies_over : (rest : Text) (scope : Package) (i end : ℕ) → i < length scope → end ≡ position_or_len is_slash rest → end ≡ length rest → lies_in (drop i scope) rest ≡ false
lies_over rest scope i end within is over =
    ap₂ (λ (p q : Package). begins_with q p) (drop_more scope i [] within) (front_whole rest (omega arith))

abbrev ahead : Text → Text → Package → Bool
ahead rest segment more = bytes_eq segment (before_first is_slash rest) && lies_in more (after_first is_slash rest)

lies_step : (rest : Text) (scope : Package) (i : ℕ) (d : Text) → i < length scope → position_or_len is_slash rest < length rest → lies_in (drop i scope) rest ≡ ahead rest (get_or scope i d) (drop (i + 1) scope)
lies_step rest scope i d within cut = ap₂ (λ (p q : Package). begins_with q p) (drop_more scope i d within) (front_first rest cut)

pub lies_apart : (rest : Text) (scope : Package) (i end : ℕ) (d : Text) → i < length scope → end ≡ position_or_len is_slash rest → end < length rest → bytes_eq (get_or scope i d) (take end rest) ≡ false → lies_in (drop i scope) rest ≡ false
lies_apart rest scope i end d within is cut differs =
    let e : bytes_eq (get_or scope i d) (before_first is_slash rest) ≡ false = ap (λ (n : ℕ). bytes_eq (get_or scope i d) (take n rest)) (sym is) ∙ differs in
    lies_step rest scope i d within (omega arith) ∙ ap (λ (x : Bool). x && lies_in (drop (i + 1) scope) (after_first is_slash rest)) e

pub lies_on : (rest : Text) (scope : Package) (i end : ℕ) (d : Text) → i < length scope → end ≡ position_or_len is_slash rest → end < length rest → bytes_eq (get_or scope i d) (take end rest) ≡ true
    → lies_in (drop i scope) rest ≡ lies_in (drop (i + 1) scope) (drop (end + 1) rest)
lies_on rest scope i end d within is cut same =
    let e : bytes_eq (get_or scope i d) (before_first is_slash rest) ≡ true = ap (λ (n : ℕ). bytes_eq (get_or scope i d) (take n rest)) (sym is) ∙ same in
    lies_step rest scope i d within (omega arith)
    ∙ ap (λ (x : Bool). x && lies_in (drop (i + 1) scope) (after_first is_slash rest)) e
    ∙ ap (λ (n : ℕ). lies_in (drop (i + 1) scope) (drop (n + 1) rest)) (sym is)

-- a test whose opposite is false
pub from_not : (x : Bool) → false ≡ not x → x ≡ true
from_not true h = refl
from_not false h = absurd cc
