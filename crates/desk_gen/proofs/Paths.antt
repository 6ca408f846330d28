-- The generated names are short, and their paths are relative.
use Rattle.std.proofs.Common.{◌≡◌, ℕ, zero, suc, ◌+◌, ◌%◌, ◌^◌, ◌<◌, ◌≤◌, true, not, ne_eqb, List, [], ◌∷◌, ◌++◌, length, length-append, map, refl, ap, ◌∙◌, arith}
use Rattle.std.specs.Prelude.{◌==◌, codes, decimal}
use Rattle.std.specs.List.{list_all, range_with_len}
use Rattle.std.specs.Int.Digits.{digits_of}
use Rattle.std.proofs.lemmas.Bool.{and_from, eq-eqb}
use Rattle.std.proofs.lemmas.Fmt.{decimal_digit, decimal-digits_of, length-decimal-le}
use Rattle.std.proofs.lemmas.List.{append_assoc}
use Rattle.std.proofs.lemmas.List.Folds.{list_all-append}
use Rattle.std.proofs.lemmas.List.Splits.{slice_split_none, slice_split_at}
use Rattle.std.proofs.lemmas.List.FromFn.{map-range_with_len_more}
use Rattle.desk_base.specs.Names.{Text, slash, is_whole}
use Rattle.desk_base.specs.Paths.{is_segment, is_relative_path}
use Rattle.desk_base.proofs.Separated.{none_is}
use Rattle.desk_folders.specs.declared.folders.GenFile.{GenFile}
use Rattle.desk_gen.specs.Names.{class_name, dotted_name, descriptor}
use Rattle.desk_gen.specs.Application.{class_at, classes, generated, service_file}

-- ---- digits hold no slash

not_slash : (d : ℕ) → not ((48 + d) == slash) ≡ true
not_slash d = ap not (ne_eqb (48 + d) 47 (λ e. omega (arith, e)))

digits_whole : (ds : List ℕ) → is_whole slash (map (λ d. 48 + d) ds) ≡ true
digits_whole [] = refl
digits_whole (d ∷ ds) = and_from _ _ (not_slash d) (digits_whole ds)

decimal_whole : (n : ℕ) → n < 2 ^ 64 → is_whole slash (decimal n) ≡ true
decimal_whole zero h = ap (is_whole slash) (decimal_digit 0 (omega arith))
decimal_whole (suc n) h = ap (is_whole slash) (decimal-digits_of (suc n) (omega arith) h) ∙ digits_whole (digits_of 10 (suc n))

-- ---- relative paths

relative_more : (s t : Text) → is_segment s ≡ true → is_whole slash s ≡ true → is_relative_path t ≡ true → is_relative_path (s ++ (slash ∷ t)) ≡ true
relative_more s t e w f = ap (list_all is_segment) (slice_split_at (λ b. b == slash) s slash t (none_is slash s w) (eq-eqb slash slash refl)) ∙ and_from _ _ e f

relative_one : (s : Text) → is_segment s ≡ true → is_whole slash s ≡ true → is_relative_path s ≡ true
relative_one s e w = ap (list_all is_segment) (slice_split_none (λ b. b == slash) s (none_is slash s w)) ∙ and_from _ _ e refl

file_whole : (i : ℕ) → i < 2 ^ 64 → is_whole slash (decimal i ++ codes ".class") ≡ true
file_whole i h = list_all-append (λ b. not (b == slash)) (decimal i) (codes ".class") ∙ and_from _ _ (decimal_whole i h) refl

-- what stands behind `javax/gen/`
tail_relative : (k i : ℕ) → k < 2 ^ 64 → i < 2 ^ 64 → is_relative_path ((112 ∷ decimal k) ++ (slash ∷ (67 ∷ (decimal i ++ codes ".class")))) ≡ true
tail_relative k i hk hi = relative_more (112 ∷ decimal k) (67 ∷ (decimal i ++ codes ".class")) refl (decimal_whole k hk) (relative_one (67 ∷ (decimal i ++ codes ".class")) refl (file_whole i hi))

class_relative : (n i : ℕ) → i < 20000 → is_relative_path (class_at n i).path ≡ true
class_relative n i h =
    let k : i % 10 < 2 ^ 64 = omega (arith, h) in
    let j : i < 2 ^ 64 = omega (arith, h) in
    ap (λ t. is_relative_path (codes "javax/gen/p" ++ t)) (append_assoc (decimal (i % 10)) (codes "/C" ++ decimal i) (codes ".class")) ∙ tail_relative (i % 10) i k j

classes_relative : (n k : ℕ) → k ≤ 20000 → list_all (λ (file : GenFile). is_relative_path file.path) (map (class_at n) (range_with_len 0 k)) ≡ true
classes_relative n zero h = refl
classes_relative n (suc k) h =
    let less : k < 20000 = omega (arith, h) in
    let before : k ≤ 20000 = omega (arith, h) in
    let more : map (class_at n) (range_with_len 0 (k + 1)) ≡ map (class_at n) (range_with_len 0 k) ++ class_at n k ∷ [] = map-range_with_len_more (class_at n) 0 k k (omega arith) in
    let e : suc k ≡ k + 1 = omega arith in
    ap (λ m. list_all (λ (file : GenFile). is_relative_path file.path) (map (class_at n) (range_with_len 0 m))) e
    ∙ ap (list_all (λ (file : GenFile). is_relative_path file.path)) more
    ∙ list_all-append (λ (file : GenFile). is_relative_path file.path) (map (class_at n) (range_with_len 0 k)) (class_at n k ∷ [])
    ∙ and_from _ _ (classes_relative n k before) (and_from _ _ (class_relative n k less) refl)

pub generated_relative : (n : ℕ) → n ≤ 20000 → list_all (λ (file : GenFile). is_relative_path file.path) (generated n) ≡ true
generated_relative n h =
    list_all-append (λ (file : GenFile). is_relative_path file.path) (classes n) (service_file ∷ [])
    ∙ and_from _ _ (classes_relative n n h) refl

-- ---- short names

pub short_name : (i : ℕ) → i < 2 ^ 32 → length (class_name i) < 2 ^ 16
short_name i h =
    let a : length (decimal i) ≤ 10 = length-decimal-le 10 i (omega arith) (omega (arith, h)) (omega (arith, h)) in
    let b : length (decimal (i % 10)) ≤ 10 = length-decimal-le 10 (i % 10) (omega arith) (omega arith) (omega arith) in
    let c = length-append (decimal (i % 10)) (codes "/C" ++ decimal i) in
    omega (arith, a, b, c)

pub short_dotted : (i : ℕ) → i < 2 ^ 32 → length (dotted_name i) < 2 ^ 16
short_dotted i h =
    let a : length (decimal i) ≤ 10 = length-decimal-le 10 i (omega arith) (omega (arith, h)) (omega (arith, h)) in
    let b : length (decimal (i % 10)) ≤ 10 = length-decimal-le 10 (i % 10) (omega arith) (omega arith) (omega arith) in
    let c = length-append (decimal (i % 10)) (codes ".C" ++ decimal i) in
    omega (arith, a, b, c)

pub short_descriptor : (i : ℕ) → i < 2 ^ 32 → length (descriptor i) < 2 ^ 16
short_descriptor i h =
    let a : length (decimal i) ≤ 10 = length-decimal-le 10 i (omega arith) (omega (arith, h)) (omega (arith, h)) in
    let b : length (decimal (i % 10)) ≤ 10 = length-decimal-le 10 (i % 10) (omega arith) (omega arith) (omega arith) in
    let c = length-append (decimal (i % 10)) (codes "/C" ++ (decimal i ++ codes ";")) in
    let d = length-append (decimal i) (codes ";") in
    omega (arith, a, b, c, d)
