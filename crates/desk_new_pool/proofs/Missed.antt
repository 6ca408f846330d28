-- The missing texts are the images that are sought and that no entry keeps.
use Rattle.std.proofs.Common.{◌≡◌, ℕ, Bool, true, false, cond, List, [], ◌∷◌, map, length, filter, Option, Some, None, refl, ap, ap₂, sym, ◌∙◌, bytes_eq}
use denote.Ref.{Bor}
use Rattle.std.specs.List.{AllByRecursion}
use Rattle.std.specs.Option.{is_some, is_none}
use Rattle.std.specs.Ordering.{nat_cmp, is_lt, is_eq, ordering_reverse}
use Rattle.std.specs.declared.cmp.Ordering.{Ordering}
use Rattle.std.specs.declared.cmp.Ordering.TheVariants.{Less, Equal, Greater}
use Rattle.std.specs.Cmp.{IsTotalOrder}
use Rattle.std.specs.Cmp.Lexicographic.{slice_cmp}
use Rattle.std.proofs.lemmas.Bool.{or_right}
use Rattle.std.proofs.lemmas.Cmp.{nat_list_eq_equiv, nat_list_cmp_total}
use Rattle.std.proofs.lemmas.List.{length-map}
use Rattle.std.proofs.lemmas.List.Elements.{All-filter, All-from_recursion, recursion_from_All}
use Rattle.std.proofs.lemmas.Map.Text.{is_eq-slice_cmp}
use Rattle.std.proofs.lemmas.Slice.Eq.{bytes_eq-Decides}
use Rattle.desk_base.specs.Names.{Text}
use Rattle.desk_base.proofs.Orderings.{less_is}
use Rattle.desk_format.specs.Split.{add, holds}
use Rattle.desk_new_pool.specs.Places.{least, not_kept, with_missing, missing_among}
use Rattle.desk_new_pool.specs.Sought.{with_sought, sought_among}
use Rattle.desk_new_pool.specs.declared.wants.WantedText.{WantedText}
use Rattle.desk_new_pool.proofs.Images.{holds_first}

-- ---- texts in byte order, and one more

abbrev order : Text → Text → Ordering
order s t = slice_cmp nat_cmp s t

-- others all stand behind a text
abbrev IsBefore : Text → List Text → Type 0
IsBefore t ss = AllByRecursion (λ s. order t s ≡ Less) ss

abbrev IsAscending : List Text → Type 0
IsAscending [] = Unit {0}
IsAscending (t ∷ ts) = IsBefore t ts × IsAscending ts

turned : (r : Ordering) (s t : Text) → order t s ≡ r → is_lt r ≡ false → bytes_eq s t ≡ false → order s t ≡ ordering_reverse r → order s t ≡ Less
turned Less s t e lt ne back = absurd cc
turned Equal s t e lt ne back = let same : is_eq (order s t) ≡ true = ap is_eq back in let no : is_eq (order s t) ≡ false = is_eq-slice_cmp s t ∙ ne in absurd cc
turned Greater s t e lt ne back = back

other_way : (s t : Text) → bytes_eq s t ≡ false → is_lt (order t s) ≡ false → order s t ≡ Less
other_way s t ne lt =
    let total : IsTotalOrder order = nat_list_cmp_total in
    turned (order t s) s t refl lt ne (total.antisymm s t)

further : (t s : Text) (ss : List Text) → order t s ≡ Less → IsBefore s ss → IsBefore t ss
further t s [] lt h = tt
further t s (u ∷ us) lt h = let total : IsTotalOrder order = nat_list_cmp_total in (total.trans t s u lt h.0, further t s us lt h.1)

before_by : (same less : Bool) (s t u : Text) (us : List Text) → order s t ≡ Less → IsBefore s (u ∷ us) → IsBefore s (add t us) → IsBefore s (cond same (u ∷ us) (cond less (t ∷ (u ∷ us)) (u ∷ add t us)))
before_by true less s t u us a b k = b
before_by false true s t u us a b k = (a, b)
before_by false false s t u us a b k = (b.0, k)

before_add : (s t : Text) (us : List Text) → order s t ≡ Less → IsBefore s us → IsBefore s (add t us)
before_add s t [] a b = (a, tt)
before_add s t (u ∷ us) a b = before_by (bytes_eq u t) (is_lt (order t u)) s t u us a b (before_add s t us a b.1)

ascending_by : (same less : Bool) (t s : Text) (ss : List Text) → bytes_eq s t ≡ same → is_lt (order t s) ≡ less → IsAscending (s ∷ ss) → IsAscending (add t ss) → IsAscending (cond same (s ∷ ss) (cond less (t ∷ (s ∷ ss)) (s ∷ add t ss)))
ascending_by true less t s ss p q h k = h
ascending_by false true t s ss p q h k = let lt = less_is (order t s) q in ((lt, further t s ss lt h.0), h)
ascending_by false false t s ss p q h k = (before_add s t ss (other_way s t p q) h.0, k)

ascending_add : (t : Text) (ss : List Text) → IsAscending ss → IsAscending (add t ss)
ascending_add t [] h = (tt, tt)
ascending_add t (s ∷ ss) h = ascending_by (bytes_eq s t) (is_lt (order t s)) t s ss refl refl h (ascending_add t ss h.1)

-- ---- some of the texts, and one more

add_is : (same less : Bool) (t s : Text) (ss : List Text) → bytes_eq s t ≡ same → is_lt (order t s) ≡ less → add t (s ∷ ss) ≡ cond same (s ∷ ss) (cond less (t ∷ (s ∷ ss)) (s ∷ add t ss))
add_is same less t s ss e l = ap₂ (λ (b c : Bool). cond b (s ∷ ss) (cond c (t ∷ (s ∷ ss)) (s ∷ add t ss))) e l

add_first : (t : Text) (ss : List Text) → IsBefore t ss → add t ss ≡ t ∷ ss
add_first t [] h = refl
add_first t (s ∷ ss) h = add_is false true t s ss (nat_list_eq_equiv.symm s t ∙ sym (is_eq-slice_cmp t s) ∙ ap is_eq h.0) (ap is_lt h.0)

abbrev with : Bool → Text → List Text → List Text
with b t ss = cond b (t ∷ ss) ss

-- of the texts s ∷ .., s if y, and some others; and of the same with t, t if x
some_by : (same less x y : Bool) (t s : Text) (some more : List Text) → bytes_eq s t ≡ same → is_lt (order t s) ≡ less → (same ≡ true → x ≡ y) → IsBefore s some → more ≡ cond x (add t some) some
    → cond same (with y s some) (cond less (with x t (with y s some)) (with y s more)) ≡ cond x (add t (with y s some)) (with y s some)
some_by true less true true t s some more e l agree before h = sym (add_is true less t s some e l)
some_by true less true false t s some more e l agree before h = absurd (let no = agree refl in cc)
some_by true less false y t s some more e l agree before h = refl
some_by false true true true t s some more e l agree before h = sym (add_is false true t s some e l)
some_by false true true false t s some more e l agree before h = sym (add_first t some (further t s some (less_is (order t s) l) before))
some_by false true false y t s some more e l agree before h = refl
some_by false false true true t s some more e l agree before h = ap (λ (ts : List Text). s ∷ ts) h ∙ sym (add_is false false t s some e l)
some_by false false true false t s some more e l agree before h = h
some_by false false false y t s some more e l agree before h = ap (with y s) h

filter_cond : (same less : Bool) (p : Text → Bool) (t s : Text) (ss more : List Text) → filter p (cond same (s ∷ ss) (cond less (t ∷ (s ∷ ss)) (s ∷ more))) ≡ cond same (with (p s) s (filter p ss)) (cond less (with (p t) t (with (p s) s (filter p ss))) (with (p s) s (filter p more)))
filter_cond true less p t s ss more = refl
filter_cond false true p t s ss more = refl
filter_cond false false p t s ss more = refl

before_some : (p : Text → Bool) (s : Text) (ss : List Text) → IsBefore s ss → IsBefore s (filter p ss)
before_some p s ss h = recursion_from_All (λ t. order s t ≡ Less) (filter p ss) (All-filter p (λ t. order s t ≡ Less) ss (All-from_recursion (λ t. order s t ≡ Less) ss h))

filter-add : (p : Text → Bool) (t : Text) (ss : List Text) → IsAscending ss → filter p (add t ss) ≡ cond (p t) (add t (filter p ss)) (filter p ss)
filter-add p t [] h = refl
filter-add p t (s ∷ ss) h =
    filter_cond (bytes_eq s t) (is_lt (order t s)) p t s ss (add t ss)
    ∙ some_by (bytes_eq s t) (is_lt (order t s)) (p t) (p s) t s (filter p ss) (filter p (add t ss)) refl refl (λ e. ap p (sym ((bytes_eq-Decides s t).0 e))) (before_some p s ss h.0) (filter-add p t ss h.1)

filter_alike : (p q : Text → Bool) (ts : List Text) → ((t : Text) → holds ts t ≡ true → p t ≡ q t) → filter p ts ≡ filter q ts
filter_alike p q [] h = refl
filter_alike p q (t ∷ ts) h = ap₂ (λ (b : Bool) (ss : List Text). with b t ss) (h t (holds_first t ts)) (filter_alike p q ts (λ s k. h s (or_right (bytes_eq t s) (holds ts s) k)))

-- ---- the images that no entry keeps

ascending_with : (o : Option Text) (ts : List Text) → IsAscending ts → IsAscending (with_sought o ts)
ascending_with None ts h = h
ascending_with (Some t) ts h = ascending_add t ts h

ascending : (texts : List (Option (Bor Text))) (ws : List WantedText) → IsAscending (sought_among texts ws)
ascending texts [] = tt
ascending texts (w ∷ ws) = ascending_with (not_kept texts w) (sought_among texts ws) (ascending texts ws)

missing_by : (o : Option ℕ) (missing more : List Text) → cond (is_some o) missing more ≡ cond (is_none o) more missing
missing_by None missing more = refl
missing_by (Some i) missing more = refl

missing_with : (texts : List (Option (Bor Text))) (o : Option Text) (ts missing : List Text) → IsAscending ts → missing ≡ filter (λ t. is_none (least 0 texts t)) ts → with_missing texts o missing ≡ filter (λ t. is_none (least 0 texts t)) (with_sought o ts)
missing_with texts None ts missing h e = e
missing_with texts (Some t) ts missing h e =
    missing_by (least 0 texts t) missing (add t missing)
    ∙ ap (λ (ms : List Text). cond (is_none (least 0 texts t)) (add t ms) ms) e
    ∙ sym (filter-add (λ s. is_none (least 0 texts s)) t ts h)

missing_is : (texts : List (Option (Bor Text))) (ws : List WantedText) → missing_among texts ws ≡ filter (λ t. is_none (least 0 texts t)) (sought_among texts ws)
missing_is texts [] = refl
missing_is texts (w ∷ ws) = missing_with texts (not_kept texts w) (sought_among texts ws) (missing_among texts ws) (ascending texts ws) (missing_is texts ws)

-- in the code's words, where the list of the kept texts was lent twice
pub missing_are : (old one two : List (Option (Bor Text))) (ws : List WantedText) (sought missing : List Text) (places : Text → Option ℕ) → one ≡ old → two ≡ old → sought ≡ sought_among one ws → ((t : Text) → places t ≡ cond (holds sought t) (least 0 two t) None) → missing ≡ filter (λ t. is_none (places t)) sought
    → missing ≡ missing_among old ws
missing_are old one two ws sought missing places e f images h g =
    g
    ∙ filter_alike (λ t. is_none (places t)) (λ t. is_none (least 0 old t)) sought (λ t there. ap is_none (h t ∙ ap₂ (λ (b : Bool) (l : List (Option (Bor Text))). cond b (least 0 l t) None) there f))
    ∙ ap (filter (λ t. is_none (least 0 old t))) (images ∙ ap (λ (l : List (Option (Bor Text))). sought_among l ws) e) ∙ sym (missing_is old ws)

pub counted : (missing : List (Bor Text)) (ms : List Text) → map (λ t. t.now) missing ≡ ms → length missing ≡ length ms
counted missing ms e = sym (length-map missing (λ t. t.now)) ∙ ap length e
