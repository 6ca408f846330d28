-- Entries that were sorted by their keys are the entries of their map, in order.
use Rattle.std.proofs.Common.{◌≡◌, ◌<◌, ◌+◌, ℕ, zero, suc, Bool, true, false, cond, List, [], ◌∷◌, length, map, get_or, Option, Some, refl, sym, ap, ◌∙◌, arith}
use Rattle.std.specs.declared.cmp.Ordering.{Ordering}
use Rattle.std.specs.declared.cmp.Ordering.TheVariants.{Less, Equal, Greater}
use Rattle.std.specs.Ordering.{nat_cmp, is_lt, is_eq, ordering_reverse}
use Rattle.std.specs.Cmp.Lexicographic.{slice_cmp}
use Rattle.std.specs.Str.{bytes_eq}
use Rattle.std.specs.List.{IsDistinct}
use Rattle.std.specs.List.Sorted.{IsSorted, IsStrictlySortedBy}
use Rattle.std.specs.Map.{lookup, keys_of}
use Rattle.std.specs.FinMap as finite
use Rattle.std.specs.FinMap.{find, get-from_entries, same_map, slice_cmp-IsAntisymmetric, nat_cmp-IsAntisymmetric}
use Rattle.std.proofs.lemmas.Bool.{both_ways, and_parts}
use Rattle.std.proofs.lemmas.Cmp.{nat_list_cmp_total}
use Rattle.std.proofs.Math.ListN.{get_or-map}
use Rattle.std.proofs.lemmas.List.{length-map, get_or-map as get_or_map_at}
use Rattle.std.specs.Prelude.{T}
use Rattle.std.specs.FinMap.{is_sorted, entries_sorted}
use Rattle.std.specs.FinMap.Entries.{below_all}
use Rattle.std.proofs.lemmas.Map.Keys.{apart_from_distinct, sorted_from_all_adjacent, Less-from_sorted}
use Rattle.std.proofs.lemmas.Map.Text.{is_eq-slice_cmp}
use Rattle.desk_base.specs.Names.{Text}
use Rattle.desk_base.proofs.Orderings.{less_is}
use Rattle.desk_properties.specs.Properties.{Entry}
use Rattle.desk_packages.specs.Keys.{RiseBy}
use Rattle.desk_rules.specs.RuleFiles.{in_order}
use Rattle.desk_rules.proofs.TextMaps.{entries_rising}

-- two texts that differ, of which the second is not less, rise
less_of : (a b : Text) → is_lt (slice_cmp nat_cmp b a) ≡ false → bytes_eq a b ≡ false → slice_cmp nat_cmp a b ≡ Less
less_of a b not_less apart =
    elim (slice_cmp nat_cmp a b) as (λ (o : Ordering). slice_cmp nat_cmp a b ≡ o → slice_cmp nat_cmp a b ≡ Less) [
      | Less ↦ λ e. e
      | Equal ↦ λ e. absurd (both_ways (bytes_eq a b) apart (sym (is_eq-slice_cmp a b) ∙ ap is_eq e))
      | Greater ↦ λ e. absurd (both_ways (is_lt (slice_cmp nat_cmp b a)) not_less (ap is_lt (nat_list_cmp_total.antisymm b a ∙ ap ordering_reverse e)))
    ] refl

-- distinct texts that are sorted rise
pub keys_rise : (ks : List Text) → IsSorted (slice_cmp nat_cmp) ks → IsDistinct bytes_eq ks → IsStrictlySortedBy (slice_cmp nat_cmp) ks
keys_rise ks sorted apart = sorted_from_all_adjacent nat_list_cmp_total ks [] (λ k within.
    less_of (get_or ks k []) (get_or ks (k + 1) []) (sorted k [] (omega arith) within) (apart_from_distinct bytes_eq ks k (k + 1) [] apart (omega arith) within))

key_at : (es : List Entry) (i : ℕ) (d : Entry) → get_or (keys_of es) i d.0 ≡ (get_or es i d).0
key_at es i d = get_or-map (λ (e : Entry). e.0) es i d

pub entries_rise : (es : List Entry) → IsSorted (slice_cmp nat_cmp) (keys_of es) → IsDistinct bytes_eq (keys_of es) → RiseBy (λ e. e.0) es
entries_rise es sorted apart i j d lt within =
    let below : j < length (keys_of es) = omega (arith, length-map es (λ (e : Entry). e.0)) in
    let less : slice_cmp nat_cmp (get_or (keys_of es) i d.0) (get_or (keys_of es) j d.0) ≡ Less = Less-from_sorted (slice_cmp nat_cmp) (keys_of es) i j d.0 (keys_rise (keys_of es) sorted apart) lt below in
    rw (key_at es i d, key_at es j d) at less

pub found_is : (es : List Entry) (q : Text) → find (slice_cmp nat_cmp) q es ≡ lookup (bytes_eq q) es
found_is [] q = refl
found_is (e ∷ es) q =
    ap (λ (b : Bool). cond b (Some e.1) (find (slice_cmp nat_cmp) q es)) (is_eq-slice_cmp q e.0)
    ∙ ap (λ (o : Option Text). cond (bytes_eq q e.0) (Some e.1) o) (found_is es q)

pub sorted_is : (old new : List Entry) → IsSorted (slice_cmp nat_cmp) (keys_of new) → IsDistinct bytes_eq (keys_of new) → ((q : Text) → lookup (bytes_eq q) new ≡ lookup (bytes_eq q) old) → new ≡ in_order old
sorted_is old new sorted apart gets =
    let maps : finite.from_entries {R = slice_cmp nat_cmp} new ≡ finite.from_entries old =
    same_map nat_list_cmp_total (slice_cmp-IsAntisymmetric nat_cmp-IsAntisymmetric) _ _ (λ q.
    get-from_entries nat_list_cmp_total new q ∙ found_is new q ∙ gets q ∙ sym (found_is old q) ∙ sym (get-from_entries nat_list_cmp_total old q)) in
    sym (entries_rising new (entries_rise new sorted apart)) ∙ ap finite.entries maps

below_at : (x : Text) (es : List Entry) → below_all (slice_cmp nat_cmp) x es ≡ true → (k : ℕ) (d : Entry) → k < length es → slice_cmp nat_cmp x (get_or es k d).0 ≡ Less
below_at x [] h k d within = absurd (omega arith)
below_at x (e ∷ es) h zero d within = less_is _ (and_parts _ _ h).0
below_at x (e ∷ es) h (suc k) d within = below_at x es (and_parts _ _ h).1 k d (omega arith)

rise_sorted : (es : List Entry) → is_sorted (slice_cmp nat_cmp) es ≡ true → RiseBy (λ e. e.0) es
rise_sorted [] h i j d lt within = absurd (omega arith)
rise_sorted (e ∷ es) h i zero d lt within = absurd (omega arith)
rise_sorted (e ∷ es) h zero (suc j) d lt within = below_at e.0 es (and_parts _ _ h).0 j d (omega arith)
rise_sorted (e ∷ es) h (suc i) (suc j) d lt within = rise_sorted es (and_parts _ _ h).1 i j d (omega arith) (omega arith)

tested : (b : Bool) → T b → b ≡ true
tested true h = refl
tested false h = absurd h

-- entries in order rise by their keys
pub order_rises : (es : List Entry) → RiseBy (λ e. e.0) (in_order es)
order_rises es = rise_sorted (in_order es) (tested (is_sorted (slice_cmp nat_cmp) (in_order es)) (entries_sorted (finite.from_entries {R = slice_cmp nat_cmp} es)))

-- what has the keys of rising entries rises by them
pub rise_of_keys : {A : Type 0} (f : A → Text) (xs : List A) (es : List Entry) → map f xs ≡ map (λ e. e.0) es → RiseBy (λ e. e.0) es → RiseBy f xs
rise_of_keys f xs es same rise i j d lt within =
    let size : length xs ≡ length es = sym (length-map xs f) ∙ ap length same ∙ length-map es (λ (e : Entry). e.0) in
    let at : (k : ℕ) → k < length xs → f (get_or xs k d) ≡ (get_or es k ([], [])).0 =
    λ k inside. sym (get_or-map f xs k d) ∙ ap (λ (ks : List Text). get_or ks k (f d)) same ∙ get_or_map_at (λ (e : Entry). e.0) es k ([], []) (f d) (omega arith) in
    rw (at i (omega arith), at j within) (rise i j ([], []) lt (omega arith))
