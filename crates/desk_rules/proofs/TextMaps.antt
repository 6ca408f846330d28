-- Finite maps from texts, and the lists of their entries.
use Rattle.std.proofs.Common.{◌≡◌, ◌<◌, ℕ, zero, suc, Bool, true, false, cond, List, [], ◌∷◌, length, get_or, Option, Some, refl, sym, ap, subst, ◌∙◌, inl, inr, arith}
use Rattle.std.specs.Ordering.{nat_cmp, eq_by_cmp}
use Rattle.std.specs.Cmp.Lexicographic.{slice_cmp}
use Rattle.std.specs.FinMap as finite
use Rattle.std.specs.Prelude.{option_map, T}
use Rattle.std.specs.List.{find as first_of_list}
use Rattle.std.specs.Str.{bytes_eq}
use Rattle.std.specs.Ordering.{is_lt}
use Rattle.std.specs.declared.cmp.Ordering.TheVariants.{Less}
use Rattle.std.specs.FinMap.Entries.{below_all}
use Rattle.std.proofs.lemmas.Bool.{and_from}
use Rattle.std.proofs.lemmas.Map.Text.{is_eq-slice_cmp}
use Rattle.std.proofs.lemmas.Slice.Eq.{bytes_eq-Decides}
use Rattle.std.proofs.lemmas.Bool.Decides.{same_from_decides}
use Rattle.desk_packages.specs.Keys.{RiseBy}
use Rattle.std.specs.FinMap.{find, get-entries, get-from_entries, get-from_sorted, entries-from_sorted, same_map, slice_cmp-IsAntisymmetric, nat_cmp-IsAntisymmetric, is_sorted}
use Rattle.std.proofs.lemmas.Cmp.{nat_list_cmp_total}
use Rattle.std.proofs.lemmas.Map.Lookups.{exact_bytes}
use Rattle.std.proofs.lemmas.Map.Views.{tells_apart}
use Rattle.desk_base.specs.Names.{Text}
use Rattle.desk_rules.specs.Rules.{TextMap}
use Rattle.desk_packages.proofs.Picks.{In}

same_test : (q t : Text) → eq_by_cmp (slice_cmp nat_cmp) q t ≡ bytes_eq t q
same_test q t =
    is_eq-slice_cmp q t ∙ same_from_decides (bytes_eq q t) (bytes_eq t q) (bytes_eq-Decides q t) (λ h. sym ((bytes_eq-Decides t q).0 h), λ e. (bytes_eq-Decides t q).1 (sym e))

module _ {X : Type 0} where
  -- what is found at a text is an entry of it
  pub find_in : (es : List (Text × X)) (q : Text) (v : X) → find (slice_cmp nat_cmp) q es ≡ Some v → In es (q, v)
  find_in [] q v h = absurd cc
  find_in (e ∷ es) q v h =
      elim (eq_by_cmp (slice_cmp nat_cmp) q e.0) as (λ (b : Bool). eq_by_cmp (slice_cmp nat_cmp) q e.0 ≡ b → cond b (Some e.1) (find (slice_cmp nat_cmp) q es) ≡ Some v → In (e ∷ es) (q, v)) [
        | true ↦ λ p k.
            let same : e.1 ≡ v = cc in
            let key : q ≡ e.0 = tells_apart exact_bytes q e.0 p in
            inl (ap (λ (t : Text). (t, e.1)) (sym key) ∙ ap (λ (x : X). (q, x)) same)
        | false ↦ λ p k. inr (find_in es q v k)
      ] refl h

  pub map_holds : (m : TextMap X) (q : Text) (v : X) → finite.get m q ≡ Some v → In (finite.entries m) (q, v)
  map_holds m q v h = find_in (finite.entries m) q v (sym (get-entries m q) ∙ h)

  below_true : (x : Text) (es : List (Text × X)) → ((k : ℕ) (d : Text × X) → k < length es → slice_cmp nat_cmp x (get_or es k d).0 ≡ Less) → below_all (slice_cmp nat_cmp) x es ≡ true
  below_true x [] h = refl
  below_true x (e ∷ es) h = and_from _ _ (ap is_lt (h zero e (omega arith))) (below_true x es (λ k d lt. h (suc k) d (omega arith)))

  sorted_true : (es : List (Text × X)) → RiseBy (λ e. e.0) es → is_sorted (slice_cmp nat_cmp) es ≡ true
  sorted_true [] rise = refl
  sorted_true (e ∷ es) rise =
      and_from _ _ (below_true e.0 es (λ k d lt. rise zero (suc k) d (omega arith) (omega arith))) (sorted_true es (λ i j d lt within. rise (suc i) (suc j) d (omega arith) (omega arith)))

  -- entries whose texts rise are those of their map
  pub entries_rising : (es : List (Text × X)) → RiseBy (λ e. e.0) es → finite.entries (finite.from_entries {R = slice_cmp nat_cmp} es) ≡ es
  entries_rising es rise =
      let sorted : T (is_sorted (slice_cmp nat_cmp) es) = subst T (sym (sorted_true es rise)) tt in
      let one : finite.from_entries {R = slice_cmp nat_cmp} es ≡ finite.from_sorted es =
      same_map nat_list_cmp_total (slice_cmp-IsAntisymmetric nat_cmp-IsAntisymmetric) _ _ (λ q. get-from_entries nat_list_cmp_total es q ∙ sym (get-from_sorted (slice_cmp nat_cmp) es q sorted)) in
      ap finite.entries one ∙ entries-from_sorted (slice_cmp nat_cmp) es sorted

  find_entry : (es : List (Text × X)) (q : Text) → find (slice_cmp nat_cmp) q es ≡ option_map (λ e. e.1) (first_of_list (λ e. bytes_eq e.0 q) es)
  find_entry [] q = refl
  find_entry (e ∷ es) q =
      ap (λ (b : Bool). cond b (Some e.1) (find (slice_cmp nat_cmp) q es)) (same_test q e.0)
      ∙ elim (bytes_eq e.0 q) as (λ (b : Bool). cond b (Some e.1) (find (slice_cmp nat_cmp) q es) ≡ option_map (λ (e : Text × X). e.1) (cond b (Some e) (first_of_list (λ (e : Text × X). bytes_eq e.0 q) es))) [
        | true ↦ refl
        | false ↦ find_entry es q
      ]

  -- what a map of entries has at a text, by the entry that is found
  pub found_value : (es : List (Text × X)) (q : Text) (o : Option (Text × X)) → o ≡ first_of_list (λ e. bytes_eq e.0 q) es → finite.get (finite.from_entries {R = slice_cmp nat_cmp} es) q ≡ option_map (λ e. e.1) o
  found_value es q o h = get-from_entries nat_list_cmp_total es q ∙ find_entry es q ∙ ap (option_map (λ (e : Text × X). e.1)) (sym h)
