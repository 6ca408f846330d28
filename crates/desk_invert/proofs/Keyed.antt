-- Renames as a map by their keys.
use Rattle.std.proofs.Common.{◌≡◌, ◌<◌, ℕ, zero, suc, Bool, true, false, cond, List, [], ◌∷◌, map, length, get_or, Option, Some, None, refl, sym, ap, subst, ◌∙◌, inl, inr, arith}
use Rattle.std.specs.Prelude.{T}
use Rattle.std.specs.FinMap as finite
use Rattle.std.specs.FinMap.{find, is_sorted, get-entries, get-from_entries, same_map, entries_sorted, slice_cmp-IsAntisymmetric, nat_cmp-IsAntisymmetric}
use Rattle.std.specs.FinMap.Entries.{below_all}
use Rattle.std.specs.Cmp.Lexicographic.{slice_cmp}
use Rattle.std.specs.declared.cmp.Ordering.{Ordering}
use Rattle.std.specs.declared.cmp.Ordering.TheVariants.{Less, Equal, Greater}
use Rattle.std.specs.Ordering.{nat_cmp, is_lt, eq_by_cmp}
use Rattle.std.proofs.lemmas.Bool.{and_parts}
use Rattle.std.proofs.lemmas.Cmp.{nat_list_cmp_total}
use Rattle.std.proofs.lemmas.List.{length-map, get_or-map}
use Rattle.std.proofs.lemmas.Map.Text.{is_eq-slice_cmp}
use Rattle.std.proofs.lemmas.Slice.Eq.{bytes_eq-Decides}
use Rattle.desk_base.specs.Names.{Text}
use Rattle.desk_packages.specs.Renames.{Renaming, key_of}
use Rattle.desk_packages.specs.Keys.{RiseBy}
use Rattle.desk_packages.proofs.Picks.{In}
use Rattle.desk_packages.proofs.Searched.{one_key, at_in}
use Rattle.desk_rules.proofs.TextMaps.{find_in, map_holds, entries_rising}
use Rattle.desk_invert.specs.Inverse.{keyed, by_key}
use Rattle.desk_invert.proofs.Inverses.{in_map, from_map}

less_is : (o : Ordering) → is_lt o ≡ true → o ≡ Less
less_is Less h = refl
less_is Equal h = absurd cc
less_is Greater h = absurd cc

-- ---- entries

module _ {X : Type 0} where
  -- what isn't found isn't there
  not_there : (es : List (Text × X)) (q : Text) (v : X) → find (slice_cmp nat_cmp) q es ≡ None → In es (q, v) → ⊥
  not_there [] q v none is = is
  not_there (e ∷ es) q v none (inl same) =
      let key : q ≡ e.0 = ap (λ (x : Text × X). x.0) (sym same) in
      let hit : eq_by_cmp (slice_cmp nat_cmp) q e.0 ≡ true = is_eq-slice_cmp q e.0 ∙ (bytes_eq-Decides q e.0).1 key in
      let found : Some e.1 ≡ None = sym (ap (λ (b : Bool). cond b (Some e.1) (find (slice_cmp nat_cmp) q es)) hit) ∙ none in
      absurd (cc found)
  not_there (e ∷ es) q v none (inr later) =
      elim (eq_by_cmp (slice_cmp nat_cmp) q e.0) as (λ (b : Bool). cond b (Some e.1) (find (slice_cmp nat_cmp) q es) ≡ None → ⊥) [
        | true ↦ λ h. absurd cc
        | false ↦ λ h. not_there es q v h later
      ] none

  -- what is there under a key that stands once is found
  found_there : (es : List (Text × X)) → RiseBy (λ (e : Text × X). e.0) es → (q : Text) (v : X) → In es (q, v) → find (slice_cmp nat_cmp) q es ≡ Some v
  found_there es rise q v is =
      elim (find (slice_cmp nat_cmp) q es) as (λ (o : Option X). find (slice_cmp nat_cmp) q es ≡ o → o ≡ Some v) [
        | None ↦ λ e. absurd (not_there es q v e is)
        | Some w ↦ λ e.
            let one : (q, w) ≡ (q, v) = one_key (λ (e : Text × X). e.0) es rise (q, w) (q, v) (find_in es q w e) is refl in
            ap (λ (x : Text × X). Some x.1) one
      ] refl

  -- entries of which the second rise, and that hold the same, are found alike
  same_finds : (es fs : List (Text × X)) → RiseBy (λ (e : Text × X). e.0) fs → ((q : Text) (v : X) → In es (q, v) → In fs (q, v)) → ((q : Text) (v : X) → In fs (q, v) → In es (q, v)) → (q : Text) → find (slice_cmp nat_cmp) q es ≡ find (slice_cmp nat_cmp) q fs
  same_finds es fs rise there back q =
      elim (find (slice_cmp nat_cmp) q es) as (λ (o : Option X). find (slice_cmp nat_cmp) q es ≡ o → o ≡ find (slice_cmp nat_cmp) q fs) [
        | Some v ↦ λ e. sym (found_there fs rise q v (there q v (find_in es q v e)))
        | None ↦ λ e. elim (find (slice_cmp nat_cmp) q fs) as (λ (o : Option X). find (slice_cmp nat_cmp) q fs ≡ o → None ≡ o) [
          | None ↦ λ f. refl
          | Some w ↦ λ f. absurd (not_there es q w e (back q w (find_in fs q w f)))
        ] refl
      ] refl

  entries_are : (es fs : List (Text × X)) → RiseBy (λ (e : Text × X). e.0) fs → ((q : Text) (v : X) → In es (q, v) → In fs (q, v)) → ((q : Text) (v : X) → In fs (q, v) → In es (q, v)) → finite.entries (finite.from_entries {R = slice_cmp nat_cmp} es) ≡ fs
  entries_are es fs rise there back =
      ap finite.entries (same_map nat_list_cmp_total (slice_cmp-IsAntisymmetric nat_cmp-IsAntisymmetric) _ _ (λ q. get-from_entries nat_list_cmp_total es q ∙ same_finds es fs rise there back q ∙ sym (get-from_entries nat_list_cmp_total fs q)))
      ∙ entries_rising fs rise

  -- entries of a map rise
  below_at : (x : Text) (es : List (Text × X)) → below_all (slice_cmp nat_cmp) x es ≡ true → (k : ℕ) (d : Text × X) → k < length es → slice_cmp nat_cmp x (get_or es k d).0 ≡ Less
  below_at x [] h k d within = absurd (omega arith)
  below_at x (e ∷ es) h zero d within = less_is (slice_cmp nat_cmp x e.0) (and_parts _ _ h).0
  below_at x (e ∷ es) h (suc k) d within = below_at x es (and_parts _ _ h).1 k d (omega arith)

  sorted_rise : (es : List (Text × X)) → is_sorted (slice_cmp nat_cmp) es ≡ true → RiseBy (λ (e : Text × X). e.0) es
  sorted_rise [] h i j d lt within = absurd (omega arith)
  sorted_rise (e ∷ es) h i zero d lt within = absurd (omega arith)
  sorted_rise (e ∷ es) h zero (suc j) d lt within = below_at e.0 es (and_parts _ _ h).0 j d (omega arith)
  sorted_rise (e ∷ es) h (suc i) (suc j) d lt within = sorted_rise es (and_parts _ _ h).1 i j d (omega arith) (omega arith)

true_from : (b : Bool) → T b → b ≡ true
true_from true h = refl
true_from false h = absurd h

-- ---- renames by their keys

second_keyed : (rs : List Renaming) → map (λ (e : Text × Renaming). e.1) (map keyed rs) ≡ rs
second_keyed [] = refl
second_keyed (r ∷ rs) = ap (λ (xs : List Renaming). r ∷ xs) (second_keyed rs)

keyed_rise : (rs : List Renaming) → RiseBy key_of rs → RiseBy (λ (e : Text × Renaming). e.0) (map keyed rs)
keyed_rise rs rise i j d lt within =
    let none : Renaming = record { source = []; target = []; below = false } in
    let size : length (map keyed rs) ≡ length rs = length-map rs keyed in
    let at : (k : ℕ) → k < length rs → (get_or (map keyed rs) k d).0 ≡ key_of (get_or rs k none) = λ k inside. ap (λ (e : Text × Renaming). e.0) (get_or-map keyed rs k none d inside) in
    rw (at i (omega arith), at j (omega arith)) (rise i j none lt (omega arith))

keyed_in : (xs ys : List Renaming) → ((x : Renaming) → In xs x → In ys x) → (q : Text) (v : Renaming) → In (map keyed xs) (q, v) → In (map keyed ys) (q, v)
keyed_in xs ys there q v is =
    let f = from_map keyed xs (q, v) is in
    subst (In (map keyed ys)) f.is (in_map keyed ys f.x (there f.x f.there))

-- renames that hold what a table holds are the table
pub by_key_is : (xs rs : List Renaming) → RiseBy key_of rs → ((x : Renaming) → In xs x → In rs x) → ((x : Renaming) → In rs x → In xs x) → by_key xs ≡ rs
by_key_is xs rs rise there back =
    ap (map (λ (e : Text × Renaming). e.1)) (entries_are (map keyed xs) (map keyed rs) (keyed_rise rs rise) (keyed_in xs rs there) (keyed_in rs xs back))
    ∙ second_keyed rs

module _ (xs : List Renaming) where
  abbrev es : List (Text × Renaming)
  es = finite.entries (finite.from_entries {R = slice_cmp nat_cmp} (map keyed xs))

  entries_in : (q : Text) (v : Renaming) → In es (q, v) → In (map keyed xs) (q, v)
  entries_in q v is =
      find_in (map keyed xs) q v
      (sym (get-from_entries nat_list_cmp_total (map keyed xs) q) ∙ get-entries (finite.from_entries {R = slice_cmp nat_cmp} (map keyed xs)) q ∙ found_there es (sorted_rise es (true_from (is_sorted (slice_cmp nat_cmp) es) (entries_sorted (finite.from_entries {R = slice_cmp nat_cmp} (map keyed xs))))) q v is)

  -- an entry is a rename with its key
  entry_is : (e : Text × Renaming) → In es e → (e.0 ≡ key_of e.1) × In xs e.1
  entry_is e is =
      let f = from_map keyed xs (e.0, e.1) (entries_in e.0 e.1 is) in
      (sym (ap (λ (x : Text × Renaming). x.0) f.is) ∙ ap (λ (x : Text × Renaming). key_of x.1) f.is, subst (In xs) (ap (λ (x : Text × Renaming). x.1) f.is) f.there)

  pub by_key_in : (v : Renaming) → In (by_key xs) v → In xs v
  by_key_in v is = let f = from_map (λ (e : Text × Renaming). e.1) es v is in subst (In xs) f.is (entry_is f.x f.there).1

  pub by_key_rises : RiseBy key_of (by_key xs)
  by_key_rises i j d lt within =
      let second : Text × Renaming → Renaming = λ e. e.1 in
      let size : length (by_key xs) ≡ length es = length-map es second in
      let rise = sorted_rise es (true_from (is_sorted (slice_cmp nat_cmp) es) (entries_sorted (finite.from_entries {R = slice_cmp nat_cmp} (map keyed xs)))) in
      let at : (k : ℕ) → k < length es → key_of (get_or (map (λ (e : Text × Renaming). e.1) es) k d) ≡ (get_or es k (keyed d)).0 =
      λ k inside. ap key_of (get_or-map second es k (keyed d) d inside) ∙ sym (entry_is (get_or es k (keyed d)) (at_in es k (keyed d) inside)).0 in
      rw (at i (omega arith), at j (omega arith)) (rise i j (keyed d) lt (omega arith))

  -- renames of which each key stands once are all there
  pub by_key_all : ((x y : Renaming) → In xs x → In xs y → key_of x ≡ key_of y → x ≡ y) → (x : Renaming) → In xs x → In (by_key xs) x
  by_key_all one x is =
      elim (find (slice_cmp nat_cmp) (key_of x) (map keyed xs)) as (λ (o : Option Renaming). find (slice_cmp nat_cmp) (key_of x) (map keyed xs) ≡ o → In (by_key xs) x) [
        | None ↦ λ e. absurd (not_there (map keyed xs) (key_of x) x e (in_map keyed xs x is))
        | Some w ↦ λ e.
            let f = from_map keyed xs (key_of x, w) (find_in (map keyed xs) (key_of x) w e) in
            let there : In xs w = subst (In xs) (ap (λ (p : Text × Renaming). p.1) f.is) f.there in
            let keys : key_of w ≡ key_of x = sym (ap (λ (p : Text × Renaming). key_of p.1) f.is) ∙ ap (λ (p : Text × Renaming). p.0) f.is in
            let same : w ≡ x = one w x there is keys in
            let held : In es (key_of x, w) = map_holds (finite.from_entries {R = slice_cmp nat_cmp} (map keyed xs)) (key_of x) w (get-from_entries nat_list_cmp_total (map keyed xs) (key_of x) ∙ e) in
            subst (In (by_key xs)) same (in_map (λ (p : Text × Renaming). p.1) es (key_of x, w) held)
      ] refl
