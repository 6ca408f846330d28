-- The last below rename along a path is the longest that fits.
use Rattle.std.proofs.Common.{◌≡◌, ◌<◌, ◌≤◌, ◌+◌, ℕ, true, false, ◌&&◌, List, [], length, take, Option, Some, None, MatchOption, refl, sym, ap, subst, ◌∙◌, inl, inr, arith}
use Rattle.std.proofs.lemmas.Bool.{and_parts, and_from, both_ways, cases_lt}
use Rattle.desk_base.specs.Names.{Text, segments, written}
use Rattle.desk_packages.specs.declared.picking.Sought.{Sought}
use Rattle.desk_packages.specs.declared.picking.Sought.TheVariants.{All, Changing}
use Rattle.desk_packages.specs.Renames.{Renaming, changes, longest}
use Rattle.desk_packages.specs.Keys.{is_separator, IsTable, EndsBelow, NoneEnds, IsChanging, IsNoneBeyond}
use Rattle.desk_packages.specs.Sought.{is_sought, IsLastBelow, NoneBelow}
use Rattle.desk_packages.proofs.Picks.{In, fits_below}
use Rattle.desk_packages.proofs.Lookup.{fitting, longest_at, longest_nothing, one_source, one_of, contained}
use Rattle.desk_packages.proofs.Along.{IsLeftAt, ends_left, left_ends, none_later}
use Rattle.desk_packages.proofs.Changed.{changing_at}

-- what is found before a limit
abbrev pub IsFoundBefore : {R : Type 0} → (R → Renaming) → List Renaming → ℕ → Text → Sought → ℕ → Option R → Type 0
IsFoundBefore value rs s path sought limit found = MatchOption found (NoneBelow rs s path sought limit) (λ r. IsLastBelow rs s path sought limit (value r))

module _ (rs : List Renaming) (table : IsTable rs) (s : ℕ) (h : is_separator s ≡ true) (path : Text) (sought : Sought) where
  pub found_first : NoneBelow rs s path sought 0
  found_first = record { none = λ n x before at meets. absurd (omega arith) }

  -- what ends at the last place is found
  pub found_here : (n : ℕ) (r : Renaming) → EndsBelow rs s path n r → is_sought sought r ≡ true → IsLastBelow rs s path sought (n + 1) r
  found_here n r at meets = record { place = n; before = omega arith; here = at; meets = meets; last = λ m x behind before other met. absurd (omega arith) }

  -- where none that is looked for ends from a place up to a limit, what was found before stays
  pub found_stays : {R : Type 0} (value : R → Renaming) (n limit : ℕ) (found : Option R) → n ≤ limit → ((m : ℕ) (x : Renaming) → n ≤ m → m < limit → EndsBelow rs s path m x → is_sought sought x ≡ true → ⊥) → IsFoundBefore value rs s path sought n found → IsFoundBefore value rs s path sought limit found
  found_stays value n limit None le none known = record {
    none = λ m x before at meets. elim (cases_lt m n) [ inl lt ↦ known.none m x lt at meets | inr ge ↦ none m x ge before at meets ];
  }
  found_stays value n limit (Some r) le none known = record {
    place = known.place;
    before = omega (arith, known.before);
    here = known.here;
    meets = known.meets;
    last = λ m x behind before at meets. elim (cases_lt m n) [ inl lt ↦ known.last m x behind lt at meets | inr ge ↦ none m x ge before at meets ];
  }

  -- the one that ends at a place isn't looked for: no other is
  pub other_stays : (n : ℕ) (r : Renaming) → EndsBelow rs s path n r → is_sought sought r ≡ false → (m : ℕ) (x : Renaming) → n ≤ m → m < n + 1 → EndsBelow rs s path m x → is_sought sought x ≡ true → ⊥
  other_stays n r at unmet m x from before at_x met =
      let here : m ≡ n = omega arith in
      let same : x ≡ r = one_source rs table s h path x r (one_of rs x at_x.there) (one_of rs r at.there) true at_x.below at.below (at_x.spelled ∙ ap (λ (k : ℕ). take k path) here ∙ sym at.spelled) in
      both_ways (is_sought sought x) (ap (is_sought sought) same ∙ unmet) met

  pub none_stays : (n : ℕ) → NoneEnds rs s path n → (m : ℕ) (x : Renaming) → n ≤ m → m < n + 1 → EndsBelow rs s path m x → is_sought sought x ≡ true → ⊥
  none_stays n none m x from before at met =
      let here : m ≡ n = omega arith in none x (subst (λ (k : ℕ). EndsBelow rs s path k x) here at)

  -- one place more
  pub step_here : (n : ℕ) (rest : List Renaming) → IsLeftAt rs s path n rest → (r : Renaming) → EndsBelow rest s path n r → is_sought sought r ≡ true → IsLastBelow rs s path sought (n + 1) r
  step_here n rest known r at meets = found_here n r (left_ends rs table s h path n rest known r at) meets

  pub step_other : {R : Type 0} (value : R → Renaming) (n : ℕ) (rest : List Renaming) (found : Option R) → IsLeftAt rs s path n rest → (r : Renaming) → EndsBelow rest s path n r → is_sought sought r ≡ false → IsFoundBefore value rs s path sought n found → IsFoundBefore value rs s path sought (n + 1) found
  step_other value n rest found known r at unmet before = found_stays value n (n + 1) found (omega arith) (other_stays n r (left_ends rs table s h path n rest known r at) unmet) before

  pub step_none : {R : Type 0} (value : R → Renaming) (n : ℕ) (rest : List Renaming) (found : Option R) → IsLeftAt rs s path n rest → NoneEnds rest s path n → IsFoundBefore value rs s path sought n found → IsFoundBefore value rs s path sought (n + 1) found
  step_none value n rest found known none before = found_stays value n (n + 1) found (omega arith) (none_stays n (λ x at. none x (ends_left rs table s h path n rest known x at))) before

  -- where none of the renames is left
  pub step_empty : {R : Type 0} (value : R → Renaming) (n : ℕ) (rest : List Renaming) (found : Option R) → IsLeftAt rs s path n rest → rest ≡ [] → n ≤ length path + 1 → IsFoundBefore value rs s path sought n found → IsFoundBefore value rs s path sought (length path + 1) found
  step_empty value n rest found known none within before = found_stays value n (length path + 1) found within (λ m x le lt at met. none_later rs table s h path n rest known none m le x at) before

module _ (rs : List Renaming) (table : IsTable rs) (s : ℕ) (h : is_separator s ≡ true) (path : Text) where
  -- a below rename that fits ends at a place of the path
  ends_within : (x : Renaming) → In rs x → fits_below (segments s path) x ≡ true → EndsBelow rs s path (length (written s x.source)) x
  ends_within x is fits =
      let prefix = fitting rs table s h path x is fits in
      record { there = contained rs x is; below = (and_parts _ _ fits).0; spelled = sym prefix.is; ends = prefix.ends }

  within_path : (x : Renaming) → In rs x → fits_below (segments s path) x ≡ true → length (written s x.source) < length path + 1
  within_path x is fits = let le = (fitting rs table s h path x is fits).within in omega (arith, le)

  pub last_longest : (r : Renaming) → IsLastBelow rs s path All (length path + 1) r → longest rs (segments s path) ≡ Some r
  last_longest r found =
      longest_at rs table s h path found.place (omega (arith, found.before)) record {
        shorter = λ x is fits. elim (cases_lt found.place (length (written s x.source))) [
          | inl behind ↦ absurd (found.last (length (written s x.source)) x behind (within_path x is fits) (ends_within x is fits) refl)
          | inr le ↦ le
        ];
      } r found.here

  pub none_longest : NoneBelow rs s path All (length path + 1) → longest rs (segments s path) ≡ None
  none_longest none = longest_nothing rs (segments s path) (λ x is fits. none.none (length (written s x.source)) x (within_path x is fits) (ends_within x is fits) refl)

  pub none_changing : NoneBelow rs s path Changing (length path + 1) → IsNoneBeyond rs s path 0
  none_changing none = record {
    shorter = λ x there k.
        let two = and_parts (changes x && x.below) _ k in
        let one = and_parts _ _ two.0 in
        let fits : fits_below (segments s path) x ≡ true = and_from _ _ one.1 two.1 in
        absurd (none.none (length (written s x.source)) x (within_path x (one_of rs x there) fits) (ends_within x (one_of rs x there) fits) one.0);
  }

  pub last_changing : (r : Renaming) → IsLastBelow rs s path Changing (length path + 1) r → IsChanging rs (segments s path) r
  last_changing r found = changing_at rs table s h path found.place (omega (arith, found.before)) r found.here found.meets

  -- so what is found is the longest, or one that changes
  pub longest_by : {R : Type 0} (value : R → Renaming) (found : Option R) → IsFoundBefore value rs s path All (length path + 1) found → MatchOption found (longest rs (segments s path) ≡ None) (λ r. longest rs (segments s path) ≡ Some (value r))
  longest_by value None none = none_longest none
  longest_by value (Some r) known = last_longest (value r) known

  pub changing_by : {R : Type 0} (value : R → Renaming) (found : Option R) → IsFoundBefore value rs s path Changing (length path + 1) found → MatchOption found (IsNoneBeyond rs s path 0) (λ r. IsChanging rs (segments s path) (value r))
  changing_by value None none = none_changing none
  changing_by value (Some r) known = last_changing (value r) known
