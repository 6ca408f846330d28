-- How a rename is found by the key that a path would have.
use Rattle.std.proofs.Common.{◌≡◌, ◌<◌, ◌≤◌, ◌+◌, ℕ, Bool, true, false, List, [], ◌∷◌, ◌++◌, length, map, drop, get_or, refl, sym, ap, subst, ◌∙◌, arith}
use Rattle.std.specs.declared.cmp.Ordering.{Ordering}
use Rattle.std.specs.declared.cmp.Ordering.TheVariants.{Less, Equal, Greater}
use Rattle.std.specs.Ordering.{nat_cmp}
use Rattle.std.specs.Cmp.Lexicographic.{slice_cmp}
use Rattle.std.specs.FinMap.{slice_cmp-IsAntisymmetric, nat_cmp-IsAntisymmetric}
use Rattle.std.specs.Str.{bytes_eq}
use Rattle.std.specs.List.{list_all}
use Rattle.std.proofs.lemmas.Bool.{and_parts, and_from, both_ways, not-true}
use Rattle.std.proofs.lemmas.Slice.Eq.{bytes_eq-Decides}
use Rattle.std.proofs.lemmas.List.{drop_more, drop_all}
use Rattle.desk_base.specs.Names.{Text, written, is_identifier}
use Rattle.desk_packages.specs.Renames.{Renaming, key_of, is_rename}
use Rattle.desk_packages.specs.Keys.{is_separator, byte_of, spelled, wanted, is_of_kind, IsTable, IsSource, NoSource}
use Rattle.desk_packages.specs.declared.Separator.{Separator}
use Rattle.desk_packages.specs.declared.Separator.TheVariants.{Dot, Slash}
use Rattle.desk_packages.proofs.Picks.{In, find_None, all_In}
use Rattle.desk_packages.proofs.KeyLaws.{key_path, path_key}
use Rattle.desk_packages.proofs.Searched.{Narrowed, ruled_out, one_key, at_in}
use Rattle.desk_packages.proofs.Lookup.{one_of, contained}

-- the byte of a separator is one
pub separates : (s : Separator) → is_separator (byte_of s) ≡ true
separates Dot = refl
separates Slash = refl

kind_is : (b : Bool) (r : Renaming) → is_of_kind b r ≡ true → r.below ≡ b
kind_is true r h = h
kind_is false r h = not-true r.below h

module _ (rs : List Renaming) (table : IsTable rs) (s : Separator) (path : Text) (below : Bool) where
  formed : (r : Renaming) → In rs r → list_all is_identifier r.source ≡ true
  formed r is = (and_parts _ _ (and_parts _ _ (all_In is_rename rs r table.formed is)).0).1

  -- a rename of this kind with this source has the key that is wanted
  key_wanted : (r : Renaming) → IsSource rs (byte_of s) path below r → key_of r ≡ wanted (byte_of s) path below
  key_wanted r found =
      let parts = and_parts _ _ found.is in
      let is : In rs r = one_of rs r found.there in
      path_key (byte_of s) (separates s) r (formed r is) path ((bytes_eq-Decides (written (byte_of s) r.source) path).0 parts.1)
      ∙ ap (wanted (byte_of s) path) (kind_is below r parts.0)

  there_at : (i : ℕ) (r : Renaming) → i < length rs → r ≡ get_or rs i r → In rs r
  there_at i r within is = subst (λ (x : Renaming). In rs x) (sym is) (at_in rs i r within)

  -- a rename with the key that is wanted, and of this kind, is found
  pub source_found : (i : ℕ) (r : Renaming) → i < length rs → r ≡ get_or rs i r → slice_cmp nat_cmp (key_of r) (wanted (byte_of s) path below) ≡ Equal → is_of_kind below r ≡ true → IsSource rs (byte_of s) path below r
  source_found i r within is tied kind =
      let there : In rs r = there_at i r within is in
      let same : key_of r ≡ wanted (byte_of s) path below = slice_cmp-IsAntisymmetric nat_cmp-IsAntisymmetric (key_of r) (wanted (byte_of s) path below) tied in
      let text : written (byte_of s) r.source ≡ path = key_path (byte_of s) (separates s) r (formed r there) path (same ∙ ap (wanted (byte_of s) path) (sym (kind_is below r kind))) in
      record { there = contained rs r there; is = and_from _ _ kind ((bytes_eq-Decides (written (byte_of s) r.source) path).1 text) }

  -- where the one with this key is of the other kind, there is none
  pub source_of_other : (i : ℕ) (r : Renaming) → i < length rs → r ≡ get_or rs i r → slice_cmp nat_cmp (key_of r) (wanted (byte_of s) path below) ≡ Equal → is_of_kind below r ≡ false → NoSource rs (byte_of s) path below
  source_of_other i r within is tied kind x found =
      let same : key_of r ≡ wanted (byte_of s) path below = slice_cmp-IsAntisymmetric nat_cmp-IsAntisymmetric (key_of r) (wanted (byte_of s) path below) tied in
      let one : r ≡ x = one_key key_of rs table.rising r x (there_at i r within is) (one_of rs x found.there) (same ∙ sym (key_wanted x found)) in
      both_ways (is_of_kind below r) kind (rw one (and_parts _ _ found.is).0)

  -- where all keys are ruled out, there is none
  pub source_ruled_out : (low high : ℕ) → Narrowed key_of rs (wanted (byte_of s) path below) low high → high ≤ low → NoSource rs (byte_of s) path below
  source_ruled_out low high narrowed done x found =
      both_ways (bytes_eq (key_of x) (wanted (byte_of s) path below))
      (find_None (λ (r : Renaming). bytes_eq (key_of r) (wanted (byte_of s) path below)) rs x (ruled_out key_of rs table.rising (wanted (byte_of s) path below) low high narrowed done) (one_of rs x found.there))
      ((bytes_eq-Decides (key_of x) (wanted (byte_of s) path below)).1 (key_wanted x found))

-- what is left to compare decides the comparison
pub record IsLeft (key path : Text) (s : ℕ) (more : Text) (at : ℕ) : Type 0 where
  pub within : at ≤ length key
  pub rest : slice_cmp nat_cmp (drop at key) (map (spelled s) (drop at path) ++ more) ≡ slice_cmp nat_cmp key (map (spelled s) path ++ more)

module _ (key path : Text) (s : ℕ) (more : Text) where
  path_at : (at : ℕ) (b : ℕ) → at < length path → b ≡ get_or path at 0 → drop at path ≡ b ∷ drop (at + 1) path
  path_at at b within is = drop_more path at 0 within ∙ ap (λ (x : ℕ). x ∷ drop (at + 1) path) (sym is)

  key_at : (at : ℕ) → at < length key → drop at key ≡ get_or key at 0 ∷ drop (at + 1) key
  key_at at within = drop_more key at 0 within

  -- a key that ends first is less
  pub left_ends : (at b : ℕ) → IsLeft key path s more at → at < length path → length key ≤ at → b ≡ get_or path at 0 → slice_cmp nat_cmp key (map (spelled s) path ++ more) ≡ Less
  left_ends at b left within done is =
      sym left.rest
      ∙ ap (λ (k : Text). slice_cmp nat_cmp k (map (spelled s) (drop at path) ++ more)) (drop_all at key done)
      ∙ ap (λ (p : Text). slice_cmp nat_cmp [] (map (spelled s) p ++ more)) (path_at at b within is)

  -- a first byte that differs decides
  left_byte : (at b : ℕ) → at < length path → at < length key → b ≡ get_or path at 0 → (o : Ordering) → o ≡ nat_cmp (get_or key at 0) (spelled s b) → slice_cmp nat_cmp (drop at key) (map (spelled s) (drop at path) ++ more) ≡ slice_cmp nat_cmp (get_or key at 0 ∷ drop (at + 1) key) (spelled s b ∷ (map (spelled s) (drop (at + 1) path) ++ more))
  left_byte at b within inside is o e =
      ap (λ (k : Text). slice_cmp nat_cmp k (map (spelled s) (drop at path) ++ more)) (key_at at inside)
      ∙ ap (λ (p : Text). slice_cmp nat_cmp (get_or key at 0 ∷ drop (at + 1) key) (map (spelled s) p ++ more)) (path_at at b within is)

  pub left_less : (at b : ℕ) → IsLeft key path s more at → at < length path → at < length key → b ≡ get_or path at 0 → Less ≡ nat_cmp (get_or key at 0) (spelled s b) → slice_cmp nat_cmp key (map (spelled s) path ++ more) ≡ Less
  left_less at b left within inside is e = sym left.rest ∙ left_byte at b within inside is Less e ∙ (rw (← e) refl)

  pub left_greater : (at b : ℕ) → IsLeft key path s more at → at < length path → at < length key → b ≡ get_or path at 0 → Greater ≡ nat_cmp (get_or key at 0) (spelled s b) → slice_cmp nat_cmp key (map (spelled s) path ++ more) ≡ Greater
  left_greater at b left within inside is e = sym left.rest ∙ left_byte at b within inside is Greater e ∙ (rw (← e) refl)

  pub left_more : (at b : ℕ) → IsLeft key path s more at → at < length path → at < length key → b ≡ get_or path at 0 → Equal ≡ nat_cmp (get_or key at 0) (spelled s b) → IsLeft key path s more (at + 1)
  left_more at b left within inside is e = record {
    within = omega arith;
    rest = sym (left_byte at b within inside is Equal e ∙ (rw (← e) refl)) ∙ left.rest;
  }

  pub left_tail : (at : ℕ) → IsLeft key path s more at → at ≡ length path → slice_cmp nat_cmp (drop (length path) key) more ≡ slice_cmp nat_cmp key (map (spelled s) path ++ more)
  left_tail at left all =
      sym (ap (λ (p : Text). slice_cmp nat_cmp (drop (length path) key) (map (spelled s) p ++ more)) (drop_all (length path) path (omega arith)))
      ∙ ap (λ (n : ℕ). slice_cmp nat_cmp (drop n key) (map (spelled s) (drop n path) ++ more)) (sym all)
      ∙ left.rest
