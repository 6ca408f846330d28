-- Whether a changing rename fits a package.
use Rattle.std.proofs.Common.{◌≡◌, ◌≤◌, ℕ, true, false, not, ◌&&◌, List, [], ◌∷◌, length, Some, None, sym, ap, ◌∙◌, inl, inr, arith}
use Rattle.std.specs.List.{list_all}
use Rattle.std.proofs.lemmas.Bool.{and_parts, and_from, both_ways, cases_Bool, not_from_false, not-true}
use Rattle.desk_base.specs.Names.{Text, Package, segments, written, is_identifier, is_empty}
use Rattle.desk_packages.specs.Renames.{Renaming, in_scope, changes, exact}
use Rattle.desk_packages.specs.Keys.{is_separator, IsTable, EndsBelow, IsChanging, NoneChanging, IsNoneBeyond}
use Rattle.desk_packages.proofs.Picks.{Found, find_Some, find_None}
use Rattle.desk_packages.proofs.Lookup.{formed, one_source, covers_start, prefix_start, covers_only, written_filled, one_of, contained}

module _ (rs : List Renaming) (table : IsTable rs) (s : ℕ) (h : is_separator s ≡ true) (path : Text) where
  pub changing_at : (n : ℕ) → n ≤ length path → (r : Renaming) → EndsBelow rs s path n r → changes r ≡ true → IsChanging rs (segments s path) r
  changing_at n within r at moves =
      let fine = formed rs table s h path r (one_of rs r at.there) in
      let start = prefix_start s h path r.source fine.0 fine.1 n within at.ends at.spelled in
      record { there = at.there; moves = moves; fits = covers_start r.below r.source (segments s path) start.0 at.below start.1 }

  pub changing_exact : (r : Renaming) → exact rs (segments s path) ≡ Some r → changes r ≡ true → IsChanging rs (segments s path) r
  changing_exact r found moves =
      let f : Found (λ (r : Renaming). not r.below && in_scope r (segments s path)) rs r = find_Some _ rs r found in
      record { there = contained rs r f.there; moves = moves; fits = (and_parts _ _ f.passes).1 }

  nothing_written : (p : Package) → not (is_empty p) ≡ true → list_all is_identifier p ≡ true → length (written s p) ≤ 0 → ⊥
  nothing_written [] filled all most = absurd cc
  nothing_written (x ∷ xs) filled all most = omega (arith, written_filled s x xs (and_parts _ _ all).0)

  none_by : (x : Renaming) → IsChanging rs (segments s path) x → IsNoneBeyond rs s path 0 → (not x.below ≡ true → ⊥) → ⊥
  none_by x found below exactly =
      elim (cases_Bool x.below) [
        | inl deep ↦
            let fine = formed rs table s h path x (one_of rs x found.there) in
            nothing_written x.source fine.0 fine.1 (below.shorter x found.there (and_from _ _ (and_from _ _ found.moves deep) found.fits))
        | inr plain ↦ exactly (not_from_false _ plain)
      ]

  pub none_at_all : exact rs (segments s path) ≡ None → IsNoneBeyond rs s path 0 → NoneChanging rs (segments s path)
  none_at_all missing below x found = none_by x found below (λ plain.
      both_ways _ (find_None (λ (r : Renaming). not r.below && in_scope r (segments s path)) rs x missing (one_of rs x found.there)) (and_from _ _ plain found.fits))

  pub none_but : (r : Renaming) → exact rs (segments s path) ≡ Some r → changes r ≡ false → IsNoneBeyond rs s path 0 → NoneChanging rs (segments s path)
  none_but r found_r stays below x found = none_by x found below (λ plain.
      let f : Found (λ (r : Renaming). not r.below && in_scope r (segments s path)) rs r = find_Some _ rs r found_r in
      let plain_r : r.below ≡ false = not-true _ (and_parts _ _ f.passes).0 in
      let source_r : r.source ≡ segments s path = covers_only r.below r.source (segments s path) plain_r (and_parts _ _ f.passes).1 in
      let source_x : x.source ≡ segments s path = covers_only x.below x.source (segments s path) (not-true _ plain) found.fits in
      let same : x ≡ r = one_source rs table s h path x r (one_of rs x found.there) f.there false (not-true _ plain) plain_r (ap (written s) (source_x ∙ sym source_r)) in
      both_ways (changes x) (ap changes same ∙ stays) found.moves)
