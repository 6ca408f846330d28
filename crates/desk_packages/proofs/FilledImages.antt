-- The image of a package has a segment where the package has one.
use Rattle.std.proofs.Common.{◌≡◌, true, not, List, [], ◌∷◌, ◌++◌, length, drop, Option, Some, None, refl}
use Rattle.std.specs.List.{list_all}
use Rattle.std.proofs.lemmas.Bool.{and_parts}
use Rattle.desk_base.specs.Names.{Package, is_empty}
use Rattle.desk_packages.specs.Renames.{Renaming, pkg, pick, renamed_by, in_scope, is_rename}
use Rattle.desk_packages.proofs.Picks.{Found, pick_Some, all_In}

pub pkg_filled : (rs : List Renaming) → list_all is_rename rs ≡ true → (p : Package) → not (is_empty p) ≡ true → not (is_empty (pkg rs p)) ≡ true
pkg_filled rs formed p h =
    elim (pick rs p) as (λ (o : Option Renaming). pick rs p ≡ o → not (is_empty (renamed_by o p)) ≡ true) [
      | None ↦ λ q. h
      | Some r ↦ λ q.
          let f : Found (λ (r : Renaming). in_scope r p) rs r = pick_Some rs p r q in
          joined_filled r.target (drop (length r.source) p) (and_parts _ _ (and_parts _ _ (all_In is_rename rs r formed f.there)).1).0
    ] refl
  where
    joined_filled : (xs ys : Package) → not (is_empty xs) ≡ true → not (is_empty (xs ++ ys)) ≡ true
    joined_filled [] ys k = absurd cc
    joined_filled (x ∷ xs) ys k = refl
