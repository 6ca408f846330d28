-- Which paths stand below a root: those whose full path is there.
use mathlib.Core.Bool.{and-false}
use Rattle.std.proofs.Common.{◌≡◌, List, [], ◌∷◌, Some, None, Option, Bool, true, false, refl, sym, ap, ◌∙◌}
use Rattle.std.specs.Prelude.{◌&&◌, ◌||◌, is_some, IsSome, Contains}
use Rattle.std.specs.List.{filter_map, cons_option, list_any}
use Rattle.std.specs.Ordering.{nat_cmp, eq_by_cmp, is_eq}
use Rattle.std.specs.Cmp.Lexicographic.{slice_cmp}
use Rattle.std.proofs.lemmas.Cmp.{nat_list_cmp_total, tied_itself}
use Rattle.std.proofs.lemmas.Map.Views.{Contains-from_any}
use Rattle.std.specs.FinMap as fin
use Rattle.std.specs.FinMap.{slice_cmp-IsAntisymmetric, nat_cmp-IsAntisymmetric}
use Rattle.desk_base.specs.Names.{Text}
use Rattle.desk_base.specs.Paths.{folder, full, is_relative_path}
use Rattle.desk_base.proofs.Orderings.{equal_is}
use Rattle.desk_folders.specs.Contents.{Contents, below, paths_below}
use Rattle.desk_folders.proofs.Below.{below-is, below-full, cmp-behind}

-- whether two texts are one
abbrev pub same_text : Text → Text → Bool
same_text = eq_by_cmp (slice_cmp nat_cmp)

pub same_text-is : (p q : Text) → same_text p q ≡ true → p ≡ q
same_text-is p q e = slice_cmp-IsAntisymmetric nat_cmp-IsAntisymmetric p q (equal_is _ e)

pub same_text-itself : (p : Text) → same_text p p ≡ true
same_text-itself p = ap is_eq (tied_itself nat_list_cmp_total p)

-- a path is among those below a root where it is relative and its full path is among the keys
pub any_below : (root p : Text) (ks : List Text) → list_any (same_text p) (filter_map (below root) ks) ≡ (is_relative_path p && list_any (same_text (full root p)) ks)
any_below root p [] = sym (and-false (is_relative_path p))
any_below root p (k ∷ ks) = at (below root k) refl (any_below root p ks) where
  none : (r s : Bool) → is_relative_path p ≡ r → same_text (full root p) k ≡ s → None ≡ below root k → (rest : Bool) → (r && rest) ≡ (r && (s || rest))
  none false s is e h rest = refl
  none true false is e h rest = refl
  none true true is e h rest =
      let key : full root p ≡ k = same_text-is (full root p) k e in
      let found : below root k ≡ Some p = ap (below root) (sym key) ∙ below-full root p is in absurd (cc)

  some : (q : Text) (r s : Bool) → k ≡ full root q → is_relative_path q ≡ true → is_relative_path p ≡ r → same_text p q ≡ s → (rest : Bool) → (s || (r && rest)) ≡ (r && (s || rest))
  some q true true key rel is e rest = refl
  some q true false key rel is e rest = refl
  some q false false key rel is e rest = refl
  some q false true key rel is e rest = let no : true ≡ false = sym rel ∙ ap is_relative_path (sym (same_text-is p q e)) ∙ is in absurd (cc)

  at : (o : Option Text) → below root k ≡ o → list_any (same_text p) (filter_map (below root) ks) ≡ (is_relative_path p && list_any (same_text (full root p)) ks)
      → list_any (same_text p) (cons_option o (filter_map (below root) ks)) ≡ (is_relative_path p && (same_text (full root p) k || list_any (same_text (full root p)) ks))
  at None h rest = rest ∙ none (is_relative_path p) (same_text (full root p) k) refl refl (sym h) (list_any (same_text (full root p)) ks)
  at (Some q) h rest =
      let is = below-is root k q h in
      let test : same_text (full root p) k ≡ same_text p q = ap (same_text (full root p)) is.0 ∙ ap is_eq (cmp-behind (folder root) p q) in
      ap (λ b. same_text p q || b) rest ∙ some q (is_relative_path p) (same_text p q) is.0 is.1 refl refl (list_any (same_text (full root p)) ks)
      ∙ ap (λ b. is_relative_path p && (b || list_any (same_text (full root p)) ks)) (sym test)

-- the same of contents
pub any_path : (root p : Text) (m : Contents) → list_any (same_text p) (paths_below root m) ≡ (is_relative_path p && is_some (fin.get m (full root p)))
any_path root p m = any_below root p (fin.keys m) ∙ ap (λ b. is_relative_path p && b) (sym (fin.contains_key-keys m (full root p)))

-- a relative path whose full path is there stands below the root
pub path_below-of : (root p : Text) (m : Contents) → is_relative_path p ≡ true → IsSome (fin.get m (full root p)) → Contains (paths_below root m) p
path_below-of root p m rel there =
    Contains-from_any same_text-is p (paths_below root m) (any_path root p m ∙ ap (λ b. b && is_some (fin.get m (full root p))) rel ∙ there)
