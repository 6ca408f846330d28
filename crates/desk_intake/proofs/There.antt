-- The files below a root are there.
use Rattle.std.proofs.Common.{◌≡◌, List, [], ◌∷◌, ◌++◌, Option, Some, None, refl, sym, ap, ◌∙◌, true, false, Bool, unwrap_or, append_assoc, is_some, map, arith}
use Rattle.std.specs.Prelude.{option_and_then, if◌then◌else◌}
use Rattle.std.specs.FinMap as fin
use Rattle.std.specs.Ordering.{nat_cmp, eq_by_cmp}
use Rattle.std.specs.Cmp.{eq_by_cmp_equiv}
use Rattle.std.specs.Cmp.Lexicographic.{slice_cmp}
use Rattle.std.proofs.lemmas.Cmp.{nat_list_cmp_total}
use Rattle.std.specs.List.{filter_map, list_any}
use Rattle.desk_base.specs.Names.{Text}
use Rattle.desk_base.specs.Paths.{full, folder, is_relative_path}
use Rattle.desk_folders.specs.Contents.{Contents, File, behind, below, relative, file_at, files_below}
use Rattle.desk_folders.proofs.Below.{behind-is}

-- the files are there with these bytes, at relative paths
pub record IsThere (root : Text) (m : Contents) (file : File) : Type 0 where
  pub held : fin.get m (full root file.path) ≡ Some file.bytes
  pub relative : is_relative_path file.path ≡ true

abbrev pub AllThere : Text → Contents → List File → Type 0
AllThere root m [] = Unit {0}
AllThere root m (file ∷ files) = IsThere root m file × AllThere root m files

pub there_at : (root : Text) (m : Contents) (a : List File) (file : File) (b : List File) → AllThere root m (a ++ file ∷ b) → IsThere root m file
there_at root m [] file b h = h.0
there_at root m (x ∷ a) file b h = there_at root m a file b h.1

-- a relative path below a root, of a full path
record IsBelow (root path p : Text) : Type 0 where
  is : full root p ≡ path
  relative : is_relative_path p ≡ true

below_is : (root path p : Text) → below root path ≡ Some p → IsBelow root path p
below_is root path p e = by (behind (folder root) path) refl e where
  relative_is : (q : Text) (x : Bool) → is_relative_path q ≡ x → (if x then Some q else None) ≡ Some p → (q ≡ p) × (is_relative_path q ≡ true)
  relative_is q true f g = (cc, f)
  relative_is q false f g = cc

  by : (o : Option Text) → behind (folder root) path ≡ o → option_and_then relative o ≡ Some p → IsBelow root path p
  by None f g = cc
  by (Some q) f g =
      let r = relative_is q (is_relative_path q) refl g in
      record { is = ap (full root) (sym r.0) ∙ sym (behind-is (folder root) path q f); relative = ap is_relative_path (sym r.0) ∙ r.1 }

-- each of these paths is in the map
abbrev Held' : Contents → List Text → Type 0
Held' m [] = Unit {0}
Held' m (k ∷ ks) = (is_some (fin.get m k) ≡ true) × Held' m ks

some_held : (o : Option Text) → is_some o ≡ true → o ≡ Some (unwrap_or o [])
some_held None e = cc
some_held (Some x) e = refl

there_from : (root : Text) (m : Contents) (ks : List Text) → Held' m ks → AllThere root m (map (file_at root m) (filter_map (below root) ks))
there_from root m [] h = tt
there_from root m (k ∷ ks) h = elim (below root k) as (λ o. below root k ≡ o → AllThere root m (map (file_at root m) (filter_map (below root) (k ∷ ks)))) [
  | None ↦ λ e. rw e (there_from root m ks h.1)
  | Some p ↦ λ e. let b = below_is root k p e in rw e (record { held = some_held _ (ap (λ q. is_some (fin.get m q)) b.is ∙ h.0); relative = b.relative }, there_from root m ks h.1)
] refl

any_at : (q : Text) (a : List Text) (b : List Text) → list_any (eq_by_cmp (slice_cmp nat_cmp) q) (a ++ q ∷ b) ≡ true
any_at q [] b = let e = (eq_by_cmp_equiv nat_list_cmp_total).refl q in grind (arith, e)
any_at q (x ∷ a) b = let e = any_at q a b in grind (arith, e)

held_from : (m : Contents) (a ks : List Text) → fin.keys m ≡ a ++ ks → Held' m ks
held_from m a [] e = tt
held_from m a (k ∷ ks) e = (fin.contains_key-keys m k ∙ ap (list_any (eq_by_cmp (slice_cmp nat_cmp) k)) e ∙ any_at k a ks, held_from m (a ++ k ∷ []) ks (e ∙ sym (append_assoc a (k ∷ []) ks)))

-- the files below a root are there
pub files_there : (root : Text) (m : Contents) → AllThere root m (files_below root m)
files_there root m = there_from root m (fin.keys m) (held_from m [] (fin.keys m) refl)
