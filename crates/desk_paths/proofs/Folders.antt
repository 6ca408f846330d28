-- A path by the texts of its folders.
use Rattle.std.proofs.Common.{◌≡◌, ◌≤◌, ◌<◌, ◌+◌, ◌-◌, ℕ, Bool, true, false, cond, not, ◌&&◌, ◌==◌, List, [], ◌∷◌, ◌++◌, length, take, drop, codes, Option, Some, None, refl, sym, ap, ◌∙◌, arith, length-append, length-drop}
use Rattle.std.specs.List.{list_all}
use Rattle.std.specs.Str.{bytes_eq}
use Rattle.std.proofs.lemmas.Bool.{and_parts, both_ways}
use Rattle.std.proofs.lemmas.Slice.Eq.{bytes_eq-Decides}
use Rattle.std.proofs.lemmas.List.{append_assoc, take-append-drop, drop-drop, take_at, drop_at, length-take-le}
use Rattle.std.proofs.Math.Seq.{take-add}
use Rattle.std.proofs.lemmas.List.Splits.{slice_split_at}
use Rattle.desk_base.specs.Names.{Text, Package, written, front, is_whole, is_empty, is_identifier, same, slash}
use Rattle.desk_base.proofs.Bools.{same_answer}
use Rattle.desk_base.proofs.Separated.{none_is, front-push}
use Rattle.desk_packages.specs.Renames.{Renaming, pkg, is_rename}
use Rattle.desk_rules.specs.RuleSets.{changing_pick}
use Rattle.desk_rules.specs.Images.{dotted}
use Rattle.desk_packages.proofs.Same.{same_is, same_from}
use Rattle.desk_packages.proofs.Cuts.{split_written}
use Rattle.desk_packages.proofs.FilledImages.{pkg_filled}
use Rattle.desk_rename.specs.Images.{package_image}
use Rattle.desk_rename.proofs.Exchanges.{unchanged, picked_by}
use Rattle.desk_paths.specs.Paths.{parts, root_count, Cut, cut, path_of, folder_text, is_service, is_class, renamed_path, root_of, rest_of, below}
use Rattle.desk_paths.specs.Walks.{IsCutAt, IsPackageEnd, behind_package, is_service_file, is_meta, kind_by_texts}
use Rattle.desk_paths.specs.Kinds.{kind_of}
use Rattle.desk_paths.specs.declared.Kind.TheVariants.{Service, Manifest, Class, Other}
use Rattle.desk_paths.proofs.Stays.{IsPlaced, is_placed}
use Rattle.desk_paths.proofs.Walked.{folder_append, written_folders, path_cut}

-- folders are told by their text
parts_of_folders : (ps : List Text) → list_all (is_whole slash) ps ≡ true → parts (folder_text ps) ≡ ps ++ [] ∷ []
parts_of_folders [] h = refl
parts_of_folders (p ∷ ps) h =
    slice_split_at (λ b. b == slash) p slash (folder_text ps) (none_is slash p (and_parts _ _ h).0) refl
    ∙ ap (λ (qs : List Text). p ∷ qs) (parts_of_folders ps (and_parts _ _ h).1)

one_folder_text : (ps qs : List Text) → list_all (is_whole slash) ps ≡ true → list_all (is_whole slash) qs ≡ true → folder_text ps ≡ folder_text qs → ps ≡ qs
one_folder_text ps qs h k e =
    sym (front-push ps []) ∙ ap front (sym (parts_of_folders ps h) ∙ ap parts e ∙ parts_of_folders qs k) ∙ front-push qs []

told : (ps qs : List Text) → list_all (is_whole slash) ps ≡ true → list_all (is_whole slash) qs ≡ true → bytes_eq (folder_text ps) (folder_text qs) ≡ same ps qs
told ps qs h k =
    same_answer (bytes_eq (folder_text ps) (folder_text qs)) (same ps qs)
    (λ e. same_from ps qs (one_folder_text ps qs h k ((bytes_eq-Decides (folder_text ps) (folder_text qs)).0 e)))
    (λ e. (bytes_eq-Decides (folder_text ps) (folder_text qs)).1 (ap folder_text (same_is ps qs e)))

pub service_told : (c : Cut) → IsPlaced c → is_service_file (folder_text c.rest) c.file ≡ is_service c
service_told c is = ap (λ (b : Bool). b && not (is_empty c.file)) (told c.rest (codes "META-INF" ∷ codes "services" ∷ []) is.rest_whole refl)

pub meta_told : (c : Cut) → IsPlaced c → is_meta (folder_text c.rest) ≡ same c.rest (codes "META-INF" ∷ [])
meta_told c is = told c.rest (codes "META-INF" ∷ []) is.rest_whole refl

-- the kind by the texts
pub kind_told : (path : Text) (rest_at file_at : ℕ) → IsCutAt path rest_at file_at → kind_by_texts (take (file_at - rest_at) (drop rest_at path)) (drop file_at path) ≡ kind_of path
unfolding kind_of
kind_told path rest_at file_at at =
    let c = cut path in
    let is = is_placed path in
    ap (λ (t : Text). kind_by_texts t (drop file_at path)) at.folder_is
    ∙ ap (λ (t : Text). kind_by_texts (folder_text c.rest) t) at.file_is
    ∙ ap (λ (b : Bool). cond b Service (cond (is_meta (folder_text c.rest) && bytes_eq c.file (codes "MANIFEST.MF")) Manifest (cond (is_class c) Class Other))) (service_told c is)
    ∙ ap (λ (b : Bool). cond (is_service c) Service (cond (b && bytes_eq c.file (codes "MANIFEST.MF")) Manifest (cond (is_class c) Class Other))) (meta_told c is)

-- ---- root and rest

-- folders without the `/` behind the last
pub folders_written : (p : Text) (ps : List Text) → folder_text (p ∷ ps) ≡ written slash (p ∷ ps) ++ slash ∷ []
folders_written p [] = refl
folders_written p (q ∷ ps) = ap (λ (t : Text). p ++ slash ∷ t) (folders_written q ps) ∙ sym (append_assoc p (slash ∷ written slash (q ∷ ps)) (slash ∷ []))

pub rest_told : (path : Text) (rest_at file_at : ℕ) → IsCutAt path rest_at file_at → drop rest_at path ≡ rest_of path
rest_told path rest_at file_at at =
    let c = cut path in
    let order : rest_at ≤ file_at = at.order in
    let there : rest_at + (file_at - rest_at) ≡ file_at = omega arith in
    sym (take-append-drop (file_at - rest_at) (drop rest_at path))
    ∙ ap (λ (t : Text). t ++ drop (file_at - rest_at) (drop rest_at path)) at.folder_is
    ∙ ap (λ (t : Text). folder_text c.rest ++ t) (drop-drop (file_at - rest_at) rest_at path ∙ ap (λ (n : ℕ). drop n path) there ∙ at.file_is)
    ∙ sym (written_folders c.rest c.file)

-- folders at the front of a text, without their last `/`
front_written : (ps : List Text) (n : ℕ) (t : Text) → n ≤ length t → take n t ≡ folder_text ps → take (n - 1) t ≡ written slash ps
front_written [] n t within e =
    let size : length (take n t) ≡ n = length-take-le n t within in
    let none : n ≡ 0 = sym size ∙ ap length e in
    ap (λ (k : ℕ). take (k - 1) t) none
front_written (p ∷ ps) n t within e =
    let w = written slash (p ∷ ps) in
    let whole : t ≡ w ++ slash ∷ drop n t = sym (take-append-drop n t) ∙ ap (λ (u : Text). u ++ drop n t) (e ∙ folders_written p ps) ∙ append_assoc w (slash ∷ []) (drop n t) in
    let size : length (take n t) ≡ n = length-take-le n t within in
    let long : length (take n t) ≡ length w + 1 = ap length (e ∙ folders_written p ps) ∙ length-append w (slash ∷ []) in
    let less : length w ≡ n - 1 = omega arith in
    ap (take (n - 1)) whole ∙ take_at w (slash ∷ drop n t) (n - 1) less

-- the class root
pub root_told : (path : Text) (rest_at file_at : ℕ) → IsCutAt path rest_at file_at → take (rest_at - 1) path ≡ root_of path
root_told path rest_at file_at at =
    let order : rest_at ≤ file_at = at.order in
    let within : file_at ≤ length path = at.within in
    front_written (cut path).root rest_at path (omega arith) at.root_is

-- a class root has bytes
root_filled : (p : Text) (ps : List Text) → root_count [] [] (p ∷ ps) ≡ length (p ∷ ps) → is_empty (written slash (p ∷ ps)) ≡ false
root_filled [] [] h = absurd (omega arith)
root_filled (b ∷ p) [] h = refl
root_filled [] (q ∷ ps) h = refl
root_filled (b ∷ p) (q ∷ ps) h = refl

by_text : (t rest : Text) → is_empty t ≡ false → below t rest ≡ t ++ slash ∷ rest
by_text [] rest h = absurd cc
by_text (b ∷ t) rest h = refl

by_root : (root : List Text) (rest : Text) → root_count [] [] root ≡ length root → folder_text root ++ rest ≡ below (written slash root) rest
by_root [] rest h = refl
by_root (p ∷ ps) rest h =
    ap (λ (t : Text). t ++ rest) (folders_written p ps)
    ∙ append_assoc (written slash (p ∷ ps)) (slash ∷ []) rest
    ∙ sym (by_text (written slash (p ∷ ps)) rest (root_filled p ps h))

-- a path is its class root and its rest
pub below_is : (path : Text) → path ≡ below (root_of path) (rest_of path)
below_is path =
    let c = cut path in
    path_cut path ∙ ap (λ (t : Text). folder_text c.root ++ t) (sym (written_folders c.rest c.file)) ∙ by_root c.root (rest_of path) (is_placed path).root_is

-- ---- targets

-- a service file is told by the texts of its path
texts_told : (path : Text) (rest_at file_at : ℕ) → IsCutAt path rest_at file_at
    → is_service_file (folder_text (cut path).rest) (cut path).file ≡ is_service_file (take (file_at - rest_at) (drop rest_at path)) (drop file_at path)
texts_told path rest_at file_at at =
    ap (λ (t : Text). is_service_file t (cut path).file) (sym at.folder_is)
    ∙ ap (λ (t : Text). is_service_file (take (file_at - rest_at) (drop rest_at path)) t) (sym at.file_is)

-- where a service file goes
pub named_told : (rs : List Renaming) (path : Text) (rest_at file_at : ℕ) → IsCutAt path rest_at file_at → is_service_file (take (file_at - rest_at) (drop rest_at path)) (drop file_at path) ≡ true → take file_at path ++ dotted rs (drop file_at path) ≡ renamed_path rs path
unfolding renamed_path
named_told rs path rest_at file_at at service =
    let c = cut path in
    let order : rest_at ≤ file_at = at.order in
    let there : rest_at + (file_at - rest_at) ≡ file_at = omega arith in
    let is_one : is_service c ≡ true = sym (service_told c (is_placed path)) ∙ texts_told path rest_at file_at at ∙ service in
    let folders_are : take file_at path ≡ folder_text c.root ++ folder_text c.rest =
    ap (λ (n : ℕ). take n path) (sym there) ∙ take-add rest_at (file_at - rest_at) path
    ∙ ap (λ (t : Text). t ++ take (file_at - rest_at) (drop rest_at path)) at.root_is
    ∙ ap (λ (t : Text). folder_text c.root ++ t) at.folder_is in
    ap (λ (t : Text). t ++ dotted rs (drop file_at path)) folders_are
    ∙ ap (λ (t : Text). (folder_text c.root ++ folder_text c.rest) ++ dotted rs t) at.file_is
    ∙ joined_path c.root c.rest (dotted rs c.file)
    ∙ sym (ap (λ (b : Bool). path_of (cond b (record { root = c.root; rest = c.rest; file = dotted rs c.file }) (record { root = c.root; rest = pkg rs c.rest; file = c.file }))) is_one)
  where
    joined_path : (root rest : List Text) (file : Text) → (folder_text root ++ folder_text rest) ++ file ≡ written slash (root ++ (rest ++ file ∷ []))
    joined_path root rest file =
        ap (λ (t : Text). t ++ file) (sym (folder_append root rest)) ∙ sym (written_folders (root ++ rest) file) ∙ ap (written slash) (append_assoc root rest (file ∷ []))

-- where the package of a path ends, if some folder stands behind the class root
pub end_some : (path : Text) (rest_at file_at : ℕ) → IsCutAt path rest_at file_at → rest_at < file_at → IsPackageEnd path rest_at (file_at - 1)
end_some path rest_at file_at at some = by_rest (cut path).rest refl
  where
    inside : file_at - rest_at ≤ length (drop rest_at path)
    inside = let within : file_at ≤ length path = at.within in omega (arith, length-drop rest_at path)

    gap : length (take (file_at - rest_at) (drop rest_at path)) ≡ file_at - rest_at
    gap = length-take-le (file_at - rest_at) (drop rest_at path) inside

    by_rest : (rest : List Text) → (cut path).rest ≡ rest → IsPackageEnd path rest_at (file_at - 1)
    by_rest [] e =
        let none : file_at - rest_at ≡ 0 = sym gap ∙ ap length (at.folder_is ∙ ap folder_text e) in
        absurd (omega arith)
    by_rest (x ∷ xs) e =
        let w = written slash (x ∷ xs) in
        let file = (cut path).file in
        let within : file_at ≤ length path = at.within in
        let folder : take (file_at - rest_at) (drop rest_at path) ≡ folder_text (x ∷ xs) = at.folder_is ∙ ap folder_text e in
        let less : (file_at - rest_at) - 1 ≡ (file_at - 1) - rest_at = omega arith in
        let there : rest_at + (file_at - rest_at) ≡ file_at = omega arith in
        let whole : drop rest_at path ≡ w ++ slash ∷ file =
        sym (take-append-drop (file_at - rest_at) (drop rest_at path))
        ∙ ap (λ (t : Text). t ++ drop (file_at - rest_at) (drop rest_at path)) (folder ∙ folders_written x xs)
        ∙ ap (λ (t : Text). (w ++ slash ∷ []) ++ t) (drop-drop (file_at - rest_at) rest_at path ∙ ap (λ (n : ℕ). drop n path) there ∙ at.file_is)
        ∙ append_assoc w (slash ∷ []) file in
        let long : file_at - rest_at ≡ length w + 1 = sym gap ∙ ap length (folder ∙ folders_written x xs) ∙ length-append w (slash ∷ []) in
        let last : rest_at + length w ≡ file_at - 1 = omega arith in
        record {
          order = omega arith;
          within = omega arith;
          package_is = ap (λ (n : ℕ). take n (drop rest_at path)) (sym less) ∙ front_written (x ∷ xs) (file_at - rest_at) (drop rest_at path) inside folder ∙ ap (written slash) (sym e);
          behind_is = ap (λ (n : ℕ). drop n path) (sym last) ∙ sym (drop-drop (length w) rest_at path) ∙ ap (drop (length w)) whole ∙ drop_at w (slash ∷ file) (length w) refl
              ∙ ap (λ (ps : List Text). behind_package ps file) (sym e);
        }

pub end_none : (path : Text) (rest_at file_at : ℕ) → IsCutAt path rest_at file_at → file_at ≤ rest_at → IsPackageEnd path rest_at file_at
end_none path rest_at file_at at less = by_rest (cut path).rest refl
  where
    empty : take (file_at - rest_at) (drop rest_at path) ≡ []
    empty = let none : file_at - rest_at ≡ 0 = omega arith in ap (λ (n : ℕ). take n (drop rest_at path)) none

    by_rest : (rest : List Text) → (cut path).rest ≡ rest → IsPackageEnd path rest_at file_at
    by_rest [] e = record {
      order = at.order;
      within = at.within;
      package_is = empty ∙ ap (written slash) (sym e);
      behind_is = at.file_is ∙ ap (λ (ps : List Text). behind_package ps (cut path).file) (sym e);
    }
    by_rest (x ∷ xs) e =
        let none : length (x ++ slash ∷ folder_text xs) ≡ 0 = ap length (sym (at.folder_is ∙ ap folder_text e) ∙ empty) in
        absurd (omega (arith, length-append x (slash ∷ folder_text xs)))

-- a package that begins with no identifier is its own image
odd_package : (rs : List Renaming) → list_all is_rename rs ≡ true → (p : Package) → ((a b : Package) → p ≡ a ++ b → not (is_empty a) ≡ true → list_all is_identifier a ≡ true → ⊥) → pkg rs p ≡ p
odd_package rs formed p odd =
    elim (changing_pick rs p) as (λ (o : Option Renaming). changing_pick rs p ≡ o → pkg rs p ≡ p) [
      | None ↦ λ q. unchanged rs p q
      | Some r ↦ λ q. let k = picked_by rs formed p r q in absurd (odd r.source k.tail k.whole k.source_filled k.source_all)
    ] refl

no_package : (rs : List Renaming) → list_all is_rename rs ≡ true → pkg rs [] ≡ []
no_package rs formed = odd_package rs formed [] none
  where
    none : (a b : Package) → [] ≡ a ++ b → not (is_empty a) ≡ true → list_all is_identifier a ≡ true → ⊥
    none [] b e h k = cc
    none (x ∷ a) b e h k = cc

empty_package : (rs : List Renaming) → list_all is_rename rs ≡ true → pkg rs ([] ∷ []) ≡ [] ∷ []
empty_package rs formed = odd_package rs formed ([] ∷ []) none
  where
    none : (a b : Package) → [] ∷ [] ≡ a ++ b → not (is_empty a) ≡ true → list_all is_identifier a ≡ true → ⊥
    none [] b e h k = cc
    none (x ∷ a) b e h k =
        let first : [] ≡ x = cc in
        both_ways (is_identifier []) refl (ap is_identifier first ∙ (and_parts _ _ k).0)

-- the image of a package as text, and of its segments
package_path : (rs : List Renaming) → list_all is_rename rs ≡ true → (rest : List Text) → list_all (is_whole slash) rest ≡ true → package_image rs (written slash rest) ≡ written slash (pkg rs rest)
package_path rs formed [] whole = refl
package_path rs formed ([] ∷ []) whole = ap (written slash) (no_package rs formed) ∙ ap (written slash) (sym (empty_package rs formed))
package_path rs formed ((b ∷ x) ∷ []) whole = ap (λ (ps : Package). written slash (pkg rs ps)) (split_written slash (b ∷ x) [] whole)
package_path rs formed ([] ∷ y ∷ xs) whole = ap (λ (ps : Package). written slash (pkg rs ps)) (split_written slash [] (y ∷ xs) whole)
package_path rs formed ((b ∷ x) ∷ y ∷ xs) whole = ap (λ (ps : Package). written slash (pkg rs ps)) (split_written slash (b ∷ x) (y ∷ xs) whole)

behind_is_path : (q : Package) (rest : List Text) (file : Text) → not (is_empty q) ≡ not (is_empty rest) → written slash q ++ behind_package rest file ≡ folder_text q ++ file
behind_is_path [] [] file h = refl
behind_is_path [] (x ∷ xs) file h = absurd cc
behind_is_path (y ∷ ys) [] file h = absurd cc
behind_is_path (y ∷ ys) (x ∷ xs) file h = sym (append_assoc (written slash (y ∷ ys)) (slash ∷ []) file) ∙ ap (λ (t : Text). t ++ file) (sym (folders_written y ys))

same_filled : (rs : List Renaming) → list_all is_rename rs ≡ true → (rest : List Text) → not (is_empty (pkg rs rest)) ≡ not (is_empty rest)
same_filled rs formed [] = ap (λ (w : Package). not (is_empty w)) (no_package rs formed)
same_filled rs formed (x ∷ xs) = pkg_filled rs formed (x ∷ xs) refl

-- where any other file goes
pub folder_told : (rs : List Renaming) → list_all is_rename rs ≡ true → (path : Text) (rest_at file_at end : ℕ) → IsCutAt path rest_at file_at → is_service_file (take (file_at - rest_at) (drop rest_at path)) (drop file_at path) ≡ false → IsPackageEnd path rest_at end
    → (take rest_at path ++ package_image rs (take (end - rest_at) (drop rest_at path))) ++ drop end path ≡ renamed_path rs path
unfolding renamed_path
folder_told rs formed path rest_at file_at end at other cut_off =
    let c = cut path in
    let is_other : is_service c ≡ false = sym (service_told c (is_placed path)) ∙ texts_told path rest_at file_at at ∙ other in
    let q = pkg rs c.rest in
    ap (λ (t : Text). (t ++ package_image rs (take (end - rest_at) (drop rest_at path))) ++ drop end path) at.root_is
    ∙ ap (λ (t : Text). (folder_text c.root ++ package_image rs t) ++ drop end path) cut_off.package_is
    ∙ ap (λ (t : Text). (folder_text c.root ++ t) ++ drop end path) (package_path rs formed c.rest (is_placed path).rest_whole)
    ∙ ap (λ (t : Text). (folder_text c.root ++ written slash q) ++ t) cut_off.behind_is
    ∙ append_assoc (folder_text c.root) (written slash q) (behind_package c.rest c.file)
    ∙ ap (λ (t : Text). folder_text c.root ++ t) (behind_is_path q c.rest c.file (same_filled rs formed c.rest))
    ∙ sym (append_assoc (folder_text c.root) (folder_text q) c.file)
    ∙ ap (λ (t : Text). t ++ c.file) (sym (folder_append c.root q))
    ∙ sym (written_folders (c.root ++ q) c.file)
    ∙ ap (written slash) (append_assoc c.root q (c.file ∷ []))
    ∙ sym (ap (λ (b : Bool). path_of (cond b (record { root = c.root; rest = c.rest; file = dotted rs c.file }) (record { root = c.root; rest = q; file = c.file }))) is_other)
