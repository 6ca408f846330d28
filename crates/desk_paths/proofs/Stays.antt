-- The target of a target is itself, with the same class root and kind.
use Rattle.std.proofs.Common.{◌≡◌, Bool, true, false, cond, not, ◌&&◌, ◌==◌, List, [], ◌∷◌, ◌++◌, length, take, drop, codes, Option, Some, None, refl, sym, ap, ◌∙◌, inl, inr}
use Rattle.std.specs.List.{list_all, ends_with}
use Rattle.std.specs.Str.{bytes_eq}
use Rattle.std.proofs.lemmas.Bool.{cases_Bool, and_parts, and_from, both_ways, false_from_ne_true}
use Rattle.std.proofs.lemmas.List.{append_assoc, take_at, drop_at, take-append-drop}
use Rattle.std.proofs.lemmas.List.Folds.{list_all-append}
use Rattle.desk_base.specs.Names.{is_whole, Text, Package, same, written, slash, front, simple, is_empty, is_identifier, is_dotted}
use Rattle.desk_base.proofs.Separated.{split_whole, split_filled, front-push, simple-push}
use Rattle.desk_packages.specs.Renames.{Renaming, pkg, pick, renamed_by, in_scope, is_rename}
use Rattle.desk_rules.specs.RuleSets.{DottedKeepForm}
use Rattle.desk_rules.specs.Images.{dotted}
use Rattle.desk_packages.proofs.Same.{same_is, same_from, covers_is}
use Rattle.desk_packages.proofs.Picks.{Found, pick_Some}
use Rattle.desk_packages.proofs.Cuts.{split_written, front_simple}
use Rattle.desk_packages.proofs.Bytes.{identifier_part, part_whole, unslashed, unreserved}
use Rattle.desk_rules.proofs.DottedBytes.{dotted_bytes, dotted_filled}
use Rattle.desk_rules.proofs.Forms.{pkg_all}
use Rattle.desk_packages.proofs.Picks.{all_In}
use Rattle.desk_paths.specs.Paths.{parts, folders, file_name, root_count, root_length, Cut, cut, path_of, is_service, is_manifest, moved, renamed_path}
use Rattle.desk_paths.specs.Walks.{Stay}
use Rattle.desk_paths.specs.Kinds.{kind_of_cut, kind_of, RenamedStays}
use Rattle.desk_paths.specs.declared.Kind.{Kind}
use Rattle.desk_paths.specs.declared.Kind.TheVariants.{Service, Manifest, Class, Other}
use Rattle.desk_paths.proofs.Roots.{last_two, Calm, root_cut, root_kept, root_calm, identifiers_calm, before_identifiers, ends_behind, calm_moved}

pub parts_written : (ps : List Text) (x : Text) → list_all (is_whole 47) (ps ++ x ∷ []) ≡ true → parts (written slash (ps ++ x ∷ [])) ≡ ps ++ x ∷ []
parts_written [] x h = split_written 47 x [] h
parts_written (p ∷ ps) x h = split_written 47 p (ps ++ x ∷ []) h

-- a placed path whose root is the root of its folders is placed as it stands
pub record Stands (p : Cut) : Type 0 where
  pub whole : list_all (is_whole 47) ((p.root ++ p.rest) ++ p.file ∷ []) ≡ true
  pub root : root_length (p.root ++ p.rest) ≡ length p.root

pub placed_again : (p : Cut) → Stands p → cut (path_of p) ≡ p
unfolding cut
placed_again p stands =
    let ps : parts (path_of p) ≡ (p.root ++ p.rest) ++ p.file ∷ [] =
    ap (λ (w : List Text). parts (written slash w)) (sym (append_assoc p.root p.rest (p.file ∷ []))) ∙ parts_written (p.root ++ p.rest) p.file stands.whole in
    let fs : folders (path_of p) ≡ p.root ++ p.rest = ap front ps ∙ front-push (p.root ++ p.rest) p.file in
    let file : file_name (path_of p) ≡ p.file = ap simple ps ∙ simple-push (p.root ++ p.rest) p.file in
    let count : root_length (folders (path_of p)) ≡ length p.root = ap root_length fs ∙ stands.root in
    let first : take (root_length (folders (path_of p))) (folders (path_of p)) ≡ p.root = rw (count, fs) (take_at p.root p.rest (length p.root) refl) in
    let second : drop (root_length (folders (path_of p))) (folders (path_of p)) ≡ p.rest = rw (count, fs) (drop_at p.root p.rest (length p.root) refl) in
    λ i. record { root = first i; rest = second i; file = file i }

-- the package behind a calm place has no root end where the old one had none
rest_calm : (rs : List Renaming) → list_all is_rename rs ≡ true → (b a : Text) → Calm b a → (p : Package) → root_count b a p ≡ 0 → root_count b a (pkg rs p) ≡ 0
rest_calm rs formed b a calm p none =
    elim (pick rs p) as (λ (o : Option Renaming). pick rs p ≡ o → root_count b a (renamed_by o p) ≡ 0) [
      | None ↦ λ q. none
      | Some r ↦ λ q.
          let f : Found (λ (r : Renaming). in_scope r p) rs r = pick_Some rs p r q in
          let fine = and_parts _ _ (all_In is_rename rs r formed f.there) in
          let tail = drop (length r.source) p in
          let whole : p ≡ r.source ++ tail = covers_is r.below r.source p f.passes in
          let old = ends_behind b a r.source tail (ap (root_count b a) (sym whole) ∙ none) in
          before_identifiers b a calm r.target (and_parts _ _ fine.1).1 tail
          (calm_moved _ _ _ _ (identifiers_calm b a calm r.target (and_parts _ _ fine.1).1) tail old)
    ] refl

identifier_slashless : (t : Text) → is_identifier t ≡ true → is_whole 47 t ≡ true
identifier_slashless t h = part_whole t (identifier_part t h)

both_whole : (xs ys : List Text) → list_all (is_whole 47) xs ≡ true → list_all (is_whole 47) ys ≡ true → list_all (is_whole 47) (xs ++ ys) ≡ true
both_whole xs ys h k = list_all-append (is_whole 47) xs ys ∙ and_from _ _ h k

-- what is placed stands
pub record IsPlaced (p : Cut) : Type 0 where
  pub root_whole : list_all (is_whole 47) p.root ≡ true
  pub rest_whole : list_all (is_whole 47) p.rest ≡ true
  pub file_whole : is_whole 47 p.file ≡ true
  pub root_is : root_count [] [] p.root ≡ length p.root
  pub rest_has_none : let two = last_two [] [] p.root in root_count two.0 two.1 p.rest ≡ 0

pub is_placed : (path : Text) → IsPlaced (cut path)
unfolding cut
is_placed path =
    let all : list_all (is_whole 47) (folders path ++ file_name path ∷ []) ≡ true = ap (list_all (is_whole 47)) (front_simple (parts path) (split_filled 47 path)) ∙ split_whole 47 path in
    let both = and_parts (list_all (is_whole 47) (folders path)) (list_all (is_whole 47) (file_name path ∷ [])) (sym (list_all-append (is_whole 47) (folders path) (file_name path ∷ [])) ∙ all) in
    let n = root_length (folders path) in
    let halves = and_parts (list_all (is_whole 47) (take n (folders path))) (list_all (is_whole 47) (drop n (folders path)))
    (sym (list_all-append (is_whole 47) (take n (folders path)) (drop n (folders path))) ∙ ap (list_all (is_whole 47)) (take-append-drop n (folders path)) ∙ both.0) in
    let c = root_cut [] [] (folders path) in
    record { root_whole = halves.0; rest_whole = halves.1; file_whole = (and_parts (is_whole 47 (file_name path)) true both.1).0; root_is = c.whole; rest_has_none = c.rest }

pub stands : (p : Cut) → IsPlaced p → Stands p
stands p is = record {
  whole = both_whole (p.root ++ p.rest) (p.file ∷ []) (both_whole p.root p.rest is.root_whole is.rest_whole) (and_from _ _ is.file_whole refl);
  root = root_kept [] [] p.root p.rest is.root_is is.rest_has_none;
}

-- a dotted name has no slash
dotted_name_whole : (t : Text) → is_dotted t ≡ true → is_whole slash t ≡ true
dotted_name_whole = dotted_bytes (λ b. not (b == slash)) refl (λ b h. unslashed b (unreserved b h))

dotted_whole : (rs : List Renaming) → DottedKeepForm rs → (t : Text) → is_whole slash t ≡ true → is_whole slash (dotted rs t) ≡ true
dotted_whole rs form t h = elim (cases_Bool (is_dotted t)) [
  | inl named ↦ dotted_name_whole (dotted rs t) (form t named).named
  | inr other ↦ rw other h
]

no_meta_start : (start tail xs : Package) → not (is_empty start) ≡ true → list_all is_identifier start ≡ true → start ++ tail ≡ codes "META-INF" ∷ xs → ⊥
no_meta_start [] tail xs filled all e = absurd cc
no_meta_start (s ∷ start) tail xs filled all e =
    let first : s ≡ codes "META-INF" = cc in
    both_ways (is_identifier (codes "META-INF")) refl (ap is_identifier (sym first) ∙ (and_parts _ _ all).0)

-- no rename makes or takes a first folder META-INF
pkg_meta : (rs : List Renaming) → list_all is_rename rs ≡ true → (p xs : Package) → p ≡ codes "META-INF" ∷ xs → pkg rs p ≡ p
pkg_meta rs formed p xs e = elim (pick rs p) as (λ (o : Option Renaming). pick rs p ≡ o → renamed_by o p ≡ p) [
  | None ↦ λ q. refl
  | Some r ↦ λ q.
      let f : Found (λ (r : Renaming). in_scope r p) rs r = pick_Some rs p r q in
      let fine = and_parts _ _ (and_parts _ _ (all_In is_rename rs r formed f.there)).0 in
      absurd (no_meta_start r.source (drop (length r.source) p) xs fine.0 fine.1 (sym (covers_is r.below r.source p f.passes) ∙ e))
] refl

meta_pkg : (rs : List Renaming) → list_all is_rename rs ≡ true → (p xs : Package) → pkg rs p ≡ codes "META-INF" ∷ xs → p ≡ codes "META-INF" ∷ xs
meta_pkg rs formed p xs = elim (pick rs p) as (λ (o : Option Renaming). pick rs p ≡ o → renamed_by o p ≡ codes "META-INF" ∷ xs → p ≡ codes "META-INF" ∷ xs) [
  | None ↦ λ q e. e
  | Some r ↦ λ q e.
      let f : Found (λ (r : Renaming). in_scope r p) rs r = pick_Some rs p r q in
      let fine = and_parts _ _ (and_parts _ _ (all_In is_rename rs r formed f.there)).1 in
      absurd (no_meta_start r.target (drop (length r.source) p) xs fine.0 fine.1 e)
] refl

same_meta : (rs : List Renaming) → list_all is_rename rs ≡ true → (p xs : Package) → same (pkg rs p) (codes "META-INF" ∷ xs) ≡ same p (codes "META-INF" ∷ xs)
same_meta rs formed p xs =
    elim (cases_Bool (same p (codes "META-INF" ∷ xs))) [
      | inl e ↦ ap (λ (w : Package). same w (codes "META-INF" ∷ xs)) (pkg_meta rs formed p xs (same_is p (codes "META-INF" ∷ xs) e))
      | inr e ↦ false_from_ne_true (same (pkg rs p) (codes "META-INF" ∷ xs)) (λ (k : same (pkg rs p) (codes "META-INF" ∷ xs) ≡ true).
          both_ways (same p (codes "META-INF" ∷ xs)) e (same_from p (codes "META-INF" ∷ xs) (meta_pkg rs formed p xs (same_is (pkg rs p) (codes "META-INF" ∷ xs) k)))) ∙ sym e
    ]

-- a dotted image has bytes where its text has some
dotted_kept_filled : (rs : List Renaming) → DottedKeepForm rs → (t : Text) → is_empty (dotted rs t) ≡ is_empty t
dotted_kept_filled rs form t = elim (cases_Bool (is_dotted t)) [
  | inl named ↦ dotted_filled (dotted rs t) (form t named).named ∙ sym (dotted_filled t named)
  | inr other ↦ rw other refl
]

-- a service file is one again
service_again : (rs : List Renaming) → DottedKeepForm rs → (p : Cut) → is_service (record { root = p.root; rest = p.rest; file = dotted rs p.file }) ≡ is_service p
service_again rs form p = ap (λ (b : Bool). same p.rest (codes "META-INF" ∷ codes "services" ∷ []) && not b) (dotted_kept_filled rs form p.file)

-- a file as it is moved
abbrev pub moved_by : Bool → List Renaming → Cut → Cut
moved_by named renames p = cond named (record { root = p.root; rest = p.rest; file = dotted renames p.file }) (record { root = p.root; rest = pkg renames p.rest; file = p.file })

abbrev pub kind_by : Bool → Bool → Bool → Kind
kind_by s m c = cond s Service (cond m Manifest (cond c Class Other))

pub moved_placed : (rs : List Renaming) → Stay rs → (p : Cut) → IsPlaced p → IsPlaced (moved rs p)
moved_placed rs stay p is = elim (is_service p) as (λ (b : Bool). IsPlaced (moved_by b rs p)) [
  | true ↦ record { root_whole = is.root_whole; rest_whole = is.rest_whole; file_whole = dotted_whole rs stay.form p.file is.file_whole; root_is = is.root_is; rest_has_none = is.rest_has_none }
  | false ↦ record {
    root_whole = is.root_whole;
    rest_whole = pkg_all (is_whole 47) identifier_slashless rs stay.formed p.rest is.rest_whole;
    file_whole = is.file_whole;
    root_is = is.root_is;
    rest_has_none = rest_calm rs stay.formed _ _ (root_calm p.root is.root_is) p.rest is.rest_has_none;
  }
]

moved_kind : (rs : List Renaming) → Stay rs → (p : Cut) → kind_of_cut (moved rs p) ≡ kind_of_cut p
moved_kind rs stay p = elim (is_service p) as (λ (b : Bool). is_service p ≡ b → kind_of_cut (moved_by b rs p) ≡ kind_by b (is_manifest p) (ends_with ◌==◌ p.file (codes ".class"))) [
  | true ↦ λ e. ap (λ (b : Bool). kind_by b (is_manifest (moved_by true rs p)) (ends_with ◌==◌ (dotted rs p.file) (codes ".class"))) (service_again rs stay.form p ∙ e)
  | false ↦ λ e.
      let no_service = ap (λ (b : Bool). b && not (is_empty p.file)) (same_meta rs stay.formed p.rest (codes "services" ∷ [])) ∙ e in
      let one_manifest = same_meta rs stay.formed p.rest [] in
      ap (λ (b : Bool). kind_by b (same (pkg rs p.rest) (codes "META-INF" ∷ []) && bytes_eq p.file (codes "MANIFEST.MF")) (ends_with ◌==◌ p.file (codes ".class"))) no_service
      ∙ ap (λ (b : Bool). kind_by false (b && bytes_eq p.file (codes "MANIFEST.MF")) (ends_with ◌==◌ p.file (codes ".class"))) one_manifest
] refl

moved_twice : (rs : List Renaming) → Stay rs → (p : Cut) → moved rs (moved rs p) ≡ moved rs p
moved_twice rs stay p = elim (is_service p) as (λ (b : Bool). is_service p ≡ b → moved rs (moved_by b rs p) ≡ moved_by b rs p) [
  | true ↦ λ e.
      ap (λ (b : Bool). moved_by b rs (moved_by true rs p)) (service_again rs stay.form p ∙ e)
      ∙ (λ i. record { root = p.root; rest = p.rest; file = stay.dotted p.file i })
  | false ↦ λ e.
      let no_service = ap (λ (b : Bool). b && not (is_empty p.file)) (same_meta rs stay.formed p.rest (codes "services" ∷ [])) ∙ e in
      ap (λ (b : Bool). moved_by b rs (moved_by false rs p)) no_service
      ∙ (λ i. record { root = p.root; rest = stay.packages p.rest i; file = p.file })
] refl

moved_root : (rs : List Renaming) (p : Cut) → (moved rs p).root ≡ p.root
moved_root rs p = elim (is_service p) as (λ (b : Bool). (moved_by b rs p).root ≡ p.root) [ true ↦ refl | false ↦ refl ]

target_placed : (rs : List Renaming) → Stay rs → (path : Text) → cut (renamed_path rs path) ≡ moved rs (cut path)
unfolding renamed_path
target_placed rs stay path = placed_again _ (stands _ (moved_placed rs stay (cut path) (is_placed path)))

-- the target of a target is itself, with the class root and the kind of its file
pub renamed_stays : (rs : List Renaming) → Stay rs → (path : Text) → RenamedStays rs path
unfolding renamed_path kind_of
renamed_stays rs stay path =
    let placed = target_placed rs stay path in
    record {
      again = ap (λ (p : Cut). path_of (moved rs p)) placed ∙ ap path_of (moved_twice rs stay (cut path));
      same_root = ap (λ (p : Cut). written slash p.root) placed ∙ ap (written slash) (moved_root rs (cut path));
      same_kind = ap kind_of_cut placed ∙ moved_kind rs stay (cut path);
    }
