-- Look-ups find the second rule of a chain that a search of all the rules finds.
use Rattle.std.proofs.Common.{◌≡◌, ◌<◌, ◌+◌, not, get_or, ℕ, Bool, true, false, cond, ◌&&◌, ◌==◌, List, [], ◌∷◌, ◌++◌, take, drop, length, Option, Some, None, refl, sym, ap, subst, ◌∙◌, inl, inr}
use Rattle.std.specs.List.{find, filter, list_all, list_any, starts_with}
use Rattle.std.specs.Str.{bytes_eq}
use Rattle.std.proofs.lemmas.Bool.{and_parts, and_from, or_left, or_right, both_ways, cases_Bool, or_cases}
use Rattle.std.proofs.lemmas.Bool.Decides.{Decides-eqb}
use Rattle.std.proofs.lemmas.List.{append_assoc, append-nil, drop_more}
use Rattle.std.proofs.lemmas.Slice.Eq.{bytes_eq-Decides, starts_is}
use Rattle.desk_base.specs.Names.{Text, Package, segments, written, front, simple, dot, same, begins_with, is_dotted, is_identifier, is_package, is_empty}
use Rattle.desk_packages.specs.Renames.{Renaming, key_of, changes, in_scope, in_reach, covers, is_rename}
use Rattle.desk_packages.specs.Keys.{IsTable, NoneChanging, wanted_tail}
use Rattle.desk_packages.specs.Fronts.{IsFrontEnd}
use Rattle.desk_packages.proofs.Picks.{In, all_In}
use Rattle.desk_packages.proofs.Searched.{find_nothing}
use Rattle.desk_packages.proofs.Lookup.{contained, written_more}
use Rattle.desk_packages.proofs.Same.{same_is, same_from, begins_is, begins_from, covers_is}
use Rattle.desk_packages.proofs.Cuts.{segments_written, front_simple}
use Rattle.desk_packages.proofs.KeyLaws.{identifier_cuts}
use Rattle.desk_packages.proofs.Segments.{front_parts}
use Rattle.desk_chains.specs.Chains.{first_pair, meets, front_in_reach, front_in_scope, rename_then_rename, rename_then_direct, one_then_another, direct_then_rename, update_then_update, package_then_name, name_then_package, package_then_direct, direct_then_package}
use Rattle.desk_entries.specs.Exchanges.{Exchange, BundleUpdate, alters, renames_bundle}
use Rattle.desk_chains.proofs.Fronts.{goes_is, reach_told}

flipped : (a b : Text) → bytes_eq a b ≡ true → bytes_eq b a ≡ true
flipped a b h = (bytes_eq-Decides b a).1 (sym ((bytes_eq-Decides a b).0 h))

pub directs_only : (d e : Exchange) (t : Text) → t ≡ d.1 → one_then_another d e ≡ true → bytes_eq e.0 t ≡ true
directs_only d e t is k = subst (λ (w : Text). bytes_eq e.0 w ≡ true) (sym is) (flipped d.1 e.0 (and_parts (alters d && alters e) (bytes_eq d.1 e.0) k).1)

pub bundles_only : (u v : BundleUpdate) (t : Text) → t ≡ u.1.name → update_then_update u v ≡ true → bytes_eq v.0 t ≡ true
bundles_only u v t is k = subst (λ (w : Text). bytes_eq v.0 w ≡ true) (sym is) (flipped u.1.name v.0 (and_parts (renames_bundle u && renames_bundle v) (bytes_eq u.1.name v.0) k).1)

-- what is left out doesn't count
pub find_filtered : {B : Type 0} (S R : B → Bool) (ys : List B) → ((y : B) → R y ≡ true → S y ≡ true) → find R (filter S ys) ≡ find R ys
find_filtered S R [] only = refl
find_filtered {B} S R (y ∷ ys) only = elim (S y) as (λ (b : Bool). S y ≡ b → find R (cond b (y ∷ filter S ys) (filter S ys)) ≡ cond (R y) (Some y) (find R ys)) [
  | true ↦ λ q. ap (λ (o : Option B). cond (R y) (Some y) o) (find_filtered S R ys only)
  | false ↦ λ q. elim (cases_Bool (R y)) [
    | inl k ↦ absurd (both_ways (S y) q (only y k))
    | inr k ↦ find_filtered S R ys only ∙ sym (ap (λ (b : Bool). cond b (Some y) (find R ys)) k)
  ]
] refl

-- a text that goes on behind a start and a dot begins with both
starts_from : (t w more : Text) → t ≡ w ++ 46 ∷ more → starts_with ◌==◌ t (w ++ 46 ∷ []) ≡ true
starts_from t w more e = (starts_is Decides-eqb t (w ++ 46 ∷ []) (starts_with ◌==◌ t (w ++ 46 ∷ [])) refl).1 more (e ∙ sym (append_assoc w (46 ∷ []) more))

pub directs_under : (r : Renaming) → is_rename r ≡ true → (e : Exchange) → rename_then_direct r e ≡ true → starts_with ◌==◌ e.0 (written dot r.target ++ 46 ∷ []) ≡ true
directs_under r formed e k =
    let reach : front_in_reach r e.0 ≡ true = (and_parts (changes r && alters e) (front_in_reach r e.0) k).1 in
    let named : is_dotted e.0 ≡ true = (and_parts (is_dotted e.0) (in_reach r (front (segments dot e.0))) reach).0 in
    let on = goes_is r.below (written 46 r.target) e.0 (reach_told r formed e.0 named ∙ reach) in
    starts_from e.0 (written 46 r.target) on.more on.is

-- a direct rule that doesn't change, or gives no dotted name, or one whose front no changing rename fits, leads to no rename
module _ (rs : List Renaming) (d : Exchange) where
  pub unaltered : alters d ≡ false → None ≡ find (direct_then_rename d) rs
  unaltered stays = sym (find_nothing (direct_then_rename d) rs (λ s js k.
      both_ways (alters d) stays (and_parts (alters d) (changes s) (and_parts (alters d && changes s) (front_in_scope s d.1) k).0).0))

  pub undotted : is_dotted d.1 ≡ false → None ≡ find (direct_then_rename d) rs
  undotted plain = sym (find_nothing (direct_then_rename d) rs (λ s js k.
      both_ways (is_dotted d.1) plain (and_parts (is_dotted d.1) (in_scope s (front (segments dot d.1))) (and_parts (alters d && changes s) (front_in_scope s d.1) k).1).0))

  pub unfitted : (text : Text) (n : ℕ) → text ≡ d.1 → IsFrontEnd 46 text n → NoneChanging rs (segments 46 (take n text)) → None ≡ find (direct_then_rename d) rs
  unfitted text n is cut none = sym (find_nothing (direct_then_rename d) rs (λ s js k.
      let p = and_parts (alters d && changes s) (front_in_scope s d.1) k in
      let q = and_parts (is_dotted d.1) (in_scope s (front (segments dot d.1))) p.1 in
      let named : is_dotted text ≡ true = subst (λ (w : Text). is_dotted w ≡ true) (sym is) q.0 in
      let at : front (segments 46 text) ≡ segments 46 (take n text) = front_parts 46 is_identifier refl text n named cut in
      none s record {
        there = contained rs s js;
        moves = (and_parts (alters d) (changes s) p.0).1;
        fits = ap (in_scope s) (sym at ∙ ap (λ (w : Text). front (segments 46 w)) is) ∙ q.1;
      }))

scope_same : (b : Bool) (source p : Package) → p ≡ source → covers b source p ≡ true
scope_same true source p e = begins_from p source [] (e ∙ sym (append-nil source))
scope_same false source p e = same_from source p (sym e)

scope_begins : (b : Bool) (source p : Package) → b ≡ true → begins_with p source ≡ true → covers b source p ≡ true
scope_begins true source p h k = k
scope_begins false source p h k = absurd cc

-- a rename that doesn't change leads to no other
pub unmoved : (rs : List Renaming) (r : Renaming) → changes r ≡ false → None ≡ find (rename_then_rename r) rs
unmoved rs r stays = sym (find_nothing (rename_then_rename r) rs (λ s js k.
    both_ways (changes r) stays (and_parts (changes r) (changes s) (and_parts (changes r && changes s) (meets r s) k).0).0))

-- what is in a list, is left and passes a test passes it among what is left
pub any_in : {A : Type 0} (test : A → Bool) (S : A → Bool) (xs : List A) (x : A) → In xs x → S x ≡ true → test x ≡ true → list_any test (filter S xs) ≡ true
any_in test S [] x is k h = absurd is
any_in test S (y ∷ ys) x (inl here) k h =
    ap (λ (b : Bool). list_any test (cond b (y ∷ filter S ys) (filter S ys))) (ap S here ∙ k) ∙ or_left _ _ (ap test here ∙ h)
any_in test S (y ∷ ys) x (inr later) k h = elim (S y) as (λ (b : Bool). list_any test (cond b (y ∷ filter S ys) (filter S ys)) ≡ true) [
  | true ↦ or_right _ _ (any_in test S ys x later k h)
  | false ↦ any_in test S ys x later k h
]

-- the key of a rename whose source lies below a package begins with the package and a dot
pub key_under : (t : Package) → not (is_empty t) ≡ true → (s : Renaming) (y : Text) (ys : Package) → s.source ≡ t ++ y ∷ ys → starts_with ◌==◌ (key_of s) (written dot t ++ 46 ∷ []) ≡ true
key_under [] filled s y ys e = absurd cc
key_under (x ∷ xs) filled s y ys e =
    let end = wanted_tail s.below in
    starts_from (key_of s) (written 46 (x ∷ xs)) (written 46 (y ∷ ys) ++ end)
    (ap (λ (p : Package). written 46 p ++ end) e ∙ ap (λ (t : Text). t ++ end) (written_more 46 x xs y ys) ∙ append_assoc (written 46 (x ∷ xs)) (46 ∷ written 46 (y ∷ ys)) end)

-- nor does one whose target no changing rename fits, and below whose target, where it gives what lies there, none has its source
module _ (rs : List Renaming) (r : Renaming) (formed : is_rename r ≡ true) (none : NoneChanging rs (segments 46 (written 46 r.target))) where
  unfit : (s : Renaming) → In rs s → changes s ≡ true → in_scope s r.target ≡ true → ⊥
  unfit s js moves h =
      let fine = and_parts _ _ (and_parts _ _ formed).1 in
      let at : segments 46 (written 46 r.target) ≡ r.target = segments_written 46 is_identifier (identifier_cuts 46 refl) r.target fine.1 in
      none s record { there = contained rs s js; moves = moves; fits = ap (in_scope s) at ∙ h }

  lower : (s : Renaming) → In rs s → changes s ≡ true → (rest : Package) → s.source ≡ r.target ++ rest → r.below ≡ true → (r.below && list_any changes (filter (λ s. starts_with ◌==◌ (key_of s) (written dot r.target ++ 46 ∷ [])) rs)) ≡ false → ⊥
  lower s js moves [] e deep clear = unfit s js moves (scope_same s.below s.source r.target (sym (e ∙ append-nil r.target)))
  lower s js moves (y ∷ ys) e deep clear =
      let fine = and_parts _ _ (and_parts _ _ formed).1 in
      both_ways _ clear (and_from _ _ deep (any_in changes (λ (s : Renaming). starts_with ◌==◌ (key_of s) (written dot r.target ++ 46 ∷ [])) rs s js (key_under r.target fine.0 s y ys e) moves))

  pub unmet : (r.below && list_any changes (filter (λ s. starts_with ◌==◌ (key_of s) (written dot r.target ++ 46 ∷ [])) rs)) ≡ false → None ≡ find (rename_then_rename r) rs
  unmet clear = sym (find_nothing (rename_then_rename r) rs (λ s js k.
      let p = and_parts (changes r && changes s) (meets r s) k in
      let moves : changes s ≡ true = (and_parts (changes r) (changes s) p.0).1 in
      elim (or_cases _ _ p.1) [
        | inl first ↦ elim (or_cases _ _ first) [
          | inl same ↦ unfit s js moves (scope_same s.below s.source r.target (same_is r.target s.source same))
          | inr deep ↦ let q = and_parts s.below (begins_with r.target s.source) deep in unfit s js moves (scope_begins s.below s.source r.target q.0 q.1)
        ]
        | inr under ↦
            let q = and_parts r.below (begins_with s.source r.target) under in
            lower s js moves (drop (length r.target) s.source) (begins_is s.source r.target q.1) q.0 clear
      ]))

-- ---- strings that are packages

-- a package that is written with dots is a dotted name of its segments
pub package_named : (p : Package) → is_package p ≡ true → (is_dotted (written dot p) ≡ true) × (segments dot (written dot p) ≡ p)
package_named p h =
    let fine = and_parts (not (is_empty p)) (list_all is_identifier p) h in
    let cut : segments 46 (written 46 p) ≡ p = segments_written 46 is_identifier (identifier_cuts 46 refl) p fine.1 in
    (ap (λ (q : Package). not (is_empty q) && list_all is_identifier q) cut ∙ h, cut)

pub package_in_scope : (s : Renaming) (p : Package) → is_package p ≡ true → front_in_scope s (written dot p) ≡ in_scope s (front p)
package_in_scope s p h =
    let at = package_named p h in
    ap (λ (b : Bool). b && in_scope s (front (segments dot (written dot p)))) at.0 ∙ ap (λ (q : Package). in_scope s (front q)) at.1

pub package_in_reach : (r : Renaming) (p : Package) → is_package p ≡ true → front_in_reach r (written dot p) ≡ in_reach r (front p)
package_in_reach r p h =
    let at = package_named p h in
    ap (λ (b : Bool). b && in_reach r (front (segments dot (written dot p)))) at.0 ∙ ap (λ (q : Package). in_reach r (front q)) at.1

pub texts_only : (r : Renaming) (e : Exchange) (t : Text) → t ≡ written dot r.target → package_then_direct r e ≡ true → bytes_eq e.0 t ≡ true
texts_only r e t is k =
    subst (λ (w : Text). bytes_eq e.0 w ≡ true) (sym is) (flipped (written dot r.target) e.0 (and_parts (changes r && alters e) (bytes_eq (written dot r.target) e.0) k).1)

-- a rename that doesn't change, or the front of whose target no changing rename fits, leads to no rename of a name
module _ (rs : List Renaming) (r : Renaming) where
  pub unmoved_package : changes r ≡ false → None ≡ find (package_then_name r) rs
  unmoved_package stays = sym (find_nothing (package_then_name r) rs (λ s js k.
      both_ways (changes r) stays (and_parts (changes r) (changes s) (and_parts (changes r && changes s) (in_scope s (front r.target)) k).0).0))

  pub unfitted_package : is_rename r ≡ true → (text : Text) (n : ℕ) → text ≡ written dot r.target → IsFrontEnd 46 text n → NoneChanging rs (segments 46 (take n text)) → None ≡ find (package_then_name r) rs
  unfitted_package formed text n is cut none = sym (find_nothing (package_then_name r) rs (λ s js k.
      let p = and_parts (changes r && changes s) (in_scope s (front r.target)) k in
      let at = package_named r.target (and_parts _ _ formed).1 in
      let named : is_dotted text ≡ true = ap is_dotted is ∙ at.0 in
      let front_is : front (segments 46 text) ≡ segments 46 (take n text) = front_parts 46 is_identifier refl text n named cut in
      none s record {
        there = contained rs s js;
        moves = (and_parts (changes r) (changes s) p.0).1;
        fits = ap (in_scope s) (sym front_is ∙ ap (λ (w : Text). front (segments 46 w)) is ∙ ap front at.1) ∙ p.1;
      }))

-- the key of a rename whose source has a front that lies below a package begins with the package and a dot
under_more : (t : Package) → not (is_empty t) ≡ true → (s : Renaming) (rest : Package) (x : Text) → s.source ≡ t ++ (rest ++ x ∷ []) → starts_with ◌==◌ (key_of s) (written dot t ++ 46 ∷ []) ≡ true
under_more t filled s [] x e = key_under t filled s x [] e
under_more t filled s (z ∷ zs) x e = key_under t filled s z (zs ++ x ∷ []) e

-- and that of one whose source's front is a package, or lies below it
pub front_under : (t : Package) → not (is_empty t) ≡ true → (s : Renaming) (p : Package) → s.source ≡ p → (rest : Package) → front p ≡ t ++ rest → starts_with ◌==◌ (key_of s) (written dot t ++ 46 ∷ []) ≡ true
front_under [] filled s p e rest covered = absurd cc
front_under (y ∷ ys) filled s [] e rest covered = absurd cc
front_under (y ∷ ys) filled s (x ∷ xs) e rest covered =
    under_more (y ∷ ys) filled s rest (simple (x ∷ xs))
    (e ∙ sym (front_simple (x ∷ xs) refl) ∙ ap (λ (f : Package). f ++ simple (x ∷ xs) ∷ []) covered ∙ append_assoc (y ∷ ys) rest (simple (x ∷ xs) ∷ []))

pub sources_under : (r : Renaming) → is_rename r ≡ true → (s : Renaming) → name_then_package r s ≡ true → starts_with ◌==◌ (key_of s) (written dot r.target ++ 46 ∷ []) ≡ true
sources_under r formed s k =
    let fine = and_parts _ _ (and_parts _ _ formed).1 in
    let reach : in_reach r (front s.source) ≡ true = (and_parts (changes r && changes s) (in_reach r (front s.source)) k).1 in
    front_under r.target fine.0 s s.source refl (drop (length r.target) (front s.source)) (covers_is r.below r.target (front s.source) reach)

-- a direct rule that doesn't change, or gives no dotted name, or one that as a package no changing rename fits, leads to no
-- rename of a package
module _ (rs : List Renaming) (table : IsTable rs) (d : Exchange) where
  given_source : (s : Renaming) → direct_then_package d s ≡ true → d.1 ≡ written dot s.source
  given_source s k = (bytes_eq-Decides d.1 (written dot s.source)).0 (and_parts (alters d && changes s) (bytes_eq d.1 (written dot s.source)) k).1

  source_named : (s : Renaming) → In rs s → (is_dotted (written dot s.source) ≡ true) × (segments dot (written dot s.source) ≡ s.source)
  source_named s js = package_named s.source (and_parts _ _ (all_In is_rename rs s table.formed js)).0

  pub unaltered_package : alters d ≡ false → None ≡ find (direct_then_package d) rs
  unaltered_package stays = sym (find_nothing (direct_then_package d) rs (λ s js k.
      both_ways (alters d) stays (and_parts (alters d) (changes s) (and_parts (alters d && changes s) (bytes_eq d.1 (written dot s.source)) k).0).0))

  pub undotted_package : is_dotted d.1 ≡ false → None ≡ find (direct_then_package d) rs
  undotted_package plain = sym (find_nothing (direct_then_package d) rs (λ s js k.
      both_ways (is_dotted d.1) plain (ap is_dotted (given_source s k) ∙ (source_named s js).0)))

  pub unfitted_direct : (text : Text) → text ≡ d.1 → NoneChanging rs (segments 46 text) → None ≡ find (direct_then_package d) rs
  unfitted_direct text is none = sym (find_nothing (direct_then_package d) rs (λ s js k.
      none s record {
        there = contained rs s js;
        moves = (and_parts (alters d) (changes s) (and_parts (alters d && changes s) (bytes_eq d.1 (written dot s.source)) k).0).1;
        fits = scope_same s.below s.source (segments 46 text) (ap (segments 46) (is ∙ given_source s k) ∙ (source_named s js).1);
      }))

-- the first pair begins with the first item that has a second
pub pair_here : {A B : Type 0} (R : A → B → Bool) (xs : List A) (ys : List B) (i : ℕ) (x : A) (y : B) → i < length xs → x ≡ get_or xs i x → Some y ≡ find (R x) ys → first_pair R (drop i xs) ys ≡ Some (x, y)
pair_here {A} {B} R xs ys i x y within is found =
    ap (λ (l : List A). first_pair R l ys) (drop_more xs i x within ∙ ap (λ (w : A). w ∷ drop (i + 1) xs) (sym is))
    ∙ ap (λ (o : Option B). elim o as (λ (w : Option B). Option (A × B)) [ Some v ↦ Some (x, v) | None ↦ first_pair R (drop (i + 1) xs) ys ]) (sym found)

-- where the first item has none, the first pair stands behind it
pub pair_later : {A B : Type 0} (R : A → B → Bool) (xs : List A) (ys : List B) (i : ℕ) (x : A) → i < length xs → x ≡ get_or xs i x → None ≡ find (R x) ys → first_pair R (drop (i + 1) xs) ys ≡ first_pair R (drop i xs) ys
pair_later {A} {B} R xs ys i x within is none = sym (
    ap (λ (l : List A). first_pair R l ys) (drop_more xs i x within ∙ ap (λ (w : A). w ∷ drop (i + 1) xs) (sym is))
    ∙ ap (λ (o : Option B). elim o as (λ (w : Option B). Option (A × B)) [ Some v ↦ Some (x, v) | None ↦ first_pair R (drop (i + 1) xs) ys ]) (sym none))
