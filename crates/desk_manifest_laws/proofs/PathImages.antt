-- Images of paths of clauses: plain texts, which no rule changes again.
use Rattle.std.proofs.Common.{◌≡◌, ℕ, ◌-◌, ◌+◌, Bool, true, false, cond, not, ◌&&◌, ◌==◌, List, [], ◌∷◌, ◌++◌, length, take, drop, Option, Some, None, refl, ap, sym, subst, ◌∙◌, inl, inr, append-nil, arith, length-append, take_all, drop_of_length-le, le_refl}
use Rattle.std.specs.Prelude.{codes, option_map}
use Rattle.std.specs.List.{list_all, ends_with}
use Rattle.std.specs.Str.{bytes_eq}
use Rattle.std.specs.FinMap as finite
use Rattle.std.proofs.lemmas.Bool.{cases_Bool, and_parts, and_from, both_ways, not-true, false_from_ne_true}
use Rattle.std.proofs.lemmas.List.{take_at, drop_at}
use Rattle.std.proofs.lemmas.List.Folds.{list_all-append}
use Rattle.std.proofs.lemmas.Slice.Eq.{bytes_eq-Decides, ends_is}
use Rattle.std.proofs.lemmas.Bool.Decides.{Decides-eqb}
use Rattle.desk_base.specs.Names.{Text, Package, segments, written, dot, is_dotted, is_empty, is_identifier, is_identifier_byte}
use Rattle.desk_base.proofs.Lists.{all_weaker}
use Rattle.desk_packages.specs.Renames.{Renaming, pkg}
use Rattle.desk_packages.proofs.Cuts.{segments_written}
use Rattle.desk_packages.proofs.FilledImages.{pkg_filled}
use Rattle.desk_entries.specs.Forms.{is_symbolic_name, is_symbolic_byte}
use Rattle.desk_rules.specs.Rules.{Rules, Update, Versions}
use Rattle.desk_rules.specs.RuleSets.{IsRuleSet, AreVersions, IsVersionOrNone, IsUpdate, version_of, changing_update, only_other_name}
use Rattle.desk_rules.proofs.Forms.{pkg_all}
use Rattle.desk_rules.proofs.DottedBytes.{dotted_bytes, dotted_filled}
use Rattle.desk_rules.proofs.Laws.{packages_stay, bundles_stay, dotted_parts}
use Rattle.desk_listings.specs.Images.{package_image, package_length, package_path_by, package_path, changed_version, package_version_by, package_version, updated_name, updated_version, path_image, path_version}
use Rattle.desk_listings.specs.declared.listings.Listing.{Listing}
use Rattle.desk_listings.specs.declared.listings.Listing.TheVariants.{Imports, Exports, Identity, Bundles}
use Rattle.desk_manifest_laws.proofs.Plain.{is_plain, identifier_plain, symbolic_plain, no_byte}

-- ---- packages

-- the image of a dotted name, as a package
pub record PackageImage (renames : List Renaming) (name : Text) : Type 0 where
  pub named : is_dotted (package_image renames name) ≡ true
  pub again : package_image renames (package_image renames name) ≡ package_image renames name

pub package_kept : (rules : Rules) → IsRuleSet rules → (name : Text) → is_dotted name ≡ true → PackageImage rules.renames name
package_kept rules is name named =
    let old = and_parts _ _ named in
    let all : list_all is_identifier (pkg rules.renames (segments dot name)) ≡ true = pkg_all is_identifier (λ t h. h) rules.renames is.formed (segments dot name) old.1 in
    let cut : segments dot (package_image rules.renames name) ≡ pkg rules.renames (segments dot name) = segments_written dot is_identifier dotted_parts.cuts (pkg rules.renames (segments dot name)) all in
    record {
      named = ap (λ (p : Package). not (is_empty p) && list_all is_identifier p) cut ∙ and_from _ _ (pkg_filled rules.renames is.formed (segments dot name) old.0) all;
      again = ap (λ (p : Package). written dot (pkg rules.renames p)) cut ∙ ap (written dot) (packages_stay rules is (segments dot name));
    }

pub dotted_plain : (name : Text) → is_dotted name ≡ true → list_all is_plain name ≡ true
dotted_plain = dotted_bytes is_plain refl identifier_plain

abbrev star : Text
star = 46 ∷ 42 ∷ []

-- no dotted name ends in `.*`
no_star : (d : Text) → is_dotted (d ++ star) ≡ false
no_star d = false_from_ne_true (is_dotted (d ++ star)) (λ (h : is_dotted (d ++ star) ≡ true).
    let all : list_all (λ b. not (b == 42)) (d ++ star) ≡ true = dotted_bytes (λ b. not (b == 42)) refl (λ b k. no_byte is_identifier_byte 42 refl b k) (d ++ star) h in
    both_ways (list_all (λ b. not (b == 42)) star) refl (and_parts _ _ (sym (list_all-append (λ b. not (b == 42)) d star) ∙ all)).1)

-- a text that is a dotted name, or one with `.*` behind it, or neither
data Form (path : Text) : Type 0 where
  as_name : is_dotted path ≡ true → Form path
  as_below : (d : Text) → path ≡ d ++ star → is_dotted d ≡ true → Form path
  as_other : package_length path ≡ None → Form path

length_name : (path : Text) → is_dotted path ≡ true → package_length path ≡ Some (length path)
length_name path h = ap (λ (c : Bool). cond c (Some (length path)) (cond (ends_with ◌==◌ path (codes ".*") && is_dotted (take (length path - 2) path)) (Some (length path - 2)) None)) h

two_less : (d : Text) → length (d ++ star) - 2 ≡ length d
two_less d = let size : length (d ++ star) ≡ length d + 2 = length-append d star in omega (arith, size)

length_below : (d : Text) → is_dotted d ≡ true → package_length (d ++ star) ≡ Some (length d)
length_below d h =
    let front : take (length (d ++ star) - 2) (d ++ star) ≡ d = ap (λ (n : ℕ). take n (d ++ star)) (two_less d) ∙ take_at d star (length d) refl in
    ap (λ (c : Bool). cond c (Some (length (d ++ star))) (cond (ends_with ◌==◌ (d ++ star) (codes ".*") && is_dotted (take (length (d ++ star) - 2) (d ++ star))) (Some (length (d ++ star) - 2)) None)) (no_star d)
    ∙ ap (λ (c : Bool). cond c (Some (length (d ++ star) - 2)) None)
    (and_from _ _ ((ends_is Decides-eqb (d ++ star) star (ends_with ◌==◌ (d ++ star) star) refl).1 d refl) (ap is_dotted front ∙ h))
    ∙ ap (λ (n : ℕ). Some n) (two_less d)

form_of : (path : Text) → Form path
form_of path = elim (cases_Bool (is_dotted path)) [
  | inl h ↦ as_name h
  | inr h ↦ elim (cases_Bool (ends_with ◌==◌ path (codes ".*") && is_dotted (take (length path - 2) path))) [
    | inl g ↦ as_below (take (length path - 2) path) ((ends_is Decides-eqb path star (ends_with ◌==◌ path star) refl).0 (and_parts _ _ g).0) (and_parts _ _ g).1
    | inr g ↦ as_other (
        ap (λ (c : Bool). cond c (Some (length path)) (cond (ends_with ◌==◌ path (codes ".*") && is_dotted (take (length path - 2) path)) (Some (length path - 2)) None)) h
        ∙ ap (λ (c : Bool). cond c (Some (length path - 2)) None) g
        )
  ]
]

path_by_name : (renames : List Renaming) (d : Text) → is_dotted d ≡ true → package_path renames d ≡ package_image renames d
path_by_name renames d h =
    ap (package_path_by renames d) (length_name d h)
    ∙ ap (λ (t : Text). package_image renames t ++ drop (length d) d) (take_all (length d) d (le_refl (length d)))
    ∙ ap (λ (t : Text). package_image renames d ++ t) (drop_of_length-le d (le_refl (length d)))
    ∙ append-nil (package_image renames d)

path_by_below : (renames : List Renaming) (d : Text) → is_dotted d ≡ true → package_path renames (d ++ star) ≡ package_image renames d ++ star
path_by_below renames d h =
    ap (package_path_by renames (d ++ star)) (length_below d h)
    ∙ ap (λ (t : Text). package_image renames t ++ drop (length d) (d ++ star)) (take_at d star (length d) refl)
    ∙ ap (λ (t : Text). package_image renames d ++ t) (drop_at d star (length d) refl)

no_version : (rules : Rules) (exporting : Bool) (d : Text) → package_image rules.renames d ≡ d → changed_version rules exporting d ≡ None
no_version rules exporting d h =
    ap (λ (c : Bool). cond c None (version_of rules.versions (package_image rules.renames d) exporting)) ((bytes_eq-Decides (package_image rules.renames d) d).1 h)

version_by_name : (rules : Rules) (exporting : Bool) (d : Text) → is_dotted d ≡ true → package_image rules.renames d ≡ d → package_version rules exporting d ≡ None
version_by_name rules exporting d h same =
    ap (package_version_by rules exporting d) (length_name d h)
    ∙ ap (changed_version rules exporting) (take_all (length d) d (le_refl (length d)))
    ∙ no_version rules exporting d same

version_by_below : (rules : Rules) (exporting : Bool) (d : Text) → is_dotted d ≡ true → package_image rules.renames d ≡ d → package_version rules exporting (d ++ star) ≡ None
version_by_below rules exporting d h same =
    ap (package_version_by rules exporting (d ++ star)) (length_below d h)
    ∙ ap (changed_version rules exporting) (take_at d star (length d) refl)
    ∙ no_version rules exporting d same

-- ---- paths

-- an image of a path is the path itself, or a plain text
pub data Either (path new : Text) : Type 0 where
  kept_same : new ≡ path → Either path new
  made_plain : list_all is_plain new ≡ true → is_empty new ≡ false → Either path new

-- what is kept of the image of a path
pub record PathKept (image : Text → Text) (version : Text → Option Text) (path : Text) : Type 0 where
  pub again : image (image path) ≡ image path
  pub quiet : version (image path) ≡ None
  pub either : Either path (image path)

star_plain : (d : Text) → list_all is_plain d ≡ true → (list_all is_plain (d ++ star) ≡ true) × (is_empty (d ++ star) ≡ false)
star_plain d h = (list_all-append is_plain d star ∙ and_from _ _ h refl, filled d)
  where
    filled : (t : Text) → is_empty (t ++ star) ≡ false
    filled [] = refl
    filled (b ∷ t) = refl

kept_from : (image : Text → Text) (version : Text → Option Text) (path new : Text) → image path ≡ new → image new ≡ new → version new ≡ None → Either path new → PathKept image version path
kept_from image version path new is again quiet either = record {
  again = ap image is ∙ again ∙ sym is;
  quiet = ap version is ∙ quiet;
  either = subst (Either path) (sym is) either;
}

package_path_kept : (rules : Rules) → IsRuleSet rules → (exporting : Bool) (path : Text) → PathKept (package_path rules.renames) (package_version rules exporting) path
package_path_kept rules is exporting path = elim (form_of path) [
  | as_name h ↦
      let k = package_kept rules is path h in
      kept_from (package_path rules.renames) (package_version rules exporting) path (package_image rules.renames path) (path_by_name rules.renames path h)
      (path_by_name rules.renames (package_image rules.renames path) k.named ∙ k.again) (version_by_name rules exporting (package_image rules.renames path) k.named k.again)
      (made_plain (dotted_plain (package_image rules.renames path) k.named) (dotted_filled (package_image rules.renames path) k.named))
  | as_below d e h ↦
      let k = package_kept rules is d h in
      let new = package_image rules.renames d in
      let fine = star_plain new (dotted_plain new k.named) in
      kept_from (package_path rules.renames) (package_version rules exporting) path (new ++ star) (ap (package_path rules.renames) e ∙ path_by_below rules.renames d h)
      (path_by_below rules.renames new k.named ∙ ap (λ (t : Text). t ++ star) k.again) (version_by_below rules exporting new k.named k.again)
      (made_plain fine.0 fine.1)
  | as_other h ↦
      kept_from (package_path rules.renames) (package_version rules exporting) path path (ap (package_path_by rules.renames path) h) (ap (package_path_by rules.renames path) h) (ap (package_version_by rules exporting path) h) (kept_same refl)
]

-- ---- bundles

found_update : (name : Text) (o : Option Update) (u : Update) → only_other_name name o ≡ Some u → o ≡ Some u
found_update name None u h = absurd cc
found_update name (Some w) u h = elim (bytes_eq name w.name) as (λ (b : Bool). cond b None (Some w) ≡ Some u → ◌≡◌ {A = Option Update} (Some w) (Some u)) [
  | true ↦ λ k. absurd cc
  | false ↦ λ k. k
] h

-- an update that is found has its form
pub update_formed : (rules : Rules) → IsRuleSet rules → (name : Text) (u : Update) → changing_update rules.bundles name ≡ Some u → IsUpdate u
update_formed rules is name u h = is.updated name u (found_update name (finite.get rules.bundles name) u h)

filled_name : (t : Text) → is_symbolic_name t ≡ true → is_empty t ≡ false
filled_name t h = not-true (is_empty t) (and_parts _ _ h).0

symbolic_all : (t : Text) → is_symbolic_name t ≡ true → list_all is_plain t ≡ true
symbolic_all t h = all_weaker is_symbolic_byte is_plain symbolic_plain t (and_parts _ _ h).1

-- what becomes of a bundle's name
abbrev pub new_name : Rules → Text → Text
new_name rules path = updated_name path (changing_update rules.bundles path)

abbrev pub new_version : Rules → Text → Option Text
new_version rules path = updated_version (changing_update rules.bundles path)

bundle_kept : (rules : Rules) → IsRuleSet rules → (path : Text) → PathKept (new_name rules) (new_version rules) path
bundle_kept rules is path = elim (changing_update rules.bundles path) as (λ (o : Option Update). changing_update rules.bundles path ≡ o → PathKept (new_name rules) (new_version rules) path) [
  | None ↦ λ q. kept_from (new_name rules) (new_version rules) path path (ap (updated_name path) q) (ap (updated_name path) q) (ap updated_version q) (kept_same refl)
  | Some u ↦ λ q.
      let stays : changing_update rules.bundles u.name ≡ None = bundles_stay rules is path u q in
      let formed : IsUpdate u = update_formed rules is path u q in
      kept_from (new_name rules) (new_version rules) path u.name (ap (updated_name path) q) (ap (updated_name u.name) stays) (ap updated_version stays) (made_plain (symbolic_all u.name formed.named) (filled_name u.name formed.named))
] refl

pub path_kept : (rules : Rules) → IsRuleSet rules → (listing : Listing) (path : Text) → PathKept (path_image rules listing) (path_version rules listing) path
path_kept rules is Imports path = package_path_kept rules is false path
path_kept rules is Exports path = package_path_kept rules is true path
path_kept rules is Identity path = let k = bundle_kept rules is path in record { again = k.again; quiet = refl; either = k.either }
path_kept rules is Bundles path = bundle_kept rules is path

-- ---- versions

one_of : (exporting : Bool) (o : Option Versions) → ((v : Versions) → o ≡ Some v → AreVersions v) → IsVersionOrNone (option_map (λ (v : Versions). cond exporting v.exported v.imported) o)
one_of exporting None h = tt
one_of true (Some v) h = (h v refl).exported
one_of false (Some v) h = (h v refl).imported

changed_formed : (rules : Rules) → IsRuleSet rules → (exporting : Bool) (name : Text) → IsVersionOrNone (changed_version rules exporting name)
changed_formed rules is exporting name = elim (bytes_eq (package_image rules.renames name) name) as (λ (c : Bool). IsVersionOrNone (cond c None (version_of rules.versions (package_image rules.renames name) exporting))) [
  | true ↦ tt
  | false ↦ one_of exporting (finite.get rules.versions (package_image rules.renames name)) (is.versioned (package_image rules.renames name))
]

package_version_formed : (rules : Rules) → IsRuleSet rules → (exporting : Bool) (path : Text) (o : Option ℕ) → IsVersionOrNone (package_version_by rules exporting path o)
package_version_formed rules is exporting path None = tt
package_version_formed rules is exporting path (Some n) = changed_formed rules is exporting (take n path)

update_version_formed : (o : Option Update) → ((u : Update) → o ≡ Some u → IsUpdate u) → IsVersionOrNone (updated_version o)
update_version_formed None h = tt
update_version_formed (Some u) h = (h u refl).versioned

pub new_version_formed : (rules : Rules) → IsRuleSet rules → (path : Text) → IsVersionOrNone (new_version rules path)
new_version_formed rules is path = update_version_formed (changing_update rules.bundles path) (λ u q. update_formed rules is path u q)

-- a version that comes with a path is one
pub path_version_formed : (rules : Rules) → IsRuleSet rules → (listing : Listing) (path : Text) → IsVersionOrNone (path_version rules listing path)
path_version_formed rules is Imports path = package_version_formed rules is false path (package_length path)
path_version_formed rules is Exports path = package_version_formed rules is true path (package_length path)
path_version_formed rules is Identity path = tt
path_version_formed rules is Bundles path = new_version_formed rules is path
