-- Images of the values of headers are kept by the images of a manifest that is read again.
use Rattle.std.proofs.Common.{◌≡◌, ◌≤◌, Bool, true, false, cond, ◌||◌, List, [], ◌∷◌, map, length, Option, Some, None, refl, ap, sym, ◌∙◌, inl, inr, arith}
use Rattle.std.proofs.lemmas.List.{length-map}
use Rattle.std.specs.Prelude.{codes}
use Rattle.std.specs.Str.{bytes_eq}
use Rattle.std.specs.Char.{to_ascii_lowercase}
use Rattle.std.proofs.lemmas.Slice.Eq.{bytes_eq-Decides}
use Rattle.std.proofs.lemmas.Bool.{cases_Bool, or_cases, both_ways}
use Rattle.desk_base.specs.Names.{Text, is_dotted}
use Rattle.desk_base.proofs.Lists.{all_weaker}
use Rattle.desk_lines.specs.Lines.{is_one_line}
use Rattle.desk_lines.specs.Cuts.{stops}
use Rattle.desk_lines.specs.Blanks.{not_blank, trimmed_end, trimmed}
use Rattle.desk_lines.proofs.Trimming.{is_trimmed}
use Rattle.desk_sections.specs.Folding.{begins_character}
use Rattle.desk_sections.specs.Sections.{Item, section_end, header, name_of, value_of}
use Rattle.desk_rules.specs.Rules.{Rules}
use Rattle.desk_rules.specs.RuleSets.{IsRuleSet, IsVersionOrNone, changing_update}
use Rattle.desk_rules.specs.Images.{dotted}
use Rattle.desk_rules.proofs.Laws.{dotted_stay, dotted_keep_form}
use Rattle.desk_paths.specs.Paths.{renamed_path}
use Rattle.desk_clauses.specs.Grammar.{between_blanks, is_in_grammar, first_path}
use Rattle.desk_listings.specs.Images.{listing_image, updated_version, identity_version}
use Rattle.desk_listings.specs.declared.listings.Listing.TheVariants.{Imports, Exports, Identity, Bundles}
use Rattle.desk_manifest_laws.proofs.Trimmed.{trimmed-between, between_again, unblank_trimmed}
use Rattle.desk_manifest_laws.proofs.Plain.{is_plain, plain_unblank}
use Rattle.desk_manifest_laws.proofs.PathImages.{dotted_plain, new_version_formed}
use Rattle.desk_manifest_laws.proofs.Listings.{listing_again, identity_quiet}
use Rattle.desk_manifest_laws.proofs.Spaced.{listing_spaced, identity_spaced, cond_onto}
use Rattle.desk_manifest_laws.proofs.Flat.{listing_flat, flat_between, flat_trimmed, version_flat}
use Rattle.desk_manifest_laws.proofs.SpacedPaths.{path_again, path_flat, path_spaced, dotted_flat}
use Rattle.desk_manifest.specs.declared.kinds.HeaderKind.{HeaderKind}
use Rattle.desk_manifest.specs.declared.kinds.HeaderKind.TheVariants as kinds
use Rattle.desk_manifest.specs.Headers.{is_named, names_class, names_imports, names_bundles, main_kind, kind_of_header, has_tab, class_value, value_image}
use Rattle.desk_manifest.specs.Manifests.{images_of, bundle_version}
use Rattle.desk_manifest.proofs.Settled.{IsSettled, first_read, IsQuiet}

-- ---- names of classes

module _ (rules : Rules) (is : IsRuleSet rules) where
  name_trimmed : (t : Text) → stops not_blank t ≡ true → trimmed_end t ≡ t → (stops not_blank (dotted rules.renames t) ≡ true) × (trimmed_end (dotted rules.renames t) ≡ dotted rules.renames t)
  name_trimmed t b e = elim (cases_Bool (is_dotted t)) [
    | inl named ↦ unblank_trimmed (dotted rules.renames t) (all_weaker is_plain not_blank plain_unblank (dotted rules.renames t) (dotted_plain (dotted rules.renames t) (dotted_keep_form rules is t named).named))
    | inr other ↦ rw other (b, e)
  ]

  class_again : (value : Text) → class_value rules (class_value rules value) ≡ class_value rules value
  class_again value = elim (has_tab value) as (λ (c : Bool). has_tab value ≡ c → class_value rules (cond c value (between_blanks (dotted rules.renames (trimmed value)) value)) ≡ cond c value (between_blanks (dotted rules.renames (trimmed value)) value)) [
    | true ↦ λ e. ap (λ (c : Bool). cond c value (between_blanks (dotted rules.renames (trimmed value)) value)) e
    | false ↦ λ e.
        let k = is_trimmed value in
        let x : Text = dotted rules.renames (trimmed value) in
        let new : Text = between_blanks x value in
        let t = name_trimmed (trimmed value) k.begins k.ends in
        either (has_tab new) new (between_blanks (dotted rules.renames (trimmed new)) new)
        (ap (λ (y : Text). between_blanks (dotted rules.renames y) new) (trimmed-between x value t.0 t.1) ∙ ap (λ (y : Text). between_blanks y new) (dotted_stay rules is (trimmed value)) ∙ between_again x value t.0 t.1)
  ] refl
    where
      either : (c : Bool) (x y : Text) → y ≡ x → cond c x y ≡ x
      either true x y e = refl
      either false x y e = e

  class_spaced : (value : Text) → class_value rules (32 ∷ value) ≡ 32 ∷ class_value rules value
  class_spaced value = cond_onto (has_tab value) value (between_blanks (dotted rules.renames (trimmed value)) value)

  class_flat : (value : Text) → is_one_line value ≡ true → is_one_line (class_value rules value) ≡ true
  class_flat value h = elim (has_tab value) as (λ (c : Bool). is_one_line (cond c value (between_blanks (dotted rules.renames (trimmed value)) value)) ≡ true) [
    | true ↦ h
    | false ↦ flat_between (dotted rules.renames (trimmed value)) value (dotted_flat rules is (trimmed value) (flat_trimmed value h))
  ]

  -- ---- values by their kinds

  kind_flat : (version : Option Text) → IsVersionOrNone version → (kind : HeaderKind) (value : Text) → is_one_line value ≡ true → is_one_line (value_image rules version kind value) ≡ true
  kind_flat version v kinds.ClassName value h = class_flat value h
  kind_flat version v (kinds.Listed listing) value h = listing_flat rules is listing value h
  kind_flat None v kinds.BundleVersion value h = h
  kind_flat (Some version) v kinds.BundleVersion value h = version_flat version v
  kind_flat version v kinds.Path value h = path_flat rules is value h
  kind_flat version v kinds.Other value h = h

  kind_again : (version : Option Text) (kind : HeaderKind) (value : Text) → value_image rules None kind (value_image rules version kind value) ≡ value_image rules version kind value
  kind_again version kinds.ClassName value = class_again value
  kind_again version (kinds.Listed listing) value = listing_again rules is listing value
  kind_again version kinds.BundleVersion value = refl
  kind_again version kinds.Path value = path_again rules is value
  kind_again version kinds.Other value = refl

  kind_spaced : (version : Option Text) (kind : HeaderKind) (value : Text) → begins_character (value_image rules version kind value) ≡ false → value_image rules None kind (32 ∷ value_image rules version kind value) ≡ 32 ∷ value_image rules version kind value
  kind_spaced version kinds.ClassName value h = class_spaced (class_value rules value) ∙ ap (λ (t : Text). 32 ∷ t) (class_again value)
  kind_spaced version (kinds.Listed listing) value h = listing_spaced rules listing (listing_image rules listing value) ∙ ap (λ (t : Text). 32 ∷ t) (listing_again rules is listing value)
  kind_spaced version kinds.BundleVersion value h = refl
  kind_spaced version kinds.Path value h = path_spaced rules.renames is.formed (renamed_path rules.renames value) h (path_again rules is value)
  kind_spaced version kinds.Other value h = refl

-- ---- names of headers

named_length : (name other : Text) → is_named name other ≡ true → length name ≡ length other
named_length name other h =
    sym (length-map name to_ascii_lowercase) ∙ ap length ((bytes_eq-Decides (map to_ascii_lowercase name) (map to_ascii_lowercase other)).0 h) ∙ length-map other to_ascii_lowercase

-- a name is short, or its header stays
data Short (name : Text) (kind : HeaderKind) : Type 0 where
  short : length name ≤ 70 → Short name kind
  stays : kind ≡ kinds.Other → Short name kind

short_cond : (name : Text) (c : Bool) (x y : HeaderKind) → (c ≡ true → length name ≤ 70) → Short name y → Short name (cond c x y)
short_cond name true x y h s = short (h refl)
short_cond name false x y h s = s

short_name : (name other : Text) → length other ≤ 70 → is_named name other ≡ true → length name ≤ 70
short_name name other h e = omega (arith, named_length name other e, h)

short_or : (name : Text) (c d : Bool) → (c ≡ true → length name ≤ 70) → (d ≡ true → length name ≤ 70) → (c || d) ≡ true → length name ≤ 70
short_or name c d h g e = elim (or_cases c d e) [ inl k ↦ h k | inr k ↦ g k ]

short_main : (name : Text) → Short name (main_kind name)
short_main name =
    short_cond name (names_class name) _ _
    (short_or name _ _ (short_name name (codes "Main-Class") (omega arith)) (short_or name _ _ (short_name name (codes "Premain-Class") (omega arith)) (short_or name _ _ (short_name name (codes "Agent-Class") (omega arith))
    (short_or name _ _ (short_name name (codes "Launcher-Agent-Class") (omega arith)) (short_name name (codes "Bundle-Activator") (omega arith))))))
    (short_cond name (names_imports name) _ _ (short_or name _ _ (short_name name (codes "Import-Package") (omega arith)) (short_name name (codes "DynamicImport-Package") (omega arith)))
    (short_cond name (is_named name (codes "Export-Package")) _ _ (short_name name (codes "Export-Package") (omega arith))
    (short_cond name (is_named name (codes "Bundle-SymbolicName")) _ _ (short_name name (codes "Bundle-SymbolicName") (omega arith))
    (short_cond name (names_bundles name) _ _ (short_or name _ _ (short_name name (codes "Require-Bundle") (omega arith)) (short_name name (codes "Fragment-Host") (omega arith)))
    (short_cond name (is_named name (codes "Bundle-Version")) _ _ (short_name name (codes "Bundle-Version") (omega arith)) (stays refl))))))

short_kind : (main : Bool) (name : Text) → Short name (kind_of_header main name)
short_kind true name = short_main name
short_kind false name = short_cond name (is_named name (codes "Name")) kinds.Path kinds.Other (short_name name (codes "Name") (omega arith)) (stays refl)

short_changed : (rules : Rules) (version : Option Text) (kind : HeaderKind) (name value : Text) → Short name kind → bytes_eq (value_image rules version kind value) value ≡ false → length name ≤ 70
short_changed rules version kind name value (short h) e = h
short_changed rules version kind name value (stays k) e = absurd (both_ways (bytes_eq (value_image rules version kind value) value) e ((bytes_eq-Decides (value_image rules version kind value) value).1 (ap (λ (x : HeaderKind). value_image rules version x value) k)))

-- the images of a manifest are kept by those without a new version
pub images_settled : (rules : Rules) → IsRuleSet rules → (version : Option Text) → IsVersionOrNone version → IsSettled (images_of rules version) (images_of rules None)
images_settled rules is version v = record {
  flat = λ main name value h. kind_flat rules is version v (kind_of_header main name) value h;
  short = λ main name value e. short_changed rules version (kind_of_header main name) name value (short_kind main name) e;
  again = λ main name value. kind_again rules is version (kind_of_header main name) value;
  spaced = λ main name value h. kind_spaced rules is version (kind_of_header main name) value h;
}

-- ---- the bundle's version

-- the kind by the name in small letters
abbrev kind_by : Text → HeaderKind
kind_by small =
    cond (bytes_eq small (map to_ascii_lowercase (codes "Main-Class")) || (bytes_eq small (map to_ascii_lowercase (codes "Premain-Class")) || (bytes_eq small (map to_ascii_lowercase (codes "Agent-Class")) || (bytes_eq small (map to_ascii_lowercase (codes "Launcher-Agent-Class")) || bytes_eq small (map to_ascii_lowercase (codes "Bundle-Activator")))))) kinds.ClassName
    (cond (bytes_eq small (map to_ascii_lowercase (codes "Import-Package")) || bytes_eq small (map to_ascii_lowercase (codes "DynamicImport-Package"))) (kinds.Listed Imports)
    (cond (bytes_eq small (map to_ascii_lowercase (codes "Export-Package"))) (kinds.Listed Exports)
    (cond (bytes_eq small (map to_ascii_lowercase (codes "Bundle-SymbolicName"))) (kinds.Listed Identity)
    (cond (bytes_eq small (map to_ascii_lowercase (codes "Require-Bundle")) || bytes_eq small (map to_ascii_lowercase (codes "Fragment-Host"))) (kinds.Listed Bundles)
    (cond (bytes_eq small (map to_ascii_lowercase (codes "Bundle-Version"))) kinds.BundleVersion kinds.Other)))))

identity_kind : (name : Text) → is_named name (codes "Bundle-SymbolicName") ≡ true → main_kind name ≡ kinds.Listed Identity
identity_kind name h = ap kind_by ((bytes_eq-Decides (map to_ascii_lowercase name) (map to_ascii_lowercase (codes "Bundle-SymbolicName"))).0 h)

abbrev pub names_identity : Text → Bool
names_identity name = is_named name (codes "Bundle-SymbolicName")

-- no image of a Bundle-SymbolicName has a new version
pub identities_quiet : (rules : Rules) → IsRuleSet rules → (version : Option Text) → IsQuiet (images_of rules version) names_identity (identity_version rules)
identities_quiet rules is version name value h =
    let at : images_of rules version true name value ≡ listing_image rules Identity value = ap (λ (kind : HeaderKind). value_image rules version kind value) (identity_kind name h) in (
      ap (identity_version rules) at ∙ identity_quiet rules is value,
      ap (λ (t : Text). identity_version rules (32 ∷ t)) at ∙ identity_spaced rules (listing_image rules Identity value) ∙ identity_quiet rules is value,
    )

pub read_version : (rules : Rules) (items : List Item) → bundle_version rules items ≡ first_read names_identity (identity_version rules) items
read_version rules [] = refl
read_version rules (section_end end ∷ items) = refl
read_version rules (header ls ∷ items) = ap (λ (v : Option Text). cond (is_named (name_of ls) (codes "Bundle-SymbolicName")) (identity_version rules (value_of ls)) v) (read_version rules items)

identity_formed : (rules : Rules) → IsRuleSet rules → (value : Text) → IsVersionOrNone (identity_version rules value)
identity_formed rules is value = elim (is_in_grammar value) as (λ (c : Bool). IsVersionOrNone (cond c (updated_version (changing_update rules.bundles (first_path value))) None)) [
  | true ↦ new_version_formed rules is (first_path value)
  | false ↦ tt
]

-- the new version of the bundle is one
pub version_formed : (rules : Rules) → IsRuleSet rules → (items : List Item) → IsVersionOrNone (bundle_version rules items)
version_formed rules is [] = tt
version_formed rules is (section_end end ∷ items) = tt
version_formed rules is (header ls ∷ items) = elim (is_named (name_of ls) (codes "Bundle-SymbolicName")) as (λ (c : Bool). IsVersionOrNone (cond c (identity_version rules (value_of ls)) (bundle_version rules items))) [
  | true ↦ identity_formed rules is (value_of ls)
  | false ↦ version_formed rules is items
]
