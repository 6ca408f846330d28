-- The image of a manifest is its own image, without a changed header.
use Rattle.std.proofs.Common.{◌≡◌, ℕ, false, true, List, Option, Some, None, Ok, refl, ap, subst, ◌∙◌}
use Rattle.desk_base.specs.Names.{Text}
use Rattle.desk_base.specs.declared.Changed.{Changed}
use Rattle.desk_lines.specs.Lines.{lines}
use Rattle.desk_rules.specs.Rules.{Rules}
use Rattle.desk_rules.specs.RuleSets.{IsRuleSet}
use Rattle.desk_listings.specs.Images.{identity_version}
use Rattle.desk_sections.specs.Sections.{Item, first_bad_line}
use Rattle.desk_manifest.specs.Manifests.{images_of, fold_end, bundle_version, migrated, manifest_by, manifest, ManifestStays, images}
use Rattle.desk_manifest.proofs.Settled.{items_of, Again, image_again}
use Rattle.desk_manifest.proofs.HeaderImages.{images_settled, identities_quiet, names_identity, read_version, version_formed}

module _ (rules : Rules) (is : IsRuleSet rules) (t : Text) where
  abbrev version : Option Text
  version = bundle_version rules (items_of t)

  abbrev image : Changed
  image = migrated (images_of rules version) (fold_end (lines t)) (items_of t)

  stays_where : first_bad_line false 0 (lines t) ≡ None → ManifestStays rules image.bytes
  stays_where good =
      let k : Again (images_of rules version) (images_of rules None) t = image_again (images_of rules version) (images_of rules None) (images_settled rules is version (version_formed rules is (items_of t))) t good in
      let new : List Item = images (images_of rules version) (fold_end (lines t)) true (items_of t) in
      let none : bundle_version rules new ≡ None = read_version rules new ∙ k.quiet names_identity (identity_version rules) (identities_quiet rules is version) in
      ap (manifest_by (images_of rules (bundle_version rules (items_of image.bytes))) (fold_end (lines image.bytes)) (items_of image.bytes)) k.good
      ∙ ap (λ (items : List Item). Ok (migrated (images_of rules (bundle_version rules items)) (fold_end (lines image.bytes)) items)) k.items
      ∙ ap (λ (v : Option Text). Ok (migrated (images_of rules v) (fold_end (lines image.bytes)) new)) none
      ∙ ap (λ (c : Changed). Ok c) (k.stays (fold_end (lines image.bytes)))

  pub manifest_stays : (new : Changed) → manifest rules t ≡ Ok new → ManifestStays rules new.bytes
  manifest_stays new h = elim (first_bad_line false 0 (lines t)) as (λ (o : Option ℕ). first_bad_line false 0 (lines t) ≡ o → manifest_by (images_of rules version) (fold_end (lines t)) (items_of t) o ≡ Ok new → ManifestStays rules new.bytes) [
    | Some at ↦ λ e q. absurd cc
    | None ↦ λ e q. let same : image ≡ new = cc in subst (λ (c : Changed). ManifestStays rules c.bytes) same (stays_where e)
  ] refl h
