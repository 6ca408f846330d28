-- What follows each step of a build.
use Rattle.std.proofs.Common.{◌≡◌, List, Result, Ok, ◌∙◌}
use Rattle.desk_base.specs.Names.{Text}
use Rattle.desk_patterns.specs.Selections.{Choice}
use Rattle.desk_patterns.specs.PatternTexts.{PatternText}
use Rattle.desk_rules.specs.Files.{Files, versions_name, bundles_name, direct_name, selection_name}
use Rattle.desk_packages.specs.Renames.{Renaming}
use Rattle.desk_rules.specs.Rules.{Rules, Versions}
use Rattle.desk_entries.specs.Exchanges.{Exchange, BundleUpdate}
use Rattle.desk_rules.specs.RuleSets.{rules_of}
use Rattle.desk_rules.specs.Reads.{◌>>=◌, all_in, versions_entry, update_entry, direct_entry, selection_entry, renames_in, settled}
use Rattle.desk_rules.specs.TextFiles.{texts_in}
use Rattle.desk_rules.specs.RuleFiles.{rules_of_files}
use Rattle.desk_rules.specs.Builds.{IsFaultOf}
use Rattle.desk_rules.specs.declared.RuleFault.{RuleFault}
use Rattle.desk_rules.specs.declared.BuildFault.{BuildFault}
use Rattle.desk_rules.proofs.Faults.{fault_first, fault_next, ok_next}

module _ (files : Files) where
  abbrev after_selection : List Renaming → List (Text × Versions) → List BundleUpdate → List Exchange → List Choice → Result Rules RuleFault
  after_selection renames versions bundles direct selection = texts_in files >>= (λ (texts : List PatternText). settled (rules_of renames versions bundles direct selection texts))

  abbrev after_direct : List Renaming → List (Text × Versions) → List BundleUpdate → List Exchange → Result Rules RuleFault
  after_direct renames versions bundles direct = all_in files selection_name selection_entry >>= after_selection renames versions bundles direct

  abbrev after_bundles : List Renaming → List (Text × Versions) → List BundleUpdate → Result Rules RuleFault
  after_bundles renames versions bundles = all_in files direct_name direct_entry >>= after_direct renames versions bundles

  abbrev after_versions : List Renaming → List (Text × Versions) → Result Rules RuleFault
  after_versions renames versions = all_in files bundles_name update_entry >>= after_bundles renames versions

  abbrev after_renames : List Renaming → Result Rules RuleFault
  after_renames renames = all_in files versions_name versions_entry >>= after_versions renames

  module _ (renames : List Renaming) (read_renames : renames_in files ≡ Ok renames) where
    pub versions_refused : (e : BuildFault) → IsFaultOf (all_in files versions_name versions_entry) e → IsFaultOf (rules_of_files files) e
    versions_refused e h = (fault_next (renames_in files) renames after_renames e read_renames (fault_first (all_in files versions_name versions_entry) (after_versions renames) e h))

    module _ (versions : List (Text × Versions)) (read_versions : all_in files versions_name versions_entry ≡ Ok versions) where
      pub bundles_refused : (e : BuildFault) → IsFaultOf (all_in files bundles_name update_entry) e → IsFaultOf (rules_of_files files) e
      bundles_refused e h = (fault_next (renames_in files) renames after_renames e read_renames (fault_next (all_in files versions_name versions_entry) versions (after_versions renames) e read_versions (fault_first (all_in files bundles_name update_entry) (after_bundles renames versions) e h)))

      module _ (bundles : List BundleUpdate) (read_bundles : all_in files bundles_name update_entry ≡ Ok bundles) where
        pub direct_refused : (e : BuildFault) → IsFaultOf (all_in files direct_name direct_entry) e → IsFaultOf (rules_of_files files) e
        direct_refused e h = (fault_next (renames_in files) renames after_renames e read_renames (fault_next (all_in files versions_name versions_entry) versions (after_versions renames) e read_versions (fault_next (all_in files bundles_name update_entry) bundles (after_bundles renames versions) e read_bundles (fault_first (all_in files direct_name direct_entry) (after_direct renames versions bundles) e h))))

        module _ (direct : List Exchange) (read_direct : all_in files direct_name direct_entry ≡ Ok direct) where
          pub selection_refused : (e : BuildFault) → IsFaultOf (all_in files selection_name selection_entry) e → IsFaultOf (rules_of_files files) e
          selection_refused e h = (fault_next (renames_in files) renames after_renames e read_renames (fault_next (all_in files versions_name versions_entry) versions (after_versions renames) e read_versions (fault_next (all_in files bundles_name update_entry) bundles (after_bundles renames versions) e read_bundles (fault_next (all_in files direct_name direct_entry) direct (after_direct renames versions bundles) e read_direct (fault_first (all_in files selection_name selection_entry) (after_selection renames versions bundles direct) e h)))))

          module _ (selection : List Choice) (read_selection : all_in files selection_name selection_entry ≡ Ok selection) where
            pub texts_refused : (e : BuildFault) → IsFaultOf (texts_in files) e → IsFaultOf (rules_of_files files) e
            texts_refused e h = (fault_next (renames_in files) renames after_renames e read_renames (fault_next (all_in files versions_name versions_entry) versions (after_versions renames) e read_versions (fault_next (all_in files bundles_name update_entry) bundles (after_bundles renames versions) e read_bundles (fault_next (all_in files direct_name direct_entry) direct (after_direct renames versions bundles) e read_direct (fault_next (all_in files selection_name selection_entry) selection (after_selection renames versions bundles direct) e read_selection (fault_first (texts_in files) (λ (texts : List PatternText). settled (rules_of renames versions bundles direct selection texts)) e h))))))

            pub all_read : (texts : List PatternText) → texts_in files ≡ Ok texts → rules_of_files files ≡ settled (rules_of renames versions bundles direct selection texts)
            all_read texts read_texts =
                ok_next (renames_in files) renames after_renames read_renames
                ∙ ok_next (all_in files versions_name versions_entry) versions (after_versions renames) read_versions
                ∙ ok_next (all_in files bundles_name update_entry) bundles (after_bundles renames versions) read_bundles
                ∙ ok_next (all_in files direct_name direct_entry) direct (after_direct renames versions bundles) read_direct
                ∙ ok_next (all_in files selection_name selection_entry) selection (after_selection renames versions bundles direct) read_selection
                ∙ ok_next (texts_in files) texts (λ (texts : List PatternText). settled (rules_of renames versions bundles direct selection texts)) read_texts
