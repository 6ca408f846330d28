-- Rules as plain data.
use Rattle.std.specs.Prelude.{List, refl}
use Rattle.std.specs.Coded.{Coded, code_by, coded×, coded_list, coded_bool}
use Rattle.std.specs.Cmp.Lexicographic.{slice_cmp}
use Rattle.std.specs.Ordering.{nat_cmp}
use Rattle.std.specs.FinMap as finite
use Rattle.std.specs.FinMap.{FinMap}
use Rattle.desk_base.specs.Names.{Text}
pub use Rattle.desk_entries.specs.declared.versions.Versions.{Versions}
use Rattle.desk_patterns.specs.Selections.{Choice}
use Rattle.desk_patterns.specs.PatternTexts.{PatternText}
use Rattle.desk_packages.specs.Renames.{Renaming, renaming_code}
pub use Rattle.desk_entries.specs.declared.bundles.Update.{Update}
pub use Rattle.desk_entries.specs.Exchanges.{text_code, update_code}

-- a finite map from texts
abbrev pub TextMap : Type 0 → Type 0
TextMap X = FinMap (slice_cmp nat_cmp) X

abbrev pub versions_code : Coded Versions
versions_code = code_by (Text × Text) (coded× text_code text_code) (λ v. (v.imported, v.exported)) (λ p. record { imported = p.0; exported = p.1 }) (λ _. refl)

-- all rules: renames in byte order of their keys, versions by the new package with dots, bundle updates
-- by the old symbolic name, direct strings by the old text, the patterns of the selection in byte order,
-- and patterns with text rules in the order of their file
pub record Rules : Type 0 where
  pub renames : List Renaming
  pub versions : TextMap Versions
  pub bundles : TextMap Update
  pub direct : TextMap Text
  pub selection : List Choice
  pub texts : List PatternText

abbrev pub choices_code : Coded (List Choice)
choices_code = coded_list (coded× text_code coded_bool)

abbrev pub texts_code : Coded (List PatternText)
texts_code = coded_list (coded× text_code (coded_list (coded× text_code text_code)))

abbrev pub rules_code : Coded Rules
rules_code =
    code_by (List Renaming × (TextMap Versions × (TextMap Update × (TextMap Text × (List Choice × List PatternText)))))
    (coded× (coded_list renaming_code) (coded× (finite.code text_code versions_code) (coded× (finite.code text_code update_code) (coded× (finite.code text_code text_code) (coded× choices_code texts_code)))))
    (λ r. (r.renames, (r.versions, (r.bundles, (r.direct, (r.selection, r.texts))))))
    (λ p. record { renames = p.0; versions = p.1.0; bundles = p.1.1.0; direct = p.1.1.1.0; selection = p.1.1.1.1.0; texts = p.1.1.1.1.1 }) (λ _. refl)
