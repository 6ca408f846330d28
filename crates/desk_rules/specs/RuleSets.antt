-- What a rule set keeps, and what it answers.
use Rattle.std.specs.Prelude.{◌≡◌, ◌≤◌, ℕ, Bool, List, Option, Some, None, length, option_map, if◌then◌else◌, IsTrue, ⊤}
use Rattle.std.specs.List.{list_all, AllByRecursion}
use Rattle.std.specs.Str.{bytes_eq}
use Rattle.std.specs.FinMap as finite
use Rattle.desk_base.specs.Names.{Text, Package, segments, written, is_dotted, is_class_name, front, simple, dot, slash}
use Rattle.desk_base.specs.Utf8.{bad_form}
use Rattle.desk_entries.specs.Forms.{is_version, is_symbolic_name, is_written_package}
use Rattle.desk_patterns.specs.Selections.{Choice}
use Rattle.desk_patterns.specs.PatternTexts.{PatternText}
use Rattle.desk_packages.specs.Renames.{Renaming, pick, pkg, changes, is_rename}
use Rattle.desk_rules.specs.Rules.{Rules, Update, Versions, TextMap}
use Rattle.desk_packages.specs.Keys.{IsTable, RiseBy}
use Rattle.desk_chains.specs.Chains.{first_chain_in}
use Rattle.desk_entries.specs.Exchanges.{Exchange, BundleUpdate}
use Rattle.desk_rules.specs.Settled.{IsSettled}
use Rattle.desk_rules.specs.Images.{dotted, cls, str}
use Rattle.desk_rules.specs.Firsts.{AreFirsts, AreFirstBytes}

-- the rules of lists in byte order of their keys
abbrev pub rules_of : List Renaming → List (Text × Versions) → List BundleUpdate → List Exchange → List Choice → List PatternText → Rules
rules_of renames versions bundles direct selection texts = record {
  renames = renames;
  versions = finite.from_entries versions;
  bundles = finite.from_entries bundles;
  direct = finite.from_entries direct;
  selection = selection;
  texts = texts;
}

-- each target, as a rule has it, is modified UTF-8, as a class file stores texts (JVMS 4.4.7)
abbrev pub HaveUtf8Targets : List Renaming → Type 0
HaveUtf8Targets = AllByRecursion (λ r. bad_form (written dot r.target) ≡ None)

-- both packages of each rename are written as a rule file has them
abbrev pub AreWritten : List Renaming → Type 0
AreWritten = AllByRecursion (λ r. IsTrue (is_written_package (written dot r.source)) × IsTrue (is_written_package (written dot r.target)))

-- each new text of a direct rule is modified UTF-8
abbrev pub HaveUtf8Texts : TextMap Text → Type 0
HaveUtf8Texts direct = (text value : Text) → finite.get direct text ≡ Some value → bad_form value ≡ None

-- both versions of a new package are versions, or ranges of versions
pub record AreVersions (versions : Versions) : Type 0 where
  pub imported : IsTrue (is_version versions.imported)
  pub exported : IsTrue (is_version versions.exported)

-- each new package of the versions has versions of that form
abbrev pub HaveVersions : TextMap Versions → Type 0
HaveVersions versions = (text : Text) (value : Versions) → finite.get versions text ≡ Some value → AreVersions value

-- a version, where there is one, has that form too
abbrev pub IsVersionOrNone : Option Text → Type 0
IsVersionOrNone None = ⊤
IsVersionOrNone (Some version) = IsTrue (is_version version)

-- the new name of a bundle is a symbolic name, and its new version a version
pub record IsUpdate (update : Update) : Type 0 where
  pub named : IsTrue (is_symbolic_name update.name)
  pub versioned : IsVersionOrNone update.version

-- each bundle's update has that form
abbrev pub HaveUpdates : TextMap Update → Type 0
HaveUpdates bundles = (text : Text) (value : Update) → finite.get bundles text ≡ Some value → IsUpdate value

-- what a rule set keeps: lists in byte order of their keys without a chain, whose new packages and direct texts are modified
-- UTF-8, and whose versions and new symbolic names have their form; the first segments of the renames, and which bytes the
-- direct texts begin with
pub record IsKept (renames : List Renaming) (versions : List (Text × Versions)) (bundles : List BundleUpdate) (direct : List Exchange) (firsts : List Text) (begun : List Bool) : Type 0 where
  pub table : IsTable renames
  pub versions_rise : RiseBy (λ v. v.0) versions
  pub bundles_rise : RiseBy (λ b. b.0) bundles
  pub direct_rise : RiseBy (λ d. d.0) direct
  pub settled : first_chain_in renames direct bundles ≡ None
  pub utf8 : HaveUtf8Targets renames
  pub packages : AreWritten renames
  pub direct_utf8 : HaveUtf8Texts (finite.from_entries direct)
  pub versioned : HaveVersions (finite.from_entries versions)
  pub updated : HaveUpdates (finite.from_entries bundles)
  pub firsts_are : AreFirsts renames firsts
  pub begun_are : AreFirstBytes (λ d. d.0) direct begun

-- sources and targets are packages, no image is changed again, targets and direct texts are modified UTF-8, versions are
-- versions, and new names of bundles symbolic names
pub record IsRuleSet (rules : Rules) : Type 0 where
  pub formed : IsTrue (list_all is_rename rules.renames)
  pub settled : IsSettled rules
  pub utf8 : HaveUtf8Targets rules.renames
  pub packages : AreWritten rules.renames
  pub direct_utf8 : HaveUtf8Texts rules.direct
  pub versioned : HaveVersions rules.versions
  pub updated : HaveUpdates rules.bundles

abbrev pub only_changing : Option Renaming → Option Renaming
only_changing None = None
only_changing (Some r) = if changes r then Some r else None

-- the rename that is picked, if it changes
abbrev pub changing_pick : List Renaming → Package → Option Renaming
changing_pick renames p = only_changing (pick renames p)

-- so many bytes of a path are the source of the changing rename that is picked, and these segments its target
pub record IsFrontOf (renames : List Renaming) (separator : ℕ) (path : Text) (taken : ℕ) (target : Package) : Type 0 where
  pub rename : Renaming
  pub picked : changing_pick renames (segments separator path) ≡ Some rename
  pub within : taken ≤ length path
  pub taken_is : taken ≡ length (written separator rename.source)
  pub target_is : target ≡ rename.target

-- the version of a new package where it is imported, or where it is exported
abbrev pub version_of : TextMap Versions → Text → Bool → Option Text
version_of versions name exporting =
    option_map (λ v. if exporting then v.exported else v.imported) (finite.get versions name)

abbrev pub only_other_name : Text → Option Update → Option Update
only_other_name name None = None
only_other_name name (Some u) = if bytes_eq name u.name then None else Some u

abbrev pub update_of : Text → Option Text → Update
update_of name version = record { name = name; version = version }

-- the update of a bundle, if it changes the name
abbrev pub changing_update : TextMap Update → Text → Option Update
changing_update bundles name = only_other_name name (finite.get bundles name)

-- the image of each package is its own image
abbrev pub PackagesStay : List Renaming → Type 0
PackagesStay renames = (p : Package) → pkg renames (pkg renames p) ≡ pkg renames p

-- the image of each text, as a class name, is its own image
abbrev pub ClassesStay : List Renaming → Type 0
ClassesStay renames = (text : Text) → cls renames (cls renames text) ≡ cls renames text

-- the image of each text, as a dotted name, is its own image
abbrev pub DottedStay : List Renaming → Type 0
DottedStay renames = (text : Text) → dotted renames (dotted renames text) ≡ dotted renames text

-- the image of each text, as a string, is its own image
abbrev pub StringsStay : Rules → Type 0
StringsStay rules = (text : Text) → str rules (str rules text) ≡ str rules text

-- the new name of an updated bundle is not updated again
abbrev pub BundlesStay : TextMap Update → Type 0
BundlesStay bundles = (name : Text) (update : Update) → changing_update bundles name ≡ Some update → changing_update bundles update.name ≡ None

-- the image of a class name is a class name: the image of its package, and its own last part
pub record IsClassImage (renames : List Renaming) (text image : Text) : Type 0 where
  pub named : IsTrue (is_class_name image)
  pub front_is : front (segments slash image) ≡ pkg renames (front (segments slash text))
  pub last_is : simple (segments slash image) ≡ simple (segments slash text)

-- the image of each class name keeps its form
abbrev pub ClassesKeepForm : List Renaming → Type 0
ClassesKeepForm renames = (text : Text) → IsTrue (is_class_name text) → IsClassImage renames text (cls renames text)

-- the image of a dotted name is a dotted name: the image of its front, and its own last part
pub record IsDottedImage (renames : List Renaming) (text image : Text) : Type 0 where
  pub named : IsTrue (is_dotted image)
  pub front_is : front (segments dot image) ≡ pkg renames (front (segments dot text))
  pub last_is : simple (segments dot image) ≡ simple (segments dot text)

-- the image of each dotted name keeps its form
abbrev pub DottedKeepForm : List Renaming → Type 0
DottedKeepForm renames = (text : Text) → IsTrue (is_dotted text) → IsDottedImage renames text (dotted renames text)
