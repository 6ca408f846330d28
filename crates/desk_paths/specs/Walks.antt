-- Walking over a path, folder by folder.
use Rattle.std.specs.Prelude.{◌≡◌, ℕ, ◌-◌, ◌≤◌, Bool, not, ◌&&◌, ◌==◌, ◌∷◌, [], List, length, take, drop, codes, IsTrue, if◌then◌else◌}
use Rattle.std.specs.List.{ends_with, list_all}
use Rattle.std.specs.Str.{bytes_eq}
use Rattle.desk_base.specs.Names.{Text, written, slash, is_empty}
use Rattle.desk_packages.specs.Renames.{Renaming, is_rename}
use Rattle.desk_rules.specs.RuleSets.{PackagesStay, DottedStay, DottedKeepForm}
use Rattle.desk_paths.specs.Paths.{cut, folder_text, ends_root}
use Rattle.desk_paths.specs.declared.Kind.{Kind}
use Rattle.desk_paths.specs.declared.Kind.TheVariants.{Service, Manifest, Class, Other}
use Rattle.desk_paths.specs.declared.places.Walk.{Walk}

-- one more folder, behind whose `/` a place lies
pub record IsStep (old : Walk) (folder : Text) (at : ℕ) (new : Walk) : Type 0 where
  pub earlier_is : new.earlier.now ≡ old.before.now
  pub before_is : new.before.now ≡ folder
  pub file_is : new.file_at ≡ at
  pub rest_is : new.rest_at ≡ (if ends_root old.earlier.now old.before.now folder then at else old.rest_at)

-- where the rest of a path begins, and its file name: before them stand the folders of the class root and those behind it
pub record IsCutAt (path : Text) (rest_at file_at : ℕ) : Type 0 where
  pub order : rest_at ≤ file_at
  pub within : file_at ≤ length path
  pub root_is : take rest_at path ≡ folder_text (cut path).root
  pub folder_is : take (file_at - rest_at) (drop rest_at path) ≡ folder_text (cut path).rest
  pub file_is : drop file_at path ≡ (cut path).file

-- what stands behind a package of a path: the file name, behind a `/` where the package is not empty
abbrev pub behind_package : List Text → Text → Text
behind_package [] file = file
behind_package (folder ∷ more) file = slash ∷ file

-- where the package of a path ends
pub record IsPackageEnd (path : Text) (rest_at end : ℕ) : Type 0 where
  pub order : rest_at ≤ end
  pub within : end ≤ length path
  pub package_is : take (end - rest_at) (drop rest_at path) ≡ written slash (cut path).rest
  pub behind_is : drop end path ≡ behind_package (cut path).rest (cut path).file

-- the folder of service files, and that of the manifest, with the `/` behind them
abbrev pub is_services : Text → Bool
is_services folder = bytes_eq folder (codes "META-INF/services/")

abbrev pub is_meta : Text → Bool
is_meta folder = bytes_eq folder (codes "META-INF/")

-- a service file by its folder and its name
abbrev pub is_service_file : Text → Text → Bool
is_service_file folder file = is_services folder && not (is_empty file)

-- the kind of a file by its folder and its name
abbrev pub kind_by_texts : Text → Text → Kind
kind_by_texts folder file =
    if is_service_file folder file then Service
    else if is_meta folder && bytes_eq file (codes "MANIFEST.MF") then Manifest
    else if ends_with ◌==◌ file (codes ".class") then Class
    else Other

-- what is known of the renames of a rule set
pub record Stay (renames : List Renaming) : Type 0 where
  pub formed : IsTrue (list_all is_rename renames)
  pub packages : PackagesStay renames
  pub dotted : DottedStay renames
  pub form : DottedKeepForm renames
