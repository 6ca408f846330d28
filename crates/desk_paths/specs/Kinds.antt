-- Kinds of files by their paths.
use Rattle.std.specs.Prelude.{◌≡◌, List, if◌then◌else◌}
use Rattle.desk_base.specs.Names.{Text}
use Rattle.desk_packages.specs.Renames.{Renaming}
use Rattle.desk_rules.specs.Rules.{Rules}
use Rattle.desk_paths.specs.Paths.{Cut, cut, root_of, is_service, is_manifest, is_class, renamed_path, target}
use Rattle.desk_paths.specs.declared.Kind.{Kind}
use Rattle.desk_paths.specs.declared.Kind.TheVariants.{Service, Manifest, Class, Other}

-- the first kind that fits
abbrev pub kind_of_cut : Cut → Kind
kind_of_cut c = if is_service c then Service else if is_manifest c then Manifest else if is_class c then Class else Other

unfoldable pub kind_of : Text → Kind
kind_of path = kind_of_cut (cut path)

-- the target of a target is itself, and has its class root and kind
pub record TargetStays (rules : Rules) (path : Text) : Type 0 where
  pub again : target rules (target rules path) ≡ target rules path
  pub same_root : root_of (target rules path) ≡ root_of path
  pub same_kind : kind_of (target rules path) ≡ kind_of path

-- the same of the paths of selected files
pub record RenamedStays (renames : List Renaming) (path : Text) : Type 0 where
  pub again : renamed_path renames (renamed_path renames path) ≡ renamed_path renames path
  pub same_root : root_of (renamed_path renames path) ≡ root_of path
  pub same_kind : kind_of (renamed_path renames path) ≡ kind_of path
