-- The working folder to which a ledger of relative roots belongs.
use Rattle.std.specs.Prelude.{◌==◌, ◌||◌, Bool, not, [], ◌∷◌}
use Rattle.std.specs.List.{starts_with}
use Rattle.desk_base.specs.Names.{Text, slash}
use Rattle.desk_ledger.specs.declared.keeper.Header.{Header}

-- a root that doesn't begin with a slash
abbrev pub is_relative : Text → Bool
is_relative root = not (starts_with ◌==◌ root (slash ∷ []))

-- a header of which a root is relative
abbrev pub has_relative_root : Header → Bool
has_relative_root header = is_relative header.from || is_relative header.to
