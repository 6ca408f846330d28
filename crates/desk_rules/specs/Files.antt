-- The files of a rule folder.
use Rattle.std.specs.Prelude.{ℕ, List, codes}
use Rattle.std.specs.Cmp.Lexicographic.{slice_cmp}
use Rattle.std.specs.Ordering.{nat_cmp}
use Rattle.std.specs.FinMap.{FinMap}
use Rattle.desk_base.specs.Names.{Text}

-- the files of a rule folder, from name to content
abbrev pub Files : Type 0
Files = FinMap (slice_cmp nat_cmp) (List ℕ)

-- the file of the renames
abbrev pub renames_name : Text
renames_name = codes "renames.properties"

-- the file of the versions
abbrev pub versions_name : Text
versions_name = codes "versions.properties"

-- the file of the bundle updates
abbrev pub bundles_name : Text
bundles_name = codes "bundles.properties"

-- the file of the direct strings
abbrev pub direct_name : Text
direct_name = codes "direct.properties"

-- the file of the selection
abbrev pub selection_name : Text
selection_name = codes "selection.properties"

-- the file of the patterns with text rules
abbrev pub text_name : Text
text_name = codes "text.properties"
