-- Which rule file has a key beside that of the renames.
use Rattle.std.specs.Prelude.{◌==◌, List, length, Option, Some, None, if◌then◌else◌}
use Rattle.std.specs.FinMap as finite
use Rattle.desk_base.specs.Names.{Text}
use Rattle.desk_rules.specs.Files.{versions_name, bundles_name, direct_name, selection_name, text_name}
use Rattle.desk_rules.specs.Rules.{Rules}

-- the name of a file where it has an entry, else what the files behind it say
abbrev pub filled_or : {A : Type 0} → List A → Text → Option Text → Option Text
filled_or entries name others = if length entries == 0 then others else Some name

-- The name of the first of the files of versions, bundle updates, direct strings, selection and patterns with text rules, in
-- this order, that has a key.
abbrev pub first_other : Rules → Option Text
first_other rules =
    filled_or (finite.entries rules.versions) versions_name
    (filled_or (finite.entries rules.bundles) bundles_name
    (filled_or (finite.entries rules.direct) direct_name
    (filled_or rules.selection selection_name
    (filled_or rules.texts text_name None))))
