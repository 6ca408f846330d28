-- Packages in values.
use Rattle.std.specs.Prelude.{List, Option, Some, None, ◌==◌, if◌then◌else◌}
use Rattle.std.specs.List.{slice_split}
use Rattle.desk_base.specs.Names.{Text, dot}
use Rattle.desk_entries.specs.Forms.{is_written_package}

-- the segments of a package that is written with dots, as in a rule
abbrev pub package_of : Text → Option (List Text)
package_of text = if is_written_package text then Some (slice_split (λ b. b == dot) text) else None
