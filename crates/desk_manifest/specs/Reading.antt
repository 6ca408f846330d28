-- What readers of headers answer.
use Rattle.std.specs.Prelude.{◌≡◌, ◌≢◌, ◌&&◌, ◌++◌, ◌∷◌, Bool, not, Option, MatchOption, length, codes}
use Rattle.desk_base.specs.Names.{Text}
use Rattle.desk_rules.specs.Rules.{Rules}
use Rattle.desk_lines.specs.declared.lines.LineEnd.{LineEnd}
use Rattle.desk_lines.specs.Lines.{end_bytes}
use Rattle.desk_lines.specs.Cuts.{until}
use Rattle.desk_sections.specs.Sections.{is_colon, is_continuation}
use Rattle.desk_sections.specs.Folding.{folded_bytes, pieces}
use Rattle.desk_manifest.specs.Headers.{is_named}
use Rattle.desk_manifest.specs.Manifests.{images_of}

-- the bytes of a header of this name and value, folded
abbrev pub header_bytes : Text → Text → LineEnd → LineEnd → Text
header_bytes name value between last =
    folded_bytes (end_bytes between) (end_bytes last) (pieces (length (name ++ (58 ∷ 32 ∷ value))) 72 (name ++ (58 ∷ 32 ∷ value)))

-- what becomes of a header of this name and value: none exactly where the value is its own image
abbrev pub IsHeaderImage : Rules → Option Text → Bool → Text → Text → LineEnd → LineEnd → Option Text → Type 0
IsHeaderImage rules version main name value between last answer =
    MatchOption answer
    (images_of rules version main name value ≡ value)
    (λ bytes. (bytes ≡ header_bytes name (images_of rules version main name value) between last) × (images_of rules version main name value ≢ value))

-- whether a line begins a Bundle-SymbolicName
abbrev pub begins_identity : Text → Bool
begins_identity content = not (is_continuation content) && is_named (until is_colon content) (codes "Bundle-SymbolicName")
