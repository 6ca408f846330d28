-- Service files: a provider name on each line, with comments and blanks around it.
use Rattle.std.specs.Prelude.{◌≡◌, ℕ, Bool, cond, not, ◌&&◌, ◌==◌, ◌+◌, List, [], ◌∷◌, ◌++◌, length, Option, Some, None, Result, Ok, Err}
use Rattle.std.specs.List.{list_all}
use Rattle.std.specs.Str.{bytes_eq}
use Rattle.desk_base.specs.Names.{Text, is_empty}
use Rattle.desk_base.specs.declared.Changed.{Changed}
use Rattle.desk_rules.specs.Rules.{Rules}
use Rattle.desk_rules.specs.Images.{dotted}
use Rattle.desk_lines.specs.Lines.{Line, line, end_bytes, joined, lines}
use Rattle.desk_lines.specs.Cuts.{until, onward}
use Rattle.desk_lines.specs.Blanks.{not_blank, trailing_blanks, leading_blanks, trimmed}

-- `#`, which begins a comment
abbrev pub is_hash : ℕ → Bool
is_hash b = b == 35

-- the provider name of a line: what stands before the first `#`, trimmed; empty where there is none
abbrev pub provider : Text → Text
provider content = trimmed (until is_hash content)

-- a line with another provider, and all its other bytes
abbrev pub with_provider : Text → Text → Text
with_provider name content =
    leading_blanks (until is_hash content) ++ (name ++ (trailing_blanks (onward not_blank (until is_hash content)) ++ onward is_hash content))

-- the image of a line, where `image` is that of a provider name
abbrev pub line_image : (Text → Text) → Text → Text
line_image image content = cond (is_empty (provider content)) content (with_provider (image (provider content)) content)

-- whether the provider name holds a blank
abbrev pub is_bad : Text → Bool
is_bad content = not (list_all not_blank (provider content))

-- where the first line with a bad provider name begins; the lines begin at `at`
abbrev pub first_bad : ℕ → List Line → Option ℕ
first_bad at [] = None
first_bad at (l ∷ ls) = cond (is_bad l.content) (Some at) (first_bad (at + length (l.content ++ end_bytes l.end)) ls)

-- whether a line has a provider name with another image
abbrev pub is_changed : (Text → Text) → Text → Bool
is_changed image content = not (is_empty (provider content)) && not (bytes_eq (image (provider content)) (provider content))

-- how many lines have one
abbrev pub count_changed : (Text → Text) → List Line → ℕ
count_changed image [] = 0
count_changed image (l ∷ ls) = cond (is_changed image l.content) 1 0 + count_changed image ls

-- the lines with other contents, and their ends
abbrev pub on_contents : (Text → Text) → List Line → List Line
on_contents image [] = []
on_contents image (l ∷ ls) = line (image l.content) l.end ∷ on_contents image ls

-- what the lines become
abbrev pub migrated : (Text → Text) → List Line → Changed
migrated image ls = record { bytes = joined (on_contents (line_image image) ls); changed = count_changed image ls }

abbrev pub service_by : (Text → Text) → List Line → Option ℕ → Result Changed ℕ
service_by image ls (Some at) = Err at
service_by image ls None = Ok (migrated image ls)

-- a service file's image under an image of provider names, or the place of its first bad line
abbrev pub service_of : (Text → Text) → Text → Result Changed ℕ
service_of image text = service_by image (lines text) (first_bad 0 (lines text))

-- a service file's image: each provider as a dotted name
abbrev pub service : Rules → Text → Result Changed ℕ
service rules = service_of (dotted rules.renames)

-- a service file that is its own image, without a changed provider
abbrev pub ServiceStays : Rules → Text → Type 0
ServiceStays rules text = service rules text ≡ Ok (record { bytes = text; changed = 0 })

-- a name that a line can hold: one or more bytes, no blank, `#`, CR or LF
abbrev pub is_name_byte : ℕ → Bool
is_name_byte b = not_blank b && (not (is_hash b) && (not (b == 10) && not (b == 13)))

abbrev pub is_provider_name : Text → Bool
is_provider_name t = not (is_empty t) && list_all is_name_byte t
