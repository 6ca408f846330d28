-- A manifest's image: its headers with the images of their values folded anew, and all other headers as they are.
use Rattle.std.specs.Prelude.{◌≡◌, ℕ, Bool, true, false, cond, not, ◌&&◌, ◌+◌, List, [], ◌∷◌, ◌++◌, Option, Some, None, Result, Ok, Err, codes}
use Rattle.std.specs.Str.{bytes_eq}
use Rattle.desk_base.specs.Names.{Text}
use Rattle.desk_base.specs.declared.Changed.{Changed}
use Rattle.desk_rules.specs.Rules.{Rules}
use Rattle.desk_lines.specs.declared.lines.LineEnd.{LineEnd}
use Rattle.desk_lines.specs.declared.lines.LineEnd.TheVariants as ends
use Rattle.desk_lines.specs.Lines.{Line, joined, lines}
use Rattle.desk_listings.specs.Images.{identity_version}
use Rattle.desk_sections.specs.Sections.{Item, section_end, header, grouped, item_lines, first_bad_line, name_of, value_of, last_end}
use Rattle.desk_sections.specs.Folding.{folded}
use Rattle.desk_manifest.specs.Headers.{is_named, kind_of_header, value_image}

-- the end of a file's first line, or CR LF where it has none
abbrev pub or_cr_lf : LineEnd → LineEnd
or_cr_lf ends.EndOfText = ends.CrLf
or_cr_lf ends.Lf = ends.Lf
or_cr_lf ends.Cr = ends.Cr
or_cr_lf ends.CrLf = ends.CrLf

abbrev pub fold_end : List Line → LineEnd
fold_end [] = ends.CrLf
fold_end (l ∷ ls) = or_cr_lf l.end

-- the new version of the bundle: that of the update of the first Bundle-SymbolicName of the main section
abbrev pub bundle_version : Rules → List Item → Option Text
bundle_version rules [] = None
bundle_version rules (section_end end ∷ items) = None
bundle_version rules (header ls ∷ items) =
    cond (is_named (name_of ls) (codes "Bundle-SymbolicName")) (identity_version rules (value_of ls)) (bundle_version rules items)

-- the image of a value, by whether its section is the main one, and by its header's name
abbrev pub Images : Type 0
Images = Bool → Text → Text → Text

abbrev pub images_of : Rules → Option Text → Images
images_of rules version main name = value_image rules version (kind_of_header main name)

-- whether the value of a header has another image
abbrev pub is_changed : Images → Bool → List Line → Bool
is_changed image main ls = not (bytes_eq (image main (name_of ls) (value_of ls)) (value_of ls))

-- the lines of a header with another value: its name, a colon, a space and the value, folded; its last line keeps its end
abbrev pub refolded : LineEnd → Text → List Line → List Line
refolded between new ls = folded between (last_end ls) (name_of ls ++ (58 ∷ 32 ∷ new))

-- a header whose value stays keeps its lines
abbrev pub header_image : Images → LineEnd → Bool → List Line → List Line
header_image image between main ls =
    cond (is_changed image main ls) (refolded between (image main (name_of ls) (value_of ls)) ls) ls

-- the items' images; the first empty line ends the main section
abbrev pub images : Images → LineEnd → Bool → List Item → List Item
images image between main [] = []
images image between main (section_end end ∷ items) = section_end end ∷ images image between false items
images image between main (header ls ∷ items) = header (header_image image between main ls) ∷ images image between main items

-- how many headers have another value
abbrev pub count_changed : Images → Bool → List Item → ℕ
count_changed image main [] = 0
count_changed image main (section_end end ∷ items) = count_changed image false items
count_changed image main (header ls ∷ items) = cond (is_changed image main ls) 1 0 + count_changed image main items

-- what lines become, whose items these are
abbrev pub migrated : Images → LineEnd → List Item → Changed
migrated image between items = record {
  bytes = joined (item_lines (images image between true items));
  changed = count_changed image true items;
}

abbrev pub manifest_by : Images → LineEnd → List Item → Option ℕ → Result Changed ℕ
manifest_by image between items (Some at) = Err at
manifest_by image between items None = Ok (migrated image between items)

-- the image of items of these lines
abbrev pub manifest_in : Rules → List Line → List Item → Result Changed ℕ
manifest_in rules ls items = manifest_by (images_of rules (bundle_version rules items)) (fold_end ls) items (first_bad_line false 0 ls)

-- a manifest's image, or the place of its first line that hasn't the form
abbrev pub manifest : Rules → Text → Result Changed ℕ
manifest rules text = manifest_in rules (lines text) (grouped (lines text)).items

-- a manifest that is its own image, without a changed header
abbrev pub ManifestStays : Rules → Text → Type 0
ManifestStays rules text = manifest rules text ≡ Ok (record { bytes = text; changed = 0 })
