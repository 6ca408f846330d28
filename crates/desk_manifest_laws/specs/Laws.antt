-- Laws of headers and their values.
use Rattle.std.specs.Prelude.{◌≡◌, ◌≤◌, ◌⊎◌, Bool, true, false, not, ◌&&◌, List, ◌∷◌, ◌++◌, length}
use Rattle.std.specs.List.{list_all}
use Rattle.desk_base.specs.Names.{Text, is_empty}
use Rattle.desk_lines.specs.declared.lines.LineEnd.{LineEnd}
use Rattle.desk_lines.specs.Lines.{Line}
use Rattle.desk_sections.specs.Folding.{begins_character, folded}
use Rattle.desk_sections.specs.Sections.{is_colon, is_continuation, name_of, value_of}
use Rattle.desk_rules.specs.Rules.{Rules}
use Rattle.desk_rules.specs.RuleSets.{IsRuleSet}
use Rattle.desk_listings.specs.Images.{listing_image}
use Rattle.desk_listings.specs.declared.listings.Listing.{Listing}

-- a name that can begin a line: it isn't empty, begins with no space and holds no colon
abbrev pub is_header_name : Text → Bool
is_header_name name = not (is_empty name) && (not (is_continuation name) && list_all (λ b. not (is_colon b)) name)

-- What is read of the lines of a folded header: its name, and its value. Only where no character begins at the value's front can
-- the value be read with one more space before it: the first cut may then lie before the space behind the colon.
pub record IsReadBack (name value : Text) (ls : List Line) : Type 0 where
  pub named : name_of ls ≡ name
  pub valued : (value_of ls ≡ value) ⊎ ((value_of ls ≡ 32 ∷ value) × (begins_character value ≡ false))

-- A header that is folded says its name and its value.
abbrev pub HeadersAreReadBack : Type 0
HeadersAreReadBack = (between last : LineEnd) (name value : Text) → is_header_name name ≡ true → length name ≤ 70 → IsReadBack name value (folded between last (name ++ (58 ∷ 32 ∷ value)))

-- The image of a list of clauses is its own image.
abbrev pub ListingsStay : Type 0
ListingsStay = (rules : Rules) → IsRuleSet rules → (listing : Listing) (value : Text) → listing_image rules listing (listing_image rules listing value) ≡ listing_image rules listing value
