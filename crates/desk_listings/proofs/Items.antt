-- Images of items, paths and clauses.
use Rattle.std.proofs.Common.{◌≡◌, Bool, true, false, cond, List, [], ◌∷◌, map, refl, sym, ap, ◌∙◌}
use Rattle.desk_base.specs.Names.{Text, is_dotted}
use Rattle.desk_lines.specs.Blanks.{trimmed}
use Rattle.desk_packages.specs.Renames.{Renaming}
use Rattle.desk_rules.specs.Rules.{Rules}
use Rattle.desk_clauses.specs.Quotes.{cut, with_marks}
use Rattle.desk_clauses.specs.Grammar.{parts, clauses, clause_text, value_text, between_blanks}
use Rattle.desk_clauses.specs.declared.quotes.Quoting.TheVariants.{Outside}
use Rattle.desk_clauses.proofs.Between.{between_own}
use Rattle.desk_clauses.proofs.Walked.{imaged}
use Rattle.desk_listings.specs.Images.{package_image, item_image, clause_image}
use Rattle.desk_listings.specs.declared.listings.Listing.{Listing}

-- an item that is no dotted name
pub other_stays : (renames : List Renaming) (item name : Text) → name ≡ trimmed item → is_dotted name ≡ false → item_image renames item ≡ item
other_stays renames item name name_is other =
    ap (λ (b : Bool). between_blanks (cond b (package_image renames (trimmed item)) (trimmed item)) item) (ap is_dotted (sym name_is) ∙ other) ∙ between_own item

-- an item whose package stays
pub package_stays : (renames : List Renaming) (item name : Text) → name ≡ trimmed item → package_image renames name ≡ name → item_image renames item ≡ item
package_stays renames item name name_is same =
    let own : package_image renames (trimmed item) ≡ trimmed item = ap (package_image renames) (sym name_is) ∙ same ∙ name_is in
    ap (λ (t : Text). between_blanks (cond (is_dotted (trimmed item)) t (trimmed item)) item) own
    ∙ ap (λ (t : Text). between_blanks t item) (either (is_dotted (trimmed item)) (trimmed item))
    ∙ between_own item
  where
    either : (b : Bool) (t : Text) → cond b t t ≡ t
    either true t = refl
    either false t = refl

-- the image of each clause, as a text
abbrev pub clause_by : Rules → Listing → Text → Text
clause_by rules listing clause = clause_text (clause_image rules listing (parts clause))

maps : (rules : Rules) (listing : Listing) (xs : List Text) → map (clause_by rules listing) xs ≡ map clause_text (map (clause_image rules listing) (map parts xs))
maps rules listing [] = refl
maps rules listing (x ∷ xs) = ap (λ (ys : List Text). clause_by rules listing x ∷ ys) (maps rules listing xs)

pub all_clauses : (rules : Rules) (listing : Listing) (value : Text) → imaged (cut 44 Outside) 44 (clause_by rules listing) value ≡ value_text (map (clause_image rules listing) (clauses value))
all_clauses rules listing value = ap (with_marks 44) (maps rules listing (cut 44 Outside value))
