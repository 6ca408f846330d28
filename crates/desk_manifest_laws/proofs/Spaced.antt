-- A blank before a value stays before its image.
use Rattle.std.proofs.Common.{◌≡◌, Bool, true, false, cond, ◌&&◌, List, [], ◌∷◌, map, Option, Some, None, refl, ap, ap₂, sym, ◌∙◌}
use Rattle.std.specs.Prelude.{codes}
use Rattle.std.specs.List.{list_all}
use Rattle.std.specs.Str.{bytes_eq}
use Rattle.desk_base.specs.Names.{Text}
use Rattle.desk_lines.specs.Blanks.{trimmed}
use Rattle.desk_rules.specs.Rules.{Rules}
use Rattle.desk_rules.specs.RuleSets.{changing_update}
use Rattle.desk_clauses.specs.Quotes.{onto_first, with_marks, is_closed, before_mark}
use Rattle.desk_clauses.specs.Grammar.{parts, clauses, clause_text, value_text, key, argument, is_parameter, is_clause, is_in_grammar, first_path, ends_in_colon, but_last, between_blanks, with_argument}
use Rattle.desk_clauses.specs.declared.quotes.Quoting.TheVariants.{Outside}
use Rattle.desk_listings.specs.Images.{uses_image, is_export, path_image, version_name, versioned, parameter_image, part_image, clause_version, clause_image, listing_image, updated_version, identity_version}
use Rattle.desk_listings.specs.declared.listings.Listing.{Listing}
use Rattle.desk_manifest_laws.proofs.Bare.{marks_onto, cut_first}

pub cond_onto : (c : Bool) (x y : Text) → cond c (32 ∷ x) (32 ∷ y) ≡ 32 ∷ cond c x y
cond_onto true x y = refl
cond_onto false x y = refl

-- the clauses of a value behind a blank
abbrev onto_clauses : List (List Text) → List (List Text)
onto_clauses [] = []
onto_clauses (c ∷ cs) = onto_first 32 c ∷ cs

clauses_spaced : (value : Text) → clauses (32 ∷ value) ≡ onto_clauses (clauses value)
clauses_spaced value =
    let c = cut_first 44 Outside value in
    ap (λ (xs : List Text). map parts (onto_first 32 xs)) c.1 ∙ sym (ap (λ (xs : List Text). onto_clauses (map parts xs)) c.1)

-- the first clause has a first part
first_part : (value : Text) → (p : Text) × (ps : List Text) × (cs : List (List Text)) × (clauses value ≡ (p ∷ ps) ∷ cs)
first_part value =
    let c = cut_first 44 Outside value in
    let d = cut_first 59 Outside (before_mark 44 Outside value) in
    (before_mark 59 Outside (before_mark 44 Outside value), d.0, map parts c.0, ap (map parts) c.1 ∙ ap (λ (ps : List Text). ps ∷ map parts c.0) d.1)

-- whether a value is in the grammar, with a blank before it
pub grammar_spaced : (value : Text) → is_in_grammar (32 ∷ value) ≡ is_in_grammar value
grammar_spaced value =
    let f = first_part value in
    ap (λ (cs : List (List Text)). is_closed Outside value && list_all is_clause cs) (clauses_spaced value ∙ ap onto_clauses f.3)
    ∙ sym (ap (λ (cs : List (List Text)). is_closed Outside value && list_all is_clause cs) f.3)

module _ (rules : Rules) (listing : Listing) where
  versioned_spaced : (version : Option Text) (part : Text) → versioned version (32 ∷ part) ≡ 32 ∷ versioned version part
  versioned_spaced None part = refl
  versioned_spaced (Some version) part = refl

  parameter_spaced : (version : Option Text) (part : Text) → parameter_image rules listing version (32 ∷ part) ≡ 32 ∷ parameter_image rules listing version part
  parameter_spaced version part =
      let k : Text = key part in
      let list : Bool = is_export listing && (ends_in_colon k && bytes_eq (trimmed (but_last k)) (codes "uses")) in
      let other : Text = with_argument (between_blanks (uses_image rules.renames (trimmed (argument part))) (argument part)) part in
      ap₂ (λ (x y : Text). cond (bytes_eq k (version_name listing)) x y) (versioned_spaced version part) (cond_onto list other part)
      ∙ cond_onto (bytes_eq k (version_name listing)) (versioned version part) (cond list other part)

  part_spaced : (version : Option Text) (part : Text) → part_image rules listing version (32 ∷ part) ≡ 32 ∷ part_image rules listing version part
  part_spaced version part =
      ap (λ (x : Text). cond (is_parameter part) x (32 ∷ between_blanks (path_image rules listing (trimmed part)) part)) (parameter_spaced version part)
      ∙ cond_onto (is_parameter part) (parameter_image rules listing version part) (between_blanks (path_image rules listing (trimmed part)) part)

  clause_spaced : (p : Text) (ps : List Text) → clause_image rules listing ((32 ∷ p) ∷ ps) ≡ onto_first 32 (clause_image rules listing (p ∷ ps))
  clause_spaced p ps = ap (λ (x : Text). x ∷ map (part_image rules listing (clause_version rules listing (p ∷ ps))) ps) (part_spaced (clause_version rules listing (p ∷ ps)) p)

  text_spaced : (c : List Text) (cs : List (List Text)) → value_text (onto_first 32 c ∷ cs) ≡ 32 ∷ value_text (c ∷ cs)
  text_spaced c cs = ap (λ (t : Text). with_marks 44 (t ∷ map clause_text cs)) (marks_onto 59 32 c) ∙ marks_onto 44 32 (clause_text c ∷ map clause_text cs)

  whole_spaced : (value : Text) → value_text (map (clause_image rules listing) (clauses (32 ∷ value))) ≡ 32 ∷ value_text (map (clause_image rules listing) (clauses value))
  whole_spaced value =
      let f = first_part value in
      ap (λ (cs : List (List Text)). value_text (map (clause_image rules listing) cs)) (clauses_spaced value ∙ ap onto_clauses f.3)
      ∙ ap (λ (c : List Text). value_text (c ∷ map (clause_image rules listing) f.2)) (clause_spaced f.0 f.1)
      ∙ text_spaced (clause_image rules listing (f.0 ∷ f.1)) (map (clause_image rules listing) f.2)
      ∙ ap (λ (cs : List (List Text)). 32 ∷ value_text (map (clause_image rules listing) cs)) (sym f.3)

  -- the image of a value, with a blank before it
  pub listing_spaced : (value : Text) → listing_image rules listing (32 ∷ value) ≡ 32 ∷ listing_image rules listing value
  listing_spaced value =
      ap₂ (λ (c : Bool) (t : Text). cond c t (32 ∷ value)) (grammar_spaced value) (whole_spaced value)
      ∙ cond_onto (is_in_grammar value) (value_text (map (clause_image rules listing) (clauses value))) value

-- the new version is that of the value without the blank
pub identity_spaced : (rules : Rules) (value : Text) → identity_version rules (32 ∷ value) ≡ identity_version rules value
identity_spaced rules value = ap (λ (c : Bool). cond c (updated_version (changing_update rules.bundles (first_path value))) None) (grammar_spaced value)
