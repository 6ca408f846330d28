-- Images of parameters, by their keys.
use Rattle.std.proofs.Common.{◌≡◌, ◌<◌, ◌+◌, ℕ, Bool, true, false, cond, ◌&&◌, List, [], ◌∷◌, ◌++◌, length, drop, nat_lt, Option, refl, sym, ap, ap₂, ◌∙◌, append_assoc, take-append-drop}
use Rattle.std.specs.Prelude.{codes}
use Rattle.std.specs.Str.{bytes_eq}
use Rattle.std.proofs.lemmas.Bool.{ltb-true}
use Rattle.desk_base.specs.Names.{Text}
use Rattle.desk_lines.specs.Blanks.{trimmed}
use Rattle.desk_packages.specs.Renames.{Renaming}
use Rattle.desk_rules.specs.Rules.{Rules}
use Rattle.desk_clauses.specs.Quotes.{before_mark, from_mark}
use Rattle.desk_clauses.specs.Grammar.{is_parameter, key, argument, with_argument, between_blanks}
use Rattle.desk_clauses.specs.Cuts.{IsMarkPlace, has_key_of}
use Rattle.desk_clauses.specs.declared.quotes.Quoting.TheVariants.{Outside}
use Rattle.desk_clauses.proofs.Firsts.{stands_behind}
use Rattle.desk_clauses.proofs.Between.{between_own, argument_at}
use Rattle.desk_listings.specs.Images.{is_export, version_name, versioned, uses_image, path_image, parameter_image, part_image}
use Rattle.desk_listings.specs.declared.listings.Listing.{Listing}

abbrev by_keys : Rules → Option Text → Text → Bool → Bool → Text
by_keys rules version part is_version is_list =
    cond is_version (versioned version part)
    (cond is_list (with_argument (between_blanks (uses_image rules.renames (trimmed (argument part))) (argument part)) part) part)

-- the image of a parameter with this key
pub by_key : (rules : Rules) (listing : Listing) (version : Option Text) (part name : Text) (is_version is_list : Bool) → name ≡ key part → bytes_eq name (version_name listing) ≡ is_version → (is_export listing && has_key_of (codes "uses") name) ≡ is_list
    → parameter_image rules listing version part ≡ by_keys rules version part is_version is_list
by_key rules listing version part name is_version is_list name_is v u =
    ap₂ (by_keys rules version part) (ap (λ (t : Text). bytes_eq t (version_name listing)) (sym name_is) ∙ v) (ap (λ (t : Text). is_export listing && has_key_of (codes "uses") t) (sym name_is) ∙ u)

pub versioned_by_key : (rules : Rules) (listing : Listing) (version : Option Text) (part name : Text) → name ≡ key part → bytes_eq name (version_name listing) ≡ true → parameter_image rules listing version part ≡ versioned version part
versioned_by_key rules listing version part name name_is v = by_key rules listing version part name true (is_export listing && has_key_of (codes "uses") name) name_is v refl

-- a parameter with its own argument
pub own_argument : (part : Text) (place : ℕ) → IsMarkPlace part place → with_argument (argument part) part ≡ part
own_argument part place k =
    let at = argument_at part place k in
    sym (append_assoc (before_mark 61 Outside part) (61 ∷ []) (argument part)) ∙ ap₂ (λ (x y : Text). x ++ y) (sym at.0) (sym at.1) ∙ take-append-drop (place + 1) part

pub uses_stay : (renames : List Renaming) (part list : Text) (place : ℕ) → IsMarkPlace part place → list ≡ trimmed (argument part) → uses_image renames list ≡ list
    → with_argument (between_blanks (uses_image renames (trimmed (argument part))) (argument part)) part ≡ part
uses_stay renames part list place k list_is same =
    ap (λ (t : Text). with_argument (between_blanks t (argument part)) part) (ap (uses_image renames) (sym list_is) ∙ same ∙ list_is)
    ∙ ap (λ (t : Text). with_argument t part) (between_own (argument part))
    ∙ own_argument part place k

-- a part without `=` outside quotes
pub no_parameter : (part : Text) (place : ℕ) → drop place part ≡ from_mark 61 Outside part → (place < length part → ⊥) → is_parameter part ≡ false
no_parameter part place from none = sym (stands_behind part (from_mark 61 Outside part) place from) ∙ not_less (nat_lt place (length part)) refl
  where
    not_less : (b : Bool) → nat_lt place (length part) ≡ b → b ≡ false
    not_less true e = absurd (none (ltb-true place (length part) e))
    not_less false e = refl

pub path_stays : (rules : Rules) (listing : Listing) (version : Option Text) (part path : Text) → is_parameter part ≡ false → path ≡ trimmed part → path_image rules listing path ≡ path → part_image rules listing version part ≡ part
path_stays rules listing version part path other path_is same =
    ap (λ (b : Bool). cond b (parameter_image rules listing version part) (between_blanks (path_image rules listing (trimmed part)) part)) other
    ∙ ap (λ (t : Text). between_blanks t part) (ap (path_image rules listing) (sym path_is) ∙ same ∙ path_is)
    ∙ between_own part
