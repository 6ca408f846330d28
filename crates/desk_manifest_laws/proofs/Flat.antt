-- The image of a list of clauses has no line end where the value has none.
use Rattle.std.proofs.Common.{◌≡◌, ℕ, Bool, true, false, cond, not, ◌&&◌, ◌==◌, List, [], ◌∷◌, ◌++◌, map, take, drop, length, Option, Some, None, refl, ap, sym, ◌∙◌, take-append-drop, ◌-◌}
use Rattle.std.specs.Prelude.{codes}
use Rattle.std.specs.List.{list_all, slice_split, onto_first as onto_item}
use Rattle.std.specs.Str.{bytes_eq}
use Rattle.std.proofs.lemmas.Bool.{and_parts, and_from}
use Rattle.std.proofs.lemmas.List.Folds.{list_all-append}
use Rattle.desk_base.specs.Names.{Text, is_dotted}
use Rattle.desk_base.proofs.Lists.{all_weaker}
use Rattle.desk_lines.specs.Lines.{rest, is_one_line}
use Rattle.desk_lines.specs.Cuts.{onward}
use Rattle.desk_lines.specs.Blanks.{is_blank, not_blank, leading_blanks, trailing_blanks, trimmed}
use Rattle.desk_lines.proofs.Trimming.{all_blank}
use Rattle.desk_entries.specs.Forms.{is_version, is_version_byte}
use Rattle.desk_rules.specs.Rules.{Rules}
use Rattle.desk_rules.specs.RuleSets.{IsRuleSet, IsVersionOrNone}
use Rattle.desk_clauses.specs.Quotes.{next, is_outside, onto_first, cut, before_mark, from_mark, with_marks}
use Rattle.desk_clauses.specs.Grammar.{parts, clauses, clause_text, value_text, is_parameter, key, argument, ends_in_colon, but_last, between_blanks, with_argument, is_in_grammar, is_quoted, unquoted, quoted}
use Rattle.desk_clauses.specs.declared.quotes.Quoting.{Quoting}
use Rattle.desk_clauses.specs.declared.quotes.Quoting.TheVariants.{Outside}
use Rattle.desk_clauses.proofs.Between.{between_own}
use Rattle.desk_listings.specs.Images.{package_image, item_image, list_image, uses_image, is_export, path_image, version_name, versioned, parameter_image, part_image, clause_version, clause_image, listing_image}
use Rattle.desk_listings.specs.declared.listings.Listing.{Listing}
use Rattle.desk_manifest_laws.proofs.Trimmed.{leading_blank}
use Rattle.desk_manifest_laws.proofs.Plain.{is_mild, mild_parts, is_plain, version_quotable, blank_mild, plain_mild}
use Rattle.desk_manifest_laws.proofs.PathImages.{kept_same, made_plain, path_kept, package_kept, dotted_plain}
use Rattle.desk_manifest_laws.proofs.Listings.{clause_version_formed}

abbrev pub is_flat : ℕ → Bool
is_flat b = not (b == 10) && not (b == 13)

pub flat_both : (x y : Text) → is_one_line x ≡ true → is_one_line y ≡ true → is_one_line (x ++ y) ≡ true
flat_both x y h g = list_all-append is_flat x y ∙ and_from _ _ h g

pub flat_parts : (x y : Text) → is_one_line (x ++ y) ≡ true → (is_one_line x ≡ true) × (is_one_line y ≡ true)
flat_parts x y h = and_parts _ _ (sym (list_all-append is_flat x y) ∙ h)

mild_flat : (b : ℕ) → is_mild b ≡ true → is_flat b ≡ true
mild_flat b h = (mild_parts b h).line

pub plain_flat : (t : Text) → list_all is_plain t ≡ true → is_one_line t ≡ true
plain_flat t h = all_weaker is_plain is_flat (λ b k. mild_flat b (plain_mild b k)) t h

blank_flat : (t : Text) → list_all is_blank t ≡ true → is_one_line t ≡ true
blank_flat t h = all_weaker is_blank is_flat (λ b k. mild_flat b (blank_mild b k)) t h

version_line : (b : ℕ) → is_version_byte b ≡ true → is_flat b ≡ true
version_line b h = (and_parts (not (b == 92)) (not (b == 10) && not (b == 13)) (and_parts (not (b == 34)) (not (b == 92) && (not (b == 10) && not (b == 13))) (version_quotable b h)).1).1

pub version_flat : (v : Text) → is_version v ≡ true → is_one_line v ≡ true
version_flat v h = all_weaker is_version_byte is_flat version_line v (and_parts _ _ h).1

pub flat_between : (x t : Text) → is_one_line x ≡ true → is_one_line (between_blanks x t) ≡ true
flat_between x t h =
    flat_both (leading_blanks t) (x ++ trailing_blanks (onward not_blank t)) (blank_flat (leading_blanks t) (leading_blank t))
    (flat_both x (trailing_blanks (onward not_blank t)) h (blank_flat (trailing_blanks (onward not_blank t)) (all_blank (onward not_blank t))))

pub flat_trimmed : (t : Text) → is_one_line t ≡ true → is_one_line (trimmed t) ≡ true
flat_trimmed t h = (flat_parts (trimmed t) (trailing_blanks (onward not_blank t)) (flat_parts (leading_blanks t) (trimmed t ++ trailing_blanks (onward not_blank t)) (ap is_one_line (between_own t) ∙ h)).1).0

flat_rest : (t : Text) → is_one_line t ≡ true → is_one_line (rest t) ≡ true
flat_rest [] h = refl
flat_rest (b ∷ t) h = (and_parts _ _ h).1

flat_take : (n : ℕ) (t : Text) → is_one_line t ≡ true → is_one_line (take n t) ≡ true
flat_take n t h = (flat_parts (take n t) (drop n t) (ap is_one_line (take-append-drop n t) ∙ h)).0

-- ---- cut and put together

abbrev all_flat : List Text → Bool
all_flat = list_all is_one_line

onto_flat : (b : ℕ) (ps : List Text) → is_flat b ≡ true → all_flat ps ≡ true → all_flat (onto_first b ps) ≡ true
onto_flat b [] h g = and_from _ _ (and_from _ _ h refl) refl
onto_flat b (p ∷ ps) h g = and_from _ _ (and_from _ _ h (and_parts _ _ g).0) (and_parts _ _ g).1

cut_flat : (mark : ℕ) (at : Quoting) (t : Text) → is_one_line t ≡ true → all_flat (cut mark at t) ≡ true
cut_flat mark at [] h = refl
cut_flat mark at (b ∷ t) h = elim (is_outside at && b == mark) as (λ (c : Bool). all_flat (cond c ([] ∷ cut mark at t) (onto_first b (cut mark (next at b) t))) ≡ true) [
  | true ↦ cut_flat mark at t (and_parts _ _ h).1
  | false ↦ onto_flat b (cut mark (next at b) t) (and_parts _ _ h).0 (cut_flat mark (next at b) t (and_parts _ _ h).1)
]

onto_item_flat : (b : ℕ) (ps : List Text) → is_flat b ≡ true → all_flat ps ≡ true → all_flat (onto_item b ps) ≡ true
onto_item_flat b [] h g = and_from _ _ (and_from _ _ h refl) refl
onto_item_flat b (p ∷ ps) h g = and_from _ _ (and_from _ _ h (and_parts _ _ g).0) (and_parts _ _ g).1

split_flat : (t : Text) → is_one_line t ≡ true → all_flat (slice_split (λ b. b == 44) t) ≡ true
split_flat [] h = refl
split_flat (b ∷ t) h = elim (b == 44) as (λ (c : Bool). all_flat (cond c ([] ∷ slice_split (λ b. b == 44) t) (onto_item b (slice_split (λ b. b == 44) t))) ≡ true) [
  | true ↦ split_flat t (and_parts _ _ h).1
  | false ↦ onto_item_flat b (slice_split (λ b. b == 44) t) (and_parts _ _ h).0 (split_flat t (and_parts _ _ h).1)
]

marks_flat : (mark : ℕ) → is_flat mark ≡ true → (ps : List Text) → all_flat ps ≡ true → is_one_line (with_marks mark ps) ≡ true
marks_flat mark m [] h = refl
marks_flat mark m (p ∷ []) h = (and_parts _ _ h).0
marks_flat mark m (p ∷ q ∷ ps) h = flat_both p (mark ∷ with_marks mark (q ∷ ps)) (and_parts _ _ h).0 (and_from _ _ m (marks_flat mark m (q ∷ ps) (and_parts _ _ h).1))

before_flat : (mark : ℕ) (at : Quoting) (t : Text) → is_one_line t ≡ true → (is_one_line (before_mark mark at t) ≡ true) × (is_one_line (from_mark mark at t) ≡ true)
before_flat mark at [] h = (refl, refl)
before_flat mark at (b ∷ t) h = elim (is_outside at && b == mark) as (λ (c : Bool). (is_one_line (cond c [] (b ∷ before_mark mark (next at b) t)) ≡ true) × (is_one_line (cond c (b ∷ t) (from_mark mark (next at b) t)) ≡ true)) [
  | true ↦ (refl, h)
  | false ↦ let more = before_flat mark (next at b) t (and_parts _ _ h).1 in (and_from _ _ (and_parts _ _ h).0 more.0, more.1)
]

argued_flat : (part a : Text) → is_one_line part ≡ true → is_one_line a ≡ true → is_one_line (with_argument a part) ≡ true
argued_flat part a h g = flat_both (before_mark 61 Outside part) (61 ∷ a) (before_flat 61 Outside part h).0 g

argument_flat : (part : Text) → is_one_line part ≡ true → is_one_line (argument part) ≡ true
argument_flat part h = flat_rest (from_mark 61 Outside part) (before_flat 61 Outside part h).1

cond_flat : (c : Bool) (x y : Text) → is_one_line x ≡ true → is_one_line y ≡ true → is_one_line (cond c x y) ≡ true
cond_flat true x y h g = h
cond_flat false x y h g = g

quoted_flat : (t : Text) → is_one_line t ≡ true → is_one_line (quoted t) ≡ true
quoted_flat t h = flat_both t (34 ∷ []) h refl

module _ (rules : Rules) (is : IsRuleSet rules) where
  name_flat : (t : Text) → is_one_line t ≡ true → is_one_line (cond (is_dotted t) (package_image rules.renames t) t) ≡ true
  name_flat t h = elim (is_dotted t) as (λ (c : Bool). is_dotted t ≡ c → is_one_line (cond c (package_image rules.renames t) t) ≡ true) [
    | true ↦ λ e. plain_flat (package_image rules.renames t) (dotted_plain (package_image rules.renames t) (package_kept rules is t e).named)
    | false ↦ λ e. h
  ] refl

  items_flat : (xs : List Text) → all_flat xs ≡ true → all_flat (map (item_image rules.renames) xs) ≡ true
  items_flat [] h = refl
  items_flat (x ∷ xs) h =
      and_from _ _ (flat_between (cond (is_dotted (trimmed x)) (package_image rules.renames (trimmed x)) (trimmed x)) x (name_flat (trimmed x) (flat_trimmed x (and_parts _ _ h).0))) (items_flat xs (and_parts _ _ h).1)

  list_flat : (list : Text) → is_one_line list ≡ true → is_one_line (list_image rules.renames list) ≡ true
  list_flat list h = marks_flat 44 refl (map (item_image rules.renames) (slice_split (λ b. b == 44) list)) (items_flat (slice_split (λ b. b == 44) list) (split_flat list h))

  uses_flat : (list : Text) → is_one_line list ≡ true → is_one_line (uses_image rules.renames list) ≡ true
  uses_flat list h =
      cond_flat (is_quoted list) (quoted (list_image rules.renames (unquoted list))) (list_image rules.renames list)
      (quoted_flat (list_image rules.renames (unquoted list)) (list_flat (unquoted list) (flat_take (length list - 2) (rest list) (flat_rest list h)))) (list_flat list h)

  module _ (listing : Listing) where
    path_flat : (path : Text) → is_one_line path ≡ true → is_one_line (path_image rules listing path) ≡ true
    path_flat path h = elim (path_kept rules is listing path).either [
      | kept_same e ↦ ap is_one_line e ∙ h
      | made_plain all some ↦ plain_flat (path_image rules listing path) all
    ]

    versioned_flat : (version : Option Text) → IsVersionOrNone version → (part : Text) → is_one_line part ≡ true → is_one_line (versioned version part) ≡ true
    versioned_flat None v part h = h
    versioned_flat (Some version) v part h = argued_flat part (between_blanks (quoted version) (argument part)) h (flat_between (quoted version) (argument part) (quoted_flat version (version_flat version v)))

    parameter_flat : (version : Option Text) → IsVersionOrNone version → (part : Text) → is_one_line part ≡ true → is_one_line (parameter_image rules listing version part) ≡ true
    parameter_flat version v part h =
        let list : Bool = is_export listing && (ends_in_colon (key part) && bytes_eq (trimmed (but_last (key part))) (codes "uses")) in
        let other : Text = with_argument (between_blanks (uses_image rules.renames (trimmed (argument part))) (argument part)) part in
        cond_flat (bytes_eq (key part) (version_name listing)) (versioned version part) (cond list other part) (versioned_flat version v part h)
        (cond_flat list other part (argued_flat part (between_blanks (uses_image rules.renames (trimmed (argument part))) (argument part)) h
        (flat_between (uses_image rules.renames (trimmed (argument part))) (argument part) (uses_flat (trimmed (argument part)) (flat_trimmed (argument part) (argument_flat part h))))) h)

    parts_flat : (version : Option Text) → IsVersionOrNone version → (ps : List Text) → all_flat ps ≡ true → all_flat (map (part_image rules listing version) ps) ≡ true
    parts_flat version v [] h = refl
    parts_flat version v (p ∷ ps) h =
        let one : is_one_line p ≡ true = (and_parts _ _ h).0 in
        and_from _ _
        (cond_flat (is_parameter p) (parameter_image rules listing version p) (between_blanks (path_image rules listing (trimmed p)) p) (parameter_flat version v p one)
        (flat_between (path_image rules listing (trimmed p)) p (path_flat (trimmed p) (flat_trimmed p one))))
        (parts_flat version v ps (and_parts _ _ h).1)

    clauses_flat : (cs : List Text) → all_flat cs ≡ true → all_flat (map clause_text (map (clause_image rules listing) (map parts cs))) ≡ true
    clauses_flat [] h = refl
    clauses_flat (c ∷ cs) h =
        and_from _ _
        (marks_flat 59 refl (clause_image rules listing (parts c)) (parts_flat (clause_version rules listing (parts c)) (clause_version_formed rules is listing (parts c)) (parts c) (cut_flat 59 Outside c (and_parts _ _ h).0)))
        (clauses_flat cs (and_parts _ _ h).1)

    -- the image of a value in one line is in one line
    pub listing_flat : (value : Text) → is_one_line value ≡ true → is_one_line (listing_image rules listing value) ≡ true
    listing_flat value h =
        cond_flat (is_in_grammar value) (value_text (map (clause_image rules listing) (clauses value))) value
        (marks_flat 44 refl (map clause_text (map (clause_image rules listing) (clauses value))) (clauses_flat (cut 44 Outside value) (cut_flat 44 Outside value h))) h
