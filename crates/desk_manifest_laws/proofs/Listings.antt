-- The image of a list of clauses is its own image.
use Rattle.std.proofs.Common.{◌≡◌, Bool, true, false, cond, not, ◌&&◌, List, [], ◌∷◌, map, Option, Some, None, refl, ap, ap₂, sym, ◌∙◌, inl, inr}
use Rattle.std.specs.List.{list_all}
use Rattle.std.proofs.lemmas.Bool.{cases_Bool, and_parts, and_from, not-true}
use Rattle.desk_base.specs.Names.{Text, is_empty}
use Rattle.desk_lines.specs.Blanks.{trimmed}
use Rattle.desk_rules.specs.Rules.{Rules}
use Rattle.desk_rules.specs.RuleSets.{IsRuleSet, IsVersionOrNone, changing_update}
use Rattle.desk_clauses.specs.Quotes.{before_mark}
use Rattle.desk_clauses.specs.Grammar.{parts, clauses, value_text, is_parameter, are_parts, is_clause, is_in_grammar, first_path}
use Rattle.desk_clauses.specs.declared.quotes.Quoting.TheVariants.{Outside}
use Rattle.desk_listings.specs.Images.{path_version, or_version, clause_version, part_image, clause_image, listing_image, updated_version, identity_version}
use Rattle.desk_listings.specs.declared.listings.Listing.{Listing}
use Rattle.desk_listings.specs.declared.listings.Listing.TheVariants.{Identity, Bundles}
use Rattle.desk_manifest_laws.proofs.Bare.{is_inner, is_cut, cut_first, value_cut, clauses_filled, clauses-value_text, value_closed}
use Rattle.desk_manifest_laws.proofs.PathImages.{path_version_formed}
use Rattle.desk_manifest_laws.proofs.Parts.{inner_whole, whole_inner, PartKept, path_part, part_kept, as_path}

-- the first part of a value
abbrev head_part : List (List Text) → Text
head_part [] = []
head_part ([] ∷ cs) = []
head_part ((p ∷ ps) ∷ cs) = p

first_head : (value : Text) → head_part (clauses value) ≡ before_mark 59 Outside (before_mark 44 Outside value)
first_head value =
    let c = cut_first 44 Outside value in
    ap (λ (xs : List Text). head_part (map parts xs)) c.1
    ∙ ap (λ (ps : List Text). head_part (ps ∷ map parts c.0)) (cut_first 59 Outside (before_mark 44 Outside value)).1

module _ (rules : Rules) (is : IsRuleSet rules) (listing : Listing) where
  or_formed : (u v : Option Text) → IsVersionOrNone u → IsVersionOrNone v → IsVersionOrNone (or_version u v)
  or_formed None v h g = g
  or_formed (Some u) v h g = h

  -- the version of a clause is one
  pub clause_version_formed : (ps : List Text) → IsVersionOrNone (clause_version rules listing ps)
  clause_version_formed [] = tt
  clause_version_formed (p ∷ ps) = elim (is_parameter p) as (λ (c : Bool). IsVersionOrNone (cond c (clause_version rules listing ps) (or_version (path_version rules listing (trimmed p)) (clause_version rules listing ps)))) [
    | true ↦ clause_version_formed ps
    | false ↦ or_formed (path_version rules listing (trimmed p)) (clause_version rules listing ps) (path_version_formed rules is listing (trimmed p)) (clause_version_formed ps)
  ]

  -- what is kept of the parts of a clause
  record PartsKept (ps new : List Text) : Type 0 where
    inner : list_all is_inner new ≡ true
    filled : is_empty new ≡ is_empty ps
    again : map (part_image rules listing None) new ≡ new
    quiet : clause_version rules listing new ≡ None
    parameters : list_all is_parameter ps ≡ true → list_all is_parameter new ≡ true
    formed : are_parts ps ≡ true → are_parts new ≡ true
    first : is_clause ps ≡ true → is_clause new ≡ true

  quiet_more : (p : Text) (rest : Option Text) → (is_parameter p ≡ false → path_version rules listing (trimmed p) ≡ None) → rest ≡ None → cond (is_parameter p) rest (or_version (path_version rules listing (trimmed p)) rest) ≡ None
  quiet_more p rest h e = elim (is_parameter p) as (λ (c : Bool). is_parameter p ≡ c → cond c rest (or_version (path_version rules listing (trimmed p)) rest) ≡ None) [
    | true ↦ λ k. e
    | false ↦ λ k. ap (λ (v : Option Text). or_version v rest) (h k) ∙ e
  ] refl

  formed_more : (p n : Text) (ps new : List Text) → PartKept rules listing p n → (list_all is_parameter ps ≡ true → list_all is_parameter new ≡ true) → (are_parts ps ≡ true → are_parts new ≡ true) → are_parts (p ∷ ps) ≡ true → are_parts (n ∷ new) ≡ true
  formed_more p n ps new k all more h = elim (is_parameter p) as (λ (c : Bool). is_parameter p ≡ c → cond c (list_all is_parameter ps) (not (is_empty (trimmed p)) && are_parts ps) ≡ true → are_parts (n ∷ new) ≡ true) [
    | true ↦ λ e g. ap (λ (c : Bool). cond c (list_all is_parameter new) (not (is_empty (trimmed n)) && are_parts new)) (k.parameter ∙ e) ∙ all g
    | false ↦ λ e g.
        let both = and_parts _ _ g in
        ap (λ (c : Bool). cond c (list_all is_parameter new) (not (is_empty (trimmed n)) && are_parts new)) (k.parameter ∙ e)
        ∙ and_from _ _ (ap not (k.filled e (not-true _ both.0))) (more both.1)
  ] refl h

  parts_kept : (version : Option Text) → IsVersionOrNone version → (ps : List Text) → list_all is_inner ps ≡ true → PartsKept ps (map (part_image rules listing version) ps)
  parts_kept version v [] h = record { inner = refl; filled = refl; again = refl; quiet = refl; parameters = λ k. k; formed = λ k. k; first = λ k. k }
  parts_kept version v (p ∷ ps) h =
      let n : Text = part_image rules listing version p in
      let new : List Text = map (part_image rules listing version) ps in
      let one : PartKept rules listing p n = part_kept rules is listing version v p (and_parts _ _ h).0 in
      let more : PartsKept ps new = parts_kept version v ps (and_parts _ _ h).1 in
      record {
        inner = and_from _ _ (whole_inner n one.whole) more.inner;
        filled = refl;
        again = ap₂ (λ (x : Text) (xs : List Text). x ∷ xs) one.again more.again;
        quiet = quiet_more n (clause_version rules listing new) (λ k. one.quiet (sym one.parameter ∙ k)) more.quiet;
        parameters = λ k. and_from _ _ (one.parameter ∙ (and_parts _ _ k).0) (more.parameters (and_parts _ _ k).1);
        formed = formed_more p n ps new one more.parameters more.formed;
        first = λ k. and_from _ _ (ap not one.parameter ∙ (and_parts _ _ k).0) (formed_more p n ps new one more.parameters more.formed (and_parts _ _ k).1);
      }

  -- what is kept of clauses
  record ClausesKept (cs new : List (List Text)) : Type 0 where
    cut : list_all is_cut new ≡ true
    filled : is_empty new ≡ is_empty cs
    formed : list_all is_clause new ≡ true
    again : map (clause_image rules listing) new ≡ new

  clauses_kept : (cs : List (List Text)) → list_all is_cut cs ≡ true → list_all is_clause cs ≡ true → ClausesKept cs (map (clause_image rules listing) cs)
  clauses_kept [] h g = record { cut = refl; filled = refl; formed = refl; again = refl }
  clauses_kept (c ∷ cs) h g =
      let new : List Text = clause_image rules listing c in
      let cut_one = and_parts _ _ (and_parts _ _ h).0 in
      let one : PartsKept c new = parts_kept (clause_version rules listing c) (clause_version_formed c) c cut_one.1 in
      let more : ClausesKept cs (map (clause_image rules listing) cs) = clauses_kept cs (and_parts _ _ h).1 (and_parts _ _ g).1 in
      record {
        cut = and_from _ _ (and_from _ _ (ap not one.filled ∙ cut_one.0) one.inner) more.cut;
        filled = refl;
        formed = and_from _ _ (one.first (and_parts _ _ g).0) more.formed;
        again = ap₂ (λ (x : List Text) (xs : List (List Text)). x ∷ xs) (ap (λ (w : Option Text). map (part_image rules listing w) new) one.quiet ∙ one.again) more.again;
      }

  -- the image of a value in the grammar
  record ValueKept (value : Text) : Type 0 where
    cut : clauses (listing_image rules listing value) ≡ map (clause_image rules listing) (clauses value)
    again : listing_image rules listing (listing_image rules listing value) ≡ listing_image rules listing value

  in_grammar : (value : Text) → is_in_grammar value ≡ true → listing_image rules listing value ≡ value_text (map (clause_image rules listing) (clauses value))
  in_grammar value h = ap (λ (c : Bool). cond c (value_text (map (clause_image rules listing) (clauses value))) value) h

  value_kept : (value : Text) → is_in_grammar value ≡ true → ValueKept value
  value_kept value h =
      let both = and_parts _ _ h in
      let cs : List (List Text) = map (clause_image rules listing) (clauses value) in
      let k : ClausesKept (clauses value) cs = clauses_kept (clauses value) (value_cut value both.0) both.1 in
      let back : clauses (value_text cs) ≡ cs = clauses-value_text cs (k.filled ∙ clauses_filled value) k.cut in
      let at : listing_image rules listing value ≡ value_text cs = in_grammar value h in
      let fine : is_in_grammar (value_text cs) ≡ true = and_from _ _ (value_closed cs k.cut) (ap (list_all is_clause) back ∙ k.formed) in
      record {
        cut = ap clauses at ∙ back;
        again = ap (listing_image rules listing) at ∙ in_grammar (value_text cs) fine ∙ ap (λ (ds : List (List Text)). value_text (map (clause_image rules listing) ds)) back ∙ ap value_text k.again ∙ sym at;
      }

  outside_grammar : (value : Text) → is_in_grammar value ≡ false → listing_image rules listing value ≡ value
  outside_grammar value h = ap (λ (c : Bool). cond c (value_text (map (clause_image rules listing) (clauses value))) value) h

  -- the image of a value is its own image
  pub listing_again : (value : Text) → listing_image rules listing (listing_image rules listing value) ≡ listing_image rules listing value
  listing_again value = elim (cases_Bool (is_in_grammar value)) [
    | inl h ↦ (value_kept value h).again
    | inr h ↦ ap (listing_image rules listing) (outside_grammar value h)
  ]

-- ---- the bundle's own name

module _ (rules : Rules) (is : IsRuleSet rules) where
  head_quiet : (cs : List (List Text)) → list_all is_cut cs ≡ true → list_all is_clause cs ≡ true → is_empty cs ≡ false → updated_version (changing_update rules.bundles (trimmed (head_part (map (clause_image rules Identity) cs)))) ≡ None
  head_quiet [] h g e = absurd cc
  head_quiet ([] ∷ cs) h g e = absurd cc
  head_quiet ((p ∷ ps) ∷ cs) h g e =
      let path : is_parameter p ≡ false = not-true _ (and_parts _ _ (and_parts _ _ g).0).0 in
      let inner : is_inner p ≡ true = (and_parts _ _ (and_parts _ _ h).0).0 in
      let k = path_part rules is Bundles p path (inner_whole p inner) in
      ap (λ (t : Text). updated_version (changing_update rules.bundles (trimmed t))) (as_path rules is Identity (clause_version rules Identity (p ∷ ps)) p path) ∙ k.quiet path

  either_none : (c : Bool) (v : Option Text) → (c ≡ true → v ≡ None) → cond c v None ≡ None
  either_none true v h = h refl
  either_none false v h = refl

  -- an image has no new version
  pub identity_quiet : (value : Text) → identity_version rules (listing_image rules Identity value) ≡ None
  identity_quiet value = elim (cases_Bool (is_in_grammar value)) [
    | inl h ↦
        let both = and_parts _ _ h in
        let new : Text = listing_image rules Identity value in
        let k = value_kept rules is Identity value h in
        either_none (is_in_grammar new) (updated_version (changing_update rules.bundles (first_path new))) (λ _.
        ap (λ (t : Text). updated_version (changing_update rules.bundles (trimmed t))) (sym (first_head new) ∙ ap head_part k.cut)
        ∙ head_quiet (clauses value) (value_cut value both.0) both.1 (clauses_filled value))
    | inr h ↦
        ap (identity_version rules) (outside_grammar rules is Identity value h)
        ∙ ap (λ (c : Bool). cond c (updated_version (changing_update rules.bundles (first_path value))) None) h
  ]
