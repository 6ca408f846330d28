-- A clause, read part by part: the version that it gets is known before its first parameter.
use Rattle.std.proofs.Common.{◌≡◌, ℕ, Bool, true, false, cond, not, ◌&&◌, List, [], ◌∷◌, Option, Some, None, is_some, Bor, refl, sym, ap, subst, ◌∙◌}
use Rattle.std.specs.List.{list_all}
use Rattle.std.specs.Option.{option_copied}
use Rattle.std.proofs.lemmas.Bool.{and_parts}
use Rattle.desk_base.specs.Names.{Text, is_empty}
use Rattle.desk_lines.specs.Blanks.{trimmed}
use Rattle.desk_rules.specs.Rules.{Rules}
use Rattle.desk_clauses.specs.Grammar.{parts, is_parameter, are_parts, is_clause, between_blanks}
use Rattle.desk_clauses.specs.Cuts.{parts_of, IsFirstPart}
use Rattle.desk_clauses.specs.Places.{place_behind}
use Rattle.desk_clauses.specs.declared.edits.Edits.{Edits}
use Rattle.desk_clauses.specs.declared.grammar.ClausePlace.{ClausePlace}
use Rattle.desk_clauses.specs.declared.grammar.ClausePlace.TheVariants.{Start, BehindPath, BehindParameter}
use Rattle.desk_clauses.proofs.Firsts.{may_stand, parameter_behind, behind_parameter}
use Rattle.desk_clauses.proofs.Walked.{IsGone}
use Rattle.desk_listings.specs.Images.{path_image, path_version, or_version, clause_version, version_behind, parameter_image, part_image}
use Rattle.desk_listings.specs.declared.listings.Listing.{Listing}

or_none : (v : Option Text) → or_version v None ≡ v
or_none None = refl
or_none (Some t) = refl

or_or : (u v w : Option Text) → or_version (or_version u v) w ≡ or_version u (or_version v w)
or_or None v w = refl
or_or (Some t) v w = refl

-- the version of the first path that brings one, among those before the first parameter
abbrev pub leading_version : Rules → Listing → List Text → Option Text
leading_version rules listing [] = None
leading_version rules listing (p ∷ ps) = cond (is_parameter p) None (or_version (path_version rules listing (trimmed p)) (leading_version rules listing ps))

-- the version that a clause gets, by the one that was brought up to a place
abbrev pub version_left : Rules → Listing → ClausePlace → Option Text → Option Text → Option Text
version_left rules listing Start version rest = or_version version (leading_version rules listing (parts_of parts rest))
version_left rules listing BehindPath version rest = or_version version (leading_version rules listing (parts_of parts rest))
version_left rules listing BehindParameter version rest = version

-- a clause was gone over up to a place
pub record IsClauseGone (rules : Rules) (listing : Listing) (clause : Text) (edits : Edits) (from : ℕ) (place : ClausePlace) (version rest : Option Text) : Type 0 where
  pub gone : IsGone parts 59 (part_image rules listing (leading_version rules listing (parts clause))) clause edits from rest
  pub formed : is_clause (parts clause) ≡ may_stand place rest
  pub brought : version_left rules listing place version rest ≡ leading_version rules listing (parts clause)

module _ (rules : Rules) (listing : Listing) where
  parameters_bring_none : (ps : List Text) → list_all is_parameter ps ≡ true → clause_version rules listing ps ≡ None
  parameters_bring_none [] h = refl
  parameters_bring_none (p ∷ ps) h =
      let k = and_parts (is_parameter p) (list_all is_parameter ps) h in
      ap (λ (b : Bool). cond b (clause_version rules listing ps) (or_version (path_version rules listing (trimmed p)) (clause_version rules listing ps))) k.0
      ∙ parameters_bring_none ps k.1

  paths_lead : (ps : List Text) → are_parts ps ≡ true → leading_version rules listing ps ≡ clause_version rules listing ps
  paths_lead [] h = refl
  paths_lead (p ∷ ps) h =
      elim (is_parameter p) as (λ (c : Bool). cond c (list_all is_parameter ps) (not (is_empty (trimmed p)) && are_parts ps) ≡ true
      → cond c None (or_version (path_version rules listing (trimmed p)) (leading_version rules listing ps))
      ≡ cond c (clause_version rules listing ps) (or_version (path_version rules listing (trimmed p)) (clause_version rules listing ps))) [
        | true ↦ λ k. sym (parameters_bring_none ps k)
        | false ↦ λ k. ap (or_version (path_version rules listing (trimmed p))) (paths_lead ps (and_parts (not (is_empty (trimmed p))) (are_parts ps) k).1)
      ] h

  -- in the grammar all paths stand before the first parameter
  pub leading_is : (ps : List Text) → is_clause ps ≡ true → leading_version rules listing ps ≡ clause_version rules listing ps
  leading_is [] h = refl
  leading_is (p ∷ ps) h = paths_lead (p ∷ ps) (and_parts (not (is_parameter p)) (are_parts (p ∷ ps)) h).1

  -- a part brings no version behind one that did, and none as a parameter
  pub brought_stays : (version : Option (Bor Text)) (part : Text) → is_some version ≡ true → option_copied version ≡ version_behind rules listing (option_copied version) part
  brought_stays None part h = absurd cc
  brought_stays (Some b) part h = by (is_parameter part)
    where
      by : (x : Bool) → Some b.now ≡ cond x (Some b.now) (Some b.now)
      by true = refl
      by false = refl

  pub parameter_stays : (version : Option Text) (part : Text) → is_parameter part ≡ true → version ≡ version_behind rules listing version part
  parameter_stays version part e = sym (ap (λ (b : Bool). cond b version (or_version version (path_version rules listing (trimmed part)))) e)

  to_path : (next : ClausePlace) (v own : Option Text) (more : Option Text) → Some BehindPath ≡ Some next → version_left rules listing next (or_version v own) more ≡ or_version v (or_version own (leading_version rules listing (parts_of parts more)))
  to_path next v own more k =
      let same : BehindPath ≡ next = cc in
      subst (λ (n : ClausePlace). version_left rules listing n (or_version v own) more ≡ or_version v (or_version own (leading_version rules listing (parts_of parts more)))) same
      (or_or v own (leading_version rules listing (parts_of parts more)))

  -- one more part is read
  pub version_read : (place next : ClausePlace) (v : Option Text) (t part : Text) (more : Option Text) → IsFirstPart 59 t part more → place_behind place part ≡ Some next
      → version_left rules listing next (version_behind rules listing v part) more ≡ version_left rules listing place v (Some t)
  version_read Start next v t part more first go = by (is_parameter part) (is_empty (trimmed part)) go ∙ sym (ap (λ (ps : List Text). or_version v (leading_version rules listing ps)) first.parts)
    where
      by : (x e : Bool) → cond x None (cond e None (Some BehindPath)) ≡ Some next
          → version_left rules listing next (cond x v (or_version v (path_version rules listing (trimmed part)))) more
          ≡ or_version v (cond x None (or_version (path_version rules listing (trimmed part)) (leading_version rules listing (parts_of parts more))))
      by true e k = absurd cc
      by false true k = absurd cc
      by false false k = to_path next v (path_version rules listing (trimmed part)) more k
  version_read BehindPath next v t part more first go = by (is_parameter part) (is_empty (trimmed part)) go ∙ sym (ap (λ (ps : List Text). or_version v (leading_version rules listing ps)) first.parts)
    where
      by : (x e : Bool) → cond x (Some BehindParameter) (cond e None (Some BehindPath)) ≡ Some next
          → version_left rules listing next (cond x v (or_version v (path_version rules listing (trimmed part)))) more
          ≡ or_version v (cond x None (or_version (path_version rules listing (trimmed part)) (leading_version rules listing (parts_of parts more))))
      by true e k =
          let same : BehindParameter ≡ next = cc in
          subst (λ (n : ClausePlace). version_left rules listing n v more ≡ or_version v None) same (sym (or_none v))
      by false true k = absurd cc
      by false false k = to_path next v (path_version rules listing (trimmed part)) more k
  version_read BehindParameter next v t part more first go = by (is_parameter part) go
    where
      by : (x : Bool) → cond x (Some BehindParameter) None ≡ Some next → version_left rules listing next (cond x v (or_version v (path_version rules listing (trimmed part)))) more ≡ v
      by true k =
          let same : BehindParameter ≡ next = cc in
          subst (λ (n : ClausePlace). version_left rules listing n v more ≡ v) same refl
      by false k = absurd cc

  -- a parameter that may stand at a place
  parameter_next : (place next : ClausePlace) (part : Text) → is_parameter part ≡ true → place_behind place part ≡ Some next → BehindParameter ≡ next
  parameter_next place next part e go = by place (sym (behind_parameter place part e) ∙ go)
    where
      by : (place : ClausePlace) → parameter_behind place ≡ Some next → BehindParameter ≡ next
      by Start k = absurd cc
      by BehindPath k = cc
      by BehindParameter k = cc

  -- the version that was brought up to a part is the clause's, where the part is a parameter
  pub brought_image : (place next : ClausePlace) (v all : Option Text) (part : Text) (more : Option Text) → place_behind place part ≡ Some next → version_left rules listing next (version_behind rules listing v part) more ≡ all
      → part_image rules listing (version_behind rules listing v part) part ≡ part_image rules listing all part
  brought_image place next v all part more go left = by (is_parameter part) refl
    where
      brought : Option Text
      brought = version_behind rules listing v part

      image : Option Text → Bool → Text
      image w c = cond c (parameter_image rules listing w part) (between_blanks (path_image rules listing (trimmed part)) part)

      by : (x : Bool) → is_parameter part ≡ x → part_image rules listing brought part ≡ part_image rules listing all part
      by false e = ap (image brought) e ∙ sym (ap (image all) e)
      by true e = ap (λ (w : Option Text). part_image rules listing w part) (subst (λ (n : ClausePlace). version_left rules listing n brought more ≡ all) (sym (parameter_next place next part e go)) left)
