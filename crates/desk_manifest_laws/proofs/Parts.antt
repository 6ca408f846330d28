-- Images of the parts of clauses are parts, and their own images.
use Rattle.std.proofs.Common.{◌≡◌, ℕ, Bool, true, false, cond, not, ◌&&◌, ◌==◌, [], ◌∷◌, ◌++◌, Option, Some, None, refl, ap, ap₂, sym, subst, ◌∙◌, inl, inr}
use Rattle.std.specs.Prelude.{codes}
use Rattle.std.specs.List.{list_all}
use Rattle.std.specs.Str.{bytes_eq}
use Rattle.std.proofs.lemmas.Bool.{cases_Bool, and_parts, and_from, not-true, eqb-true, both_ways}
use Rattle.std.proofs.lemmas.List.Folds.{list_all-append}
use Rattle.desk_base.specs.Names.{Text, is_empty}
use Rattle.desk_base.proofs.Lists.{all_weaker}
use Rattle.desk_lines.specs.Lines.{rest}
use Rattle.desk_lines.specs.Cuts.{onward}
use Rattle.desk_lines.specs.Blanks.{is_blank, not_blank, leading_blanks, trailing_blanks, trimmed}
use Rattle.desk_lines.proofs.Trimming.{all_blank, is_trimmed}
use Rattle.desk_entries.specs.Forms.{is_version, is_version_byte}
use Rattle.desk_rules.specs.Rules.{Rules}
use Rattle.desk_rules.specs.RuleSets.{IsRuleSet, IsVersionOrNone}
use Rattle.desk_clauses.specs.Quotes.{next, is_outside, before_mark, from_mark}
use Rattle.desk_clauses.specs.Grammar.{is_parameter, key, argument, ends_in_colon, but_last, between_blanks, with_argument, quoted}
use Rattle.desk_clauses.specs.declared.quotes.Quoting.{Quoting}
use Rattle.desk_clauses.specs.declared.quotes.Quoting.TheVariants.{Outside, Quoted, Escaped}
use Rattle.desk_clauses.proofs.Between.{between_own}
use Rattle.desk_clauses.proofs.Firsts.{before_from, outside_is}
use Rattle.desk_listings.specs.Images.{uses_image, is_export, path_image, path_version, version_name, versioned, parameter_image, part_image}
use Rattle.desk_listings.specs.declared.listings.Listing.{Listing}
use Rattle.desk_manifest_laws.proofs.Bare.{after, bare, after-append, bare_both, bare_parts, is_inner, before_bare, none_bare, bare_before, outside_before}
use Rattle.desk_manifest_laws.proofs.Trimmed.{trimmed-between, between_again, unblank_trimmed, leading_blank}
use Rattle.desk_manifest_laws.proofs.Plain.{is_mild, is_plain, is_quotable, version_quotable, blank_mild, plain_mild, plain_unblank, after_mild, bare_mild, after_quoted, bare_quoted, IsMark, comma, semicolon, equals}
use Rattle.desk_manifest_laws.proofs.PathImages.{kept_same, made_plain, PathKept, path_kept}
use Rattle.desk_manifest_laws.proofs.Uses.{UsesKept, uses_kept}

-- ---- texts that a reader passes

-- no mark of clauses stands in it, and no quote is open behind it
pub record Through (t : Text) : Type 0 where
  pub unmarked : (mark : ℕ) → IsMark mark → bare mark Outside t ≡ true
  pub state : after Outside t ≡ Outside

pub through_mild : (t : Text) → list_all is_mild t ≡ true → Through t
through_mild t h = record { unmarked = λ mark m. bare_mild mark m Outside t refl h; state = after_mild Outside t refl h }

-- the marks between clauses and between parts
pub data IsCutMark : ℕ → Type 0 where
  between_clauses : IsCutMark 44
  between_parts : IsCutMark 59

cut_mark : (mark : ℕ) → IsCutMark mark → IsMark mark
cut_mark mark between_clauses = comma
cut_mark mark between_parts = semicolon

-- a text that holds neither of these two
pub record Whole (t : Text) : Type 0 where
  pub unmarked : (mark : ℕ) → IsCutMark mark → bare mark Outside t ≡ true
  pub state : after Outside t ≡ Outside

pub whole_through : (t : Text) → Through t → Whole t
whole_through t h = record { unmarked = λ mark m. h.unmarked mark (cut_mark mark m); state = h.state }

pub whole_both : (x y : Text) → Whole x → Whole y → Whole (x ++ y)
whole_both x y h g = record {
  unmarked = λ mark m. bare_both mark Outside x y (h.unmarked mark m) (ap (λ (r : Quoting). bare mark r y) h.state ∙ g.unmarked mark m);
  state = after-append Outside x y ∙ ap (λ (r : Quoting). after r y) h.state ∙ g.state;
}

pub inner_whole : (t : Text) → is_inner t ≡ true → Whole t
inner_whole t h =
    let first = and_parts _ _ (and_parts _ _ h).0 in
    record {
      unmarked = λ mark m. each mark m;
      state = outside_is (after Outside t) first.1;
    }
  where
    each : (mark : ℕ) → IsCutMark mark → bare mark Outside t ≡ true
    each mark between_clauses = (and_parts _ _ (and_parts _ _ h).0).0
    each mark between_parts = (and_parts _ _ (and_parts _ _ h).1).0

pub whole_inner : (t : Text) → Whole t → is_inner t ≡ true
whole_inner t h =
    let out : is_outside (after Outside t) ≡ true = ap is_outside h.state in
    and_from _ _ (and_from _ _ (h.unmarked 44 between_clauses) out) (and_from _ _ (h.unmarked 59 between_parts) out)

whole_blank : (t : Text) → list_all is_blank t ≡ true → Whole t
whole_blank t h = whole_through t (through_mild t (all_weaker is_blank is_mild blank_mild t h))

pub whole_between : (x t : Text) → Whole x → Whole (between_blanks x t)
whole_between x t h =
    whole_both (leading_blanks t) (x ++ trailing_blanks (onward not_blank t)) (whole_blank (leading_blanks t) (leading_blank t))
    (whole_both x (trailing_blanks (onward not_blank t)) h (whole_blank (trailing_blanks (onward not_blank t)) (all_blank (onward not_blank t))))

pub between_mild : (x t : Text) → list_all is_mild x ≡ true → list_all is_mild (between_blanks x t) ≡ true
between_mild x t h =
    list_all-append is_mild (leading_blanks t) (x ++ trailing_blanks (onward not_blank t))
    ∙ and_from _ _ (all_weaker is_blank is_mild blank_mild (leading_blanks t) (leading_blank t))
    (list_all-append is_mild x (trailing_blanks (onward not_blank t))
    ∙ and_from _ _ h (all_weaker is_blank is_mild blank_mild (trailing_blanks (onward not_blank t)) (all_blank (onward not_blank t))))

-- a version in quotes
quoted_whole : (v : Text) → list_all is_quotable v ≡ true → Whole (quoted v)
quoted_whole v h = record {
  unmarked = λ mark m. quote_bare mark m;
  state = after-append Quoted v (34 ∷ []) ∙ ap (λ (r : Quoting). after r (34 ∷ [])) (after_quoted v h);
}
  where
    inside : (mark : ℕ) → IsCutMark mark → bare mark Quoted (v ++ 34 ∷ []) ≡ true
    inside mark m = bare_both mark Quoted v (34 ∷ []) (bare_quoted mark v h) (ap (λ (r : Quoting). bare mark r (34 ∷ [])) (after_quoted v h))

    quote_bare : (mark : ℕ) → IsCutMark mark → bare mark Outside (quoted v) ≡ true
    quote_bare mark between_clauses = inside 44 between_clauses
    quote_bare mark between_parts = inside 59 between_parts

version_all : (v : Text) → is_version v ≡ true → list_all is_quotable v ≡ true
version_all v h = all_weaker is_version_byte is_quotable version_quotable v (and_parts _ _ h).1

-- ---- parameters

equals_first : (at : Quoting) (t : Text) → is_empty (from_mark 61 at t) ≡ false → from_mark 61 at t ≡ 61 ∷ rest (from_mark 61 at t)
equals_first at [] h = absurd cc
equals_first at (b ∷ t) h = elim (is_outside at && b == 61) as (λ (c : Bool). (is_outside at && b == 61) ≡ c → is_empty (cond c (b ∷ t) (from_mark 61 (next at b) t)) ≡ false → cond c (b ∷ t) (from_mark 61 (next at b) t) ≡ 61 ∷ rest (cond c (b ∷ t) (from_mark 61 (next at b) t))) [
  | true ↦ λ e k. ap (λ (c : ℕ). c ∷ t) (eqb-true b 61 (and_parts _ _ e).1)
  | false ↦ λ e k. equals_first (next at b) t k
] refl h

-- the front of a parameter
abbrev pub front_of : Text → Text
front_of = before_mark 61 Outside

-- a parameter with another argument, as it is read
pub record Read (part a : Text) : Type 0 where
  pub front : before_mark 61 Outside (with_argument a part) ≡ front_of part
  pub parameter : is_parameter (with_argument a part) ≡ true
  pub told : argument (with_argument a part) ≡ a

pub read_argument : (part a : Text) → is_parameter part ≡ true → Read part a
read_argument part a h =
    let some : is_empty (from_mark 61 Outside part) ≡ false = not-true _ h in
    let cut = before_bare 61 Outside (front_of part) a (and_from _ _ (bare_before 61 Outside part) (outside_before 61 Outside part some)) in
    record {
      front = cut.0;
      parameter = ap (λ (t : Text). not (is_empty t)) cut.1;
      told = ap rest cut.1;
    }

-- a parameter is its front, `=` and its argument
pub own_argument : (part : Text) → is_parameter part ≡ true → with_argument (argument part) part ≡ part
own_argument part h = ap (λ (t : Text). front_of part ++ t) (sym (equals_first Outside part (not-true _ h))) ∙ before_from 61 Outside part

equals_bare : (mark : ℕ) → IsCutMark mark → (a : Text) → bare mark Outside (61 ∷ a) ≡ bare mark Outside a
equals_bare mark between_clauses a = refl
equals_bare mark between_parts a = refl

-- its argument is whole where it is
argument_whole : (part : Text) → is_parameter part ≡ true → Whole part → (Whole (front_of part)) × (Whole (argument part))
argument_whole part h w =
    let some : is_empty (from_mark 61 Outside part) ≡ false = not-true _ h in
    let own : front_of part ++ 61 ∷ argument part ≡ part = own_argument part h in
    let out : after Outside (front_of part) ≡ Outside = outside_is (after Outside (front_of part)) (outside_before 61 Outside part some) in
    let cut : (mark : ℕ) → IsCutMark mark → (bare mark Outside (front_of part) ≡ true) × (bare mark (after Outside (front_of part)) (61 ∷ argument part) ≡ true) =
    λ mark m. bare_parts mark Outside (front_of part) (61 ∷ argument part) (ap (bare mark Outside) own ∙ w.unmarked mark m) in (
      record { unmarked = λ mark m. (cut mark m).0; state = out },
      record {
        unmarked = λ mark m. sym (equals_bare mark m (argument part)) ∙ ap (λ (r : Quoting). bare mark r (61 ∷ argument part)) (sym out) ∙ (cut mark m).1;
        state = ap (λ (r : Quoting). after r (61 ∷ argument part)) (sym out) ∙ sym (after-append Outside (front_of part) (61 ∷ argument part)) ∙ ap (after Outside) own ∙ w.state;
      },
    )

equals_whole : (a : Text) → Whole a → Whole (61 ∷ a)
equals_whole a w = record { unmarked = λ mark m. equals_bare mark m a ∙ w.unmarked mark m; state = w.state }

argued_whole : (part a : Text) → is_parameter part ≡ true → Whole part → Whole a → Whole (with_argument a part)
argued_whole part a h w v = whole_both (front_of part) (61 ∷ a) (argument_whole part h w).0 (equals_whole a v)

-- ---- images

-- what is kept of a part
pub record PartKept (rules : Rules) (listing : Listing) (part new : Text) : Type 0 where
  pub whole : Whole new
  pub parameter : is_parameter new ≡ is_parameter part
  pub again : part_image rules listing None new ≡ new
  pub filled : is_parameter part ≡ false → is_empty (trimmed part) ≡ false → is_empty (trimmed new) ≡ false
  pub quiet : is_parameter part ≡ false → path_version rules listing (trimmed new) ≡ None

module _ (rules : Rules) (is : IsRuleSet rules) (listing : Listing) where
  pub as_path : (version : Option Text) (part : Text) → is_parameter part ≡ false → part_image rules listing version part ≡ between_blanks (path_image rules listing (trimmed part)) part
  as_path version part h = ap (λ (c : Bool). cond c (parameter_image rules listing version part) (between_blanks (path_image rules listing (trimmed part)) part)) h

  as_parameter : (version : Option Text) (part : Text) → is_parameter part ≡ true → part_image rules listing version part ≡ parameter_image rules listing version part
  as_parameter version part h = ap (λ (c : Bool). cond c (parameter_image rules listing version part) (between_blanks (path_image rules listing (trimmed part)) part)) h

  mild_path : (t : Text) → list_all is_mild t ≡ true → is_parameter t ≡ false
  mild_path t h = ap (λ (s : Text). not (is_empty s)) (none_bare 61 Outside t (bare_mild 61 equals Outside t refl h))

  -- a path
  pub path_part : (part : Text) → is_parameter part ≡ false → Whole part → PartKept rules listing part (between_blanks (path_image rules listing (trimmed part)) part)
  path_part part h w =
      let k : PathKept (path_image rules listing) (path_version rules listing) (trimmed part) = path_kept rules is listing (trimmed part) in
      elim k.either [
        | kept_same e ↦
            let stays : between_blanks (path_image rules listing (trimmed part)) part ≡ part = ap (λ (t : Text). between_blanks t part) e ∙ between_own part in
            subst (PartKept rules listing part) (sym stays) (record {
              whole = w;
              parameter = refl;
              again = as_path None part h ∙ stays;
              filled = λ _ f. f;
              quiet = λ _. ap (path_version rules listing) (sym e) ∙ k.quiet;
            })
        | made_plain all some ↦
            let x : Text = path_image rules listing (trimmed part) in
            let new : Text = between_blanks x part in
            let t = unblank_trimmed x (all_weaker is_plain not_blank plain_unblank x all) in
            let core : trimmed new ≡ x = trimmed-between x part t.0 t.1 in
            let mild : list_all is_mild new ≡ true = between_mild x part (all_weaker is_plain is_mild plain_mild x all) in
            let path : is_parameter new ≡ false = mild_path new mild in
            record {
              whole = whole_through new (through_mild new mild);
              parameter = path ∙ sym h;
              again = as_path None new path ∙ ap (λ (y : Text). between_blanks (path_image rules listing y) new) core ∙ ap (λ (y : Text). between_blanks y new) k.again ∙ between_again x part t.0 t.1;
              filled = λ _ _. ap is_empty core ∙ some;
              quiet = λ _. ap (path_version rules listing) core ∙ k.quiet;
            }
      ]

  -- the image of a parameter with this key
  abbrev by_key : Option Text → Text → Text → Text
  by_key version part k =
      cond (bytes_eq k (version_name listing)) (versioned version part)
      (cond (is_export listing && (ends_in_colon k && bytes_eq (trimmed (but_last k)) (codes "uses"))) (with_argument (between_blanks (uses_image rules.renames (trimmed (argument part))) (argument part)) part) part)

  -- what is shown of the image of a parameter
  record ParameterKept (part new : Text) : Type 0 where
    whole : Whole new
    parameter : is_parameter new ≡ true
    again : parameter_image rules listing None new ≡ new

  parameter_same : (part : Text) → is_parameter part ≡ true → Whole part → parameter_image rules listing None part ≡ part → ParameterKept part part
  parameter_same part h w e = record { whole = w; parameter = h; again = e }

  versioned_kept : (version : Option Text) → IsVersionOrNone version → (part : Text) → is_parameter part ≡ true → Whole part → bytes_eq (key part) (version_name listing) ≡ true → ParameterKept part (versioned version part)
  versioned_kept None v part h w e = parameter_same part h w (ap (λ (c : Bool). cond c part (cond (is_export listing && (ends_in_colon (key part) && bytes_eq (trimmed (but_last (key part))) (codes "uses"))) (with_argument (between_blanks (uses_image rules.renames (trimmed (argument part))) (argument part)) part) part)) e)
  versioned_kept (Some version) v part h w e =
      let a : Text = between_blanks (quoted version) (argument part) in
      let new : Text = with_argument a part in
      let r : Read part a = read_argument part a h in
      record {
        whole = argued_whole part a h w (whole_between (quoted version) (argument part) (quoted_whole version (version_all version v)));
        parameter = r.parameter;
        again = ap (by_key None new) (ap trimmed r.front)
            ∙ ap (λ (c : Bool). cond c new (cond (is_export listing && (ends_in_colon (key part) && bytes_eq (trimmed (but_last (key part))) (codes "uses"))) (with_argument (between_blanks (uses_image rules.renames (trimmed (argument new))) (argument new)) new) new)) e;
      }

  -- the argument of `uses`
  uses_whole : (arg : Text) → Whole arg → UsesKept rules is (trimmed arg) → Whole (between_blanks (uses_image rules.renames (trimmed arg)) arg)
  uses_whole arg w k =
      let lead : Text = leading_blanks arg in
      let trail : Text = trailing_blanks (onward not_blank arg) in
      let own : lead ++ (trimmed arg ++ trail) ≡ arg = between_own arg in
      let blank : Whole lead = whole_blank lead (leading_blank arg) in
      let back : Whole trail = whole_blank trail (all_blank (onward not_blank arg)) in
      let out : after Outside (trimmed arg) ≡ Outside = inner_out (trimmed arg) arg (ap (λ (r : Quoting). after r (trimmed arg ++ trail)) (sym blank.state) ∙ sym (after-append Outside lead (trimmed arg ++ trail)) ∙ ap (after Outside) own ∙ w.state) in
      whole_between (uses_image rules.renames (trimmed arg)) arg (record {
        unmarked = λ mark m. (k.passes mark (cut_mark mark m)).unmarked
            (bare_parts mark Outside (trimmed arg) trail (ap (λ (r : Quoting). bare mark r (trimmed arg ++ trail)) (sym blank.state)
            ∙ (bare_parts mark Outside lead (trimmed arg ++ trail) (ap (bare mark Outside) own ∙ w.unmarked mark m)).1)).0;
        state = (k.passes 44 comma).state ∙ out;
      })
    where
      blank_back : (at : Quoting) (t : Text) → list_all is_blank t ≡ true → is_outside (after at t) ≡ true → at ≡ Outside
      blank_back Outside t b h = refl
      blank_back Quoted t b h = absurd (both_ways (is_outside (after Quoted t)) (ap is_outside (after_mild Quoted t refl (all_weaker is_blank is_mild blank_mild t b))) h)
      blank_back Escaped [] b h = absurd cc
      blank_back Escaped (c ∷ t) b h = absurd (both_ways (is_outside (after Quoted t)) (ap is_outside (after_mild Quoted t refl (all_weaker is_blank is_mild blank_mild t (and_parts _ _ b).1))) h)

      inner_out : (x t : Text) → after Outside (x ++ trailing_blanks (onward not_blank t)) ≡ Outside → after Outside x ≡ Outside
      inner_out x t h = blank_back (after Outside x) (trailing_blanks (onward not_blank t)) (all_blank (onward not_blank t)) (ap is_outside (sym (after-append Outside x (trailing_blanks (onward not_blank t))) ∙ h))

  list_kept : (part : Text) → is_parameter part ≡ true → Whole part → bytes_eq (key part) (version_name listing) ≡ false → (is_export listing && (ends_in_colon (key part) && bytes_eq (trimmed (but_last (key part))) (codes "uses"))) ≡ true
      → ParameterKept part (with_argument (between_blanks (uses_image rules.renames (trimmed (argument part))) (argument part)) part)
  list_kept part h w e u =
      let arg : Text = argument part in
      let t = is_trimmed arg in
      let k : UsesKept rules is (trimmed arg) = uses_kept rules is (trimmed arg) t.begins t.ends in
      let x : Text = uses_image rules.renames (trimmed arg) in
      let a : Text = between_blanks x arg in
      let new : Text = with_argument a part in
      let r : Read part a = read_argument part a h in
      let stays : between_blanks (uses_image rules.renames (trimmed a)) a ≡ a =
      ap (λ (y : Text). between_blanks (uses_image rules.renames y) a) (trimmed-between x arg k.opens k.closes) ∙ ap (λ (y : Text). between_blanks y a) k.again ∙ between_again x arg k.opens k.closes in
      record {
        whole = argued_whole part a h w (uses_whole arg (argument_whole part h w).1 k);
        parameter = r.parameter;
        again = ap (by_key None new) (ap trimmed r.front)
            ∙ ap₂ (λ (c d : Bool). cond c new (cond d (with_argument (between_blanks (uses_image rules.renames (trimmed (argument new))) (argument new)) new) new)) e u
            ∙ ap (λ (y : Text). with_argument (between_blanks (uses_image rules.renames (trimmed y)) y) new) r.told
            ∙ ap (λ (y : Text). with_argument y new) stays
            ∙ ap (λ (y : Text). y ++ 61 ∷ a) r.front;
      }

  parameter_kept : (version : Option Text) → IsVersionOrNone version → (part : Text) → is_parameter part ≡ true → Whole part → ParameterKept part (parameter_image rules listing version part)
  parameter_kept version v part h w = elim (cases_Bool (bytes_eq (key part) (version_name listing))) [
    | inl e ↦ subst (ParameterKept part) (sym (ap (λ (c : Bool). cond c (versioned version part) (cond (is_export listing && (ends_in_colon (key part) && bytes_eq (trimmed (but_last (key part))) (codes "uses"))) (with_argument (between_blanks (uses_image rules.renames (trimmed (argument part))) (argument part)) part) part)) e)) (versioned_kept version v part h w e)
    | inr e ↦ elim (cases_Bool (is_export listing && (ends_in_colon (key part) && bytes_eq (trimmed (but_last (key part))) (codes "uses")))) [
      | inl u ↦ subst (ParameterKept part) (sym (ap₂ (λ (c d : Bool). cond c (versioned version part) (cond d (with_argument (between_blanks (uses_image rules.renames (trimmed (argument part))) (argument part)) part) part)) e u)) (list_kept part h w e u)
      | inr u ↦ subst (ParameterKept part) (sym (ap₂ (λ (c d : Bool). cond c (versioned version part) (cond d (with_argument (between_blanks (uses_image rules.renames (trimmed (argument part))) (argument part)) part) part)) e u))
          (parameter_same part h w (ap₂ (λ (c d : Bool). cond c part (cond d (with_argument (between_blanks (uses_image rules.renames (trimmed (argument part))) (argument part)) part) part)) e u))
    ]
  ]

  -- the image of a part
  pub part_kept : (version : Option Text) → IsVersionOrNone version → (part : Text) → is_inner part ≡ true → PartKept rules listing part (part_image rules listing version part)
  part_kept version v part inner =
      let w : Whole part = inner_whole part inner in
      elim (cases_Bool (is_parameter part)) [
        | inl h ↦
            let k : ParameterKept part (parameter_image rules listing version part) = parameter_kept version v part h w in
            subst (PartKept rules listing part) (sym (as_parameter version part h)) (record {
              whole = k.whole;
              parameter = k.parameter ∙ sym h;
              again = as_parameter None (parameter_image rules listing version part) k.parameter ∙ k.again;
              filled = λ g _. absurd (both_ways (is_parameter part) g h);
              quiet = λ g. absurd (both_ways (is_parameter part) g h);
            })
        | inr h ↦ subst (PartKept rules listing part) (sym (as_path version part h)) (path_part part h w)
      ]
