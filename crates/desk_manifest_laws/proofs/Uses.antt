-- Images of lists of packages, as `uses` has them.
use Rattle.std.proofs.Common.{inl, inr, ◌≡◌, ℕ, Bool, true, false, cond, not, ◌==◌, List, [], ◌∷◌, ◌++◌, map, refl, ap, ap₂, sym, subst, ◌∙◌}
use Rattle.std.specs.List.{list_all, slice_split, join_with_byte}
use Rattle.std.proofs.lemmas.Bool.{cases_Bool, and_parts, and_from, both_ways, false_from_ne_true, eqb-true}
use Rattle.std.proofs.lemmas.List.Folds.{list_all-append}
use Rattle.std.proofs.lemmas.List.Splits.{join_with_byte-slice_split}
use Rattle.desk_base.specs.Names.{Text, is_dotted, is_empty, is_whole}
use Rattle.desk_base.proofs.Lists.{all_weaker}
use Rattle.desk_base.proofs.Separated.{split_whole, split_filled}
use Rattle.desk_lines.specs.Lines.{rest}
use Rattle.desk_lines.specs.Cuts.{onward, stops}
use Rattle.desk_lines.specs.Blanks.{is_blank, not_blank, leading_blanks, trailing_blanks, trimmed_end, trimmed}
use Rattle.desk_lines.proofs.Trimming.{all_blank}
use Rattle.desk_packages.specs.Renames.{Renaming}
use Rattle.desk_packages.proofs.Cuts.{split_written}
use Rattle.desk_rules.specs.Rules.{Rules}
use Rattle.desk_rules.specs.RuleSets.{IsRuleSet}
use Rattle.desk_rules.proofs.DottedBytes.{dotted_filled}
use Rattle.desk_clauses.specs.Quotes.{next, with_marks}
use Rattle.desk_clauses.specs.Grammar.{between_blanks, ends_in_quote, is_quoted, unquoted, quoted}
use Rattle.desk_clauses.specs.declared.quotes.Quoting.{Quoting}
use Rattle.desk_clauses.specs.declared.quotes.Quoting.TheVariants.{Outside, Quoted, Escaped}
use Rattle.desk_clauses.proofs.Between.{between_own}
use Rattle.desk_listings.specs.Images.{package_image, item_image, list_image, uses_image}
use Rattle.desk_manifest_laws.proofs.Bare.{after, bare, after-append, bare_both, bare_parts}
use Rattle.desk_manifest_laws.proofs.Trimmed.{trimmed-between, between_again, unblank_trimmed, leading_blank}
use Rattle.desk_manifest_laws.proofs.Plain.{is_mild, mild_parts, is_plain, blank_mild, plain_mild, plain_unblank, is_calm, IsMark, Passes, passes_same, passes_mild}
use Rattle.desk_manifest_laws.proofs.PathImages.{package_kept, dotted_plain}
use Rattle.desk_manifest_laws.proofs.Ends.{starts, ends-append, ends_behind, Alike, alike_same, alike_marks, three_alike, is_quote, plain_off_blank, plain_off_quote, stops_starts, ends_trimmed, trimmed_ends, quote_to, quote_from, quoted_start, quoted_end, quoted_is, quoted_trimmed, unquoted_quoted, quoted_unquoted}

-- ---- items

-- an item stays, or its name is exchanged between its blanks
data Item (renames : List Renaming) (item : Text) : Type 0 where
  kept : item_image renames item ≡ item → Item renames item
  exchanged : is_dotted (trimmed item) ≡ true → item_image renames item ≡ between_blanks (package_image renames (trimmed item)) item → Item renames item

item_of : (renames : List Renaming) (item : Text) → Item renames item
item_of renames item = elim (cases_Bool (is_dotted (trimmed item))) [
  | inl h ↦ exchanged h (ap (λ (c : Bool). between_blanks (cond c (package_image renames (trimmed item)) (trimmed item)) item) h)
  | inr h ↦ kept (ap (λ (c : Bool). between_blanks (cond c (package_image renames (trimmed item)) (trimmed item)) item) h ∙ between_own item)
]

between_mild : (x t : Text) → list_all is_mild x ≡ true → list_all is_mild (between_blanks x t) ≡ true
between_mild x t h =
    list_all-append is_mild (leading_blanks t) (x ++ trailing_blanks (onward not_blank t))
    ∙ and_from _ _ (all_weaker is_blank is_mild blank_mild (leading_blanks t) (leading_blank t))
    (list_all-append is_mild x (trailing_blanks (onward not_blank t))
    ∙ and_from _ _ h (all_weaker is_blank is_mild blank_mild (trailing_blanks (onward not_blank t)) (all_blank (onward not_blank t))))

dotted_mild : (t : Text) → is_dotted t ≡ true → list_all is_mild t ≡ true
dotted_mild t h = all_weaker is_plain is_mild plain_mild t (dotted_plain t h)

own_mild : (t : Text) → is_dotted (trimmed t) ≡ true → list_all is_mild t ≡ true
own_mild t h = ap (list_all is_mild) (sym (between_own t)) ∙ between_mild (trimmed t) t (dotted_mild (trimmed t) h)

dotted_trimmed : (x : Text) → is_dotted x ≡ true → (stops not_blank x ≡ true) × (trimmed_end x ≡ x)
dotted_trimmed x h = unblank_trimmed x (all_weaker is_plain not_blank plain_unblank x (dotted_plain x h))

mild_whole : (t : Text) → list_all is_mild t ≡ true → is_whole 44 t ≡ true
mild_whole t h = all_weaker is_mild (λ b. not (b == 44)) (λ b k. (mild_parts b k).no_comma) t h

module _ (rules : Rules) (is : IsRuleSet rules) where
  image_mild : (item : Text) → is_dotted (trimmed item) ≡ true → list_all is_mild (between_blanks (package_image rules.renames (trimmed item)) item) ≡ true
  image_mild item h = between_mild (package_image rules.renames (trimmed item)) item (dotted_mild (package_image rules.renames (trimmed item)) (package_kept rules is (trimmed item) h).named)

  item_again : (item : Text) → item_image rules.renames (item_image rules.renames item) ≡ item_image rules.renames item
  item_again item = elim (item_of rules.renames item) [
    | kept e ↦ ap (item_image rules.renames) e
    | exchanged h e ↦
        let new = package_image rules.renames (trimmed item) in
        let k = package_kept rules is (trimmed item) h in
        let t = dotted_trimmed new k.named in
        let core : trimmed (between_blanks new item) ≡ new = trimmed-between new item t.0 t.1 in
        ap (item_image rules.renames) e
        ∙ ap (λ (x : Text). between_blanks (cond (is_dotted x) (package_image rules.renames x) x) (between_blanks new item)) core
        ∙ ap (λ (c : Bool). between_blanks (cond c (package_image rules.renames new) new) (between_blanks new item)) k.named
        ∙ ap (λ (x : Text). between_blanks x (between_blanks new item)) k.again
        ∙ between_again new item t.0 t.1
        ∙ sym e
  ]

  item_whole : (item : Text) → is_whole 44 item ≡ true → is_whole 44 (item_image rules.renames item) ≡ true
  item_whole item w = elim (item_of rules.renames item) [
    | kept e ↦ ap (is_whole 44) e ∙ w
    | exchanged h e ↦ ap (is_whole 44) e ∙ mild_whole (between_blanks (package_image rules.renames (trimmed item)) item) (image_mild item h)
  ]

  item_passes : (mark : ℕ) → IsMark mark → (at : Quoting) → is_calm at ≡ true → (item : Text) → Passes mark at item (item_image rules.renames item)
  item_passes mark m at c item = elim (item_of rules.renames item) [
    | kept e ↦ subst (Passes mark at item) (sym e) (passes_same mark at item)
    | exchanged h e ↦ subst (Passes mark at item) (sym e) (passes_mild mark m at item (between_blanks (package_image rules.renames (trimmed item)) item) c (own_mild item h) (image_mild item h))
  ]

  -- ---- lists

  calm_behind : (at : Quoting) → is_calm (next at 44) ≡ true
  calm_behind Outside = refl
  calm_behind Quoted = refl
  calm_behind Escaped = refl

  passes_both : (mark : ℕ) (at : Quoting) (x y u v : Text) → Passes mark at x y → Passes mark (after at x) u v → Passes mark at (x ++ u) (y ++ v)
  passes_both mark at x y u v p q = record {
    unmarked = λ h.
        let both = bare_parts mark at x u h in
        bare_both mark at y v (p.unmarked both.0) (ap (λ (r : Quoting). bare mark r v) p.state ∙ q.unmarked both.1);
    state = after-append at y v ∙ ap (λ (r : Quoting). after r v) p.state ∙ q.state ∙ sym (after-append at x u);
  }

  passes_behind : (mark : ℕ) (at : Quoting) (b : ℕ) (u v : Text) → Passes mark (next at b) u v → Passes mark at (b ∷ u) (b ∷ v)
  passes_behind mark at b u v p = record {
    unmarked = λ h. and_from _ _ (and_parts _ _ h).0 (p.unmarked (and_parts _ _ h).1);
    state = p.state;
  }

  items_pass : (mark : ℕ) → IsMark mark → (at : Quoting) → is_calm at ≡ true → (xs : List Text) → Passes mark at (with_marks 44 xs) (with_marks 44 (map (item_image rules.renames) xs))
  items_pass mark m at c [] = passes_same mark at []
  items_pass mark m at c (x ∷ []) = item_passes mark m at c x
  items_pass mark m at c (x ∷ y ∷ xs) =
      passes_both mark at x (item_image rules.renames x) (44 ∷ with_marks 44 (y ∷ xs)) (44 ∷ with_marks 44 (map (item_image rules.renames) (y ∷ xs))) (item_passes mark m at c x)
      (passes_behind mark (after at x) 44 (with_marks 44 (y ∷ xs)) (with_marks 44 (map (item_image rules.renames) (y ∷ xs)))
      (items_pass mark m (next (after at x) 44) (calm_behind (after at x)) (y ∷ xs)))

  marks_join : (xs : List Text) → with_marks 44 xs ≡ join_with_byte 44 xs
  marks_join [] = refl
  marks_join (x ∷ []) = refl
  marks_join (x ∷ y ∷ xs) = ap (λ (t : Text). x ++ 44 ∷ t) (marks_join (y ∷ xs))

  abbrev items_of : Text → List Text
  items_of list = slice_split (λ b. b == 44) list

  own_items : (list : Text) → with_marks 44 (items_of list) ≡ list
  own_items list = marks_join (items_of list) ∙ join_with_byte-slice_split 44 list

  wholes : (xs : List Text) → list_all (is_whole 44) xs ≡ true → list_all (is_whole 44) (map (item_image rules.renames) xs) ≡ true
  wholes [] h = refl
  wholes (x ∷ xs) h = and_from _ _ (item_whole x (and_parts _ _ h).0) (wholes xs (and_parts _ _ h).1)

  cut_items : (xs : List Text) → is_empty xs ≡ false → list_all (is_whole 44) xs ≡ true → items_of (with_marks 44 xs) ≡ xs
  cut_items [] e h = absurd cc
  cut_items (x ∷ xs) e h = ap items_of (marks_join (x ∷ xs)) ∙ split_written 44 x xs h

  items_again : (xs : List Text) → map (item_image rules.renames) (map (item_image rules.renames) xs) ≡ map (item_image rules.renames) xs
  items_again [] = refl
  items_again (x ∷ xs) = ap₂ (λ (y : Text) (ys : List Text). y ∷ ys) (item_again x) (items_again xs)

  still_filled : (xs : List Text) → not (is_empty xs) ≡ true → is_empty (map (item_image rules.renames) xs) ≡ false
  still_filled [] h = absurd cc
  still_filled (x ∷ xs) h = refl

  list_again : (list : Text) → list_image rules.renames (list_image rules.renames list) ≡ list_image rules.renames list
  list_again list =
      ap (λ (xs : List Text). with_marks 44 (map (item_image rules.renames) xs))
      (cut_items (map (item_image rules.renames) (items_of list)) (still_filled (items_of list) (split_filled 44 list)) (wholes (items_of list) (split_whole 44 list)))
      ∙ ap (with_marks 44) (items_again (items_of list))

  list_passes : (mark : ℕ) → IsMark mark → (at : Quoting) → is_calm at ≡ true → (list : Text) → Passes mark at list (list_image rules.renames list)
  list_passes mark m at c list = subst (λ (t : Text). Passes mark at t (list_image rules.renames list)) (own_items list) (items_pass mark m at c (items_of list))

  -- ---- how lists begin and end

  item_alike : (p : ℕ → Bool) → ((b : ℕ) → is_plain b ≡ true → p b ≡ false) → (item : Text) → Alike p item (item_image rules.renames item)
  item_alike p off item = elim (item_of rules.renames item) [
    | kept e ↦ subst (Alike p item) (sym e) (alike_same p item)
    | exchanged h e ↦
        subst (Alike p item) (sym e)
        (subst (λ (t : Text). Alike p t (between_blanks (package_image rules.renames (trimmed item)) item)) (between_own item)
        (three_alike p off (leading_blanks item) (trailing_blanks (onward not_blank item)) (trimmed item) (package_image rules.renames (trimmed item))
        (dotted_filled (trimmed item) h) (dotted_filled (package_image rules.renames (trimmed item)) (package_kept rules is (trimmed item) h).named)
        (dotted_plain (trimmed item) h) (dotted_plain (package_image rules.renames (trimmed item)) (package_kept rules is (trimmed item) h).named)))
  ]

  items_alike : (p : ℕ → Bool) → ((b : ℕ) → is_plain b ≡ true → p b ≡ false) → (xs : List Text) → Alike p (with_marks 44 xs) (with_marks 44 (map (item_image rules.renames) xs))
  items_alike p off [] = alike_same p []
  items_alike p off (x ∷ []) = item_alike p off x
  items_alike p off (x ∷ y ∷ xs) = alike_marks p x (item_image rules.renames x) (with_marks 44 (y ∷ xs)) (with_marks 44 (map (item_image rules.renames) (y ∷ xs))) (item_alike p off x) (items_alike p off (y ∷ xs))

  list_alike : (p : ℕ → Bool) → ((b : ℕ) → is_plain b ≡ true → p b ≡ false) → (list : Text) → Alike p list (list_image rules.renames list)
  list_alike p off list = subst (λ (t : Text). Alike p t (list_image rules.renames list)) (own_items list) (items_alike p off (items_of list))

  list_trimmed : (list : Text) → stops not_blank list ≡ true → trimmed_end list ≡ list → (stops not_blank (list_image rules.renames list) ≡ true) × (trimmed_end (list_image rules.renames list) ≡ list_image rules.renames list)
  list_trimmed list b e =
      let a : Alike is_blank list (list_image rules.renames list) = list_alike is_blank plain_off_blank list in (
        stops_starts (list_image rules.renames list) ∙ ap not a.begin_same ∙ sym (stops_starts list) ∙ b,
        ends_trimmed (list_image rules.renames list) (a.end_same ∙ trimmed_ends list e),
      )

  quote_item : (x : Text) → item_image rules.renames (34 ∷ x) ≡ 34 ∷ x
  quote_item x = elim (item_of rules.renames (34 ∷ x)) [
    | kept e ↦ e
    | exchanged h e ↦ absurd (both_ways (list_all is_mild (34 ∷ x)) refl (own_mild (34 ∷ x) h))
  ]

  -- a list whose first item begins with a quote
  quote_back : (x : Text) (more : List Text) → ends_in_quote (rest (with_marks 44 (map (item_image rules.renames) ((34 ∷ x) ∷ more)))) ≡ true → ends_in_quote (rest (with_marks 44 ((34 ∷ x) ∷ more))) ≡ true
  quote_back x [] h = ap (λ (t : Text). ends_in_quote (rest t)) (sym (quote_item x)) ∙ h
  quote_back x (y ∷ ys) h =
      let old : Text = with_marks 44 (y ∷ ys) in
      let new : Text = with_marks 44 (map (item_image rules.renames) (y ∷ ys)) in
      let a : Alike is_quote old new = items_alike is_quote plain_off_quote (y ∷ ys) in
      let there : ends_in_quote (x ++ 44 ∷ new) ≡ true = ap (λ (t : Text). ends_in_quote (rest (t ++ 44 ∷ new))) (sym (quote_item x)) ∙ h in
      quote_from (x ++ 44 ∷ old)
      (ends-append is_quote x 44 old ∙ ends_behind is_quote 44 old new a.filled a.end_same ∙ sym (ends-append is_quote x 44 new) ∙ quote_to (x ++ 44 ∷ new) there)

  first_quote : (xs : List Text) → starts is_quote (with_marks 44 xs) ≡ true → is_quoted (with_marks 44 (map (item_image rules.renames) xs)) ≡ true → is_quoted (with_marks 44 xs) ≡ true
  first_quote [] s h = absurd cc
  first_quote ([] ∷ []) s h = absurd cc
  first_quote ([] ∷ y ∷ ys) s h = absurd cc
  first_quote ((b ∷ x) ∷ more) s h =
      let quote : b ≡ 34 = eqb-true b 34 (starts_first b x more s) in
      subst (λ (c : ℕ). is_quoted (with_marks 44 (map (item_image rules.renames) ((c ∷ x) ∷ more))) ≡ true → is_quoted (with_marks 44 ((c ∷ x) ∷ more)) ≡ true) (sym quote)
      (λ k. quoted_again x more (quote_back x more (quoted_end (with_marks 44 (map (item_image rules.renames) ((34 ∷ x) ∷ more))) k))) h
    where
      starts_first : (b : ℕ) (x : Text) (more : List Text) → starts is_quote (with_marks 44 ((b ∷ x) ∷ more)) ≡ true → is_quote b ≡ true
      starts_first b x [] k = k
      starts_first b x (y ∷ ys) k = k

      quoted_again : (x : Text) (more : List Text) → ends_in_quote (rest (with_marks 44 ((34 ∷ x) ∷ more))) ≡ true → is_quoted (with_marks 44 ((34 ∷ x) ∷ more)) ≡ true
      quoted_again x [] k = k
      quoted_again x (y ∷ ys) k = k

  list_unquoted : (list : Text) → is_quoted list ≡ false → is_quoted (list_image rules.renames list) ≡ false
  list_unquoted list h = false_from_ne_true (is_quoted (list_image rules.renames list)) (λ (k : is_quoted (list_image rules.renames list) ≡ true).
      let a : Alike is_quote list (list_image rules.renames list) = list_alike is_quote plain_off_quote list in
      let begins : starts is_quote list ≡ true = sym a.begin_same ∙ quoted_start (list_image rules.renames list) k in
      both_ways (is_quoted list) h
      (ap is_quoted (sym (own_items list)) ∙ first_quote (items_of list) (ap (starts is_quote) (own_items list) ∙ begins) k))

  -- ---- lists with or without quotes

  -- what is kept of a list without blanks around it
  pub record UsesKept (list : Text) : Type 0 where
    pub again : uses_image rules.renames (uses_image rules.renames list) ≡ uses_image rules.renames list
    pub opens : stops not_blank (uses_image rules.renames list) ≡ true
    pub closes : trimmed_end (uses_image rules.renames list) ≡ uses_image rules.renames list
    pub passes : (mark : ℕ) → IsMark mark → Passes mark Outside list (uses_image rules.renames list)

  uses_quoted : (list : Text) → is_quoted list ≡ true → uses_image rules.renames list ≡ quoted (list_image rules.renames (unquoted list))
  uses_quoted list h = ap (λ (c : Bool). cond c (quoted (list_image rules.renames (unquoted list))) (list_image rules.renames list)) h

  uses_plain : (list : Text) → is_quoted list ≡ false → uses_image rules.renames list ≡ list_image rules.renames list
  uses_plain list h = ap (λ (c : Bool). cond c (quoted (list_image rules.renames (unquoted list))) (list_image rules.renames list)) h

  pub uses_kept : (list : Text) → stops not_blank list ≡ true → trimmed_end list ≡ list → UsesKept list
  uses_kept list b e = elim (cases_Bool (is_quoted list)) [
    | inl h ↦
        let inner : Text = list_image rules.renames (unquoted list) in
        let at : uses_image rules.renames list ≡ quoted inner = uses_quoted list h in
        let t = quoted_trimmed inner in
        record {
          again = ap (uses_image rules.renames) at ∙ uses_quoted (quoted inner) (quoted_is inner) ∙ ap (λ (l : Text). quoted (list_image rules.renames l)) (unquoted_quoted inner)
              ∙ ap quoted (list_again (unquoted list)) ∙ sym at;
          opens = ap (stops not_blank) at ∙ t.0;
          closes = ap trimmed_end at ∙ t.1 ∙ sym at;
          passes = λ mark m. subst (Passes mark Outside list) (sym at) (subst (λ (l : Text). Passes mark Outside l (quoted inner)) (quoted_unquoted list h)
              (passes_behind mark Outside 34 (unquoted list ++ 34 ∷ []) (inner ++ 34 ∷ [])
              (passes_both mark Quoted (unquoted list) inner (34 ∷ []) (34 ∷ []) (list_passes mark m Quoted refl (unquoted list)) (passes_same mark (after Quoted (unquoted list)) (34 ∷ [])))));
        }
    | inr h ↦
        let at : uses_image rules.renames list ≡ list_image rules.renames list = uses_plain list h in
        let t = list_trimmed list b e in
        record {
          again = ap (uses_image rules.renames) at ∙ uses_plain (list_image rules.renames list) (list_unquoted list h) ∙ list_again list ∙ sym at;
          opens = ap (stops not_blank) at ∙ t.0;
          closes = ap trimmed_end at ∙ t.1 ∙ sym at;
          passes = λ mark m. subst (Passes mark Outside list) (sym at) (list_passes mark m Outside refl list);
        }
  ]
