-- The inverse takes texts back.
use Rattle.std.proofs.Common.{◌≡◌, ℕ, Bool, true, false, cond, List, [], ◌∷◌, ◌++◌, map, length, drop, Option, Some, None, refl, sym, ap, ap₂, subst, ◌∙◌, inl, inr, arith, length-append}
use Rattle.std.specs.Prelude.{unwrap_or}
use Rattle.std.specs.List.{list_all, Contains}
use Rattle.std.specs.Str.{bytes_eq}
use Rattle.std.specs.FinMap as finite
use Rattle.std.specs.FinMap.{get-from_entries}
use Rattle.std.proofs.lemmas.Bool.{cases_Bool, and_parts, and_from, or_left, or_right, both_ways, false_from_ne_true, not_from_false, not-false}
use Rattle.std.proofs.lemmas.Cmp.{nat_list_cmp_total}
use Rattle.std.proofs.lemmas.List.{append-nil, drop_at}
use Rattle.std.proofs.lemmas.Slice.Eq.{bytes_eq-Decides}
use Rattle.desk_base.specs.Names.{Text, Package, segments, written, front, simple, same, is_name, is_part, is_package, is_class_name, is_dotted, is_identifier, dot, slash}
use Rattle.desk_base.specs.Descriptors.{DescriptorKind, IsDescriptor, is_descriptor, print, renamed, as_is}
use Rattle.desk_base.specs.Signatures.{SignatureKind, IsSignature, print_signature, map_signature, most_nesting}
use Rattle.desk_base.specs.Referents.{begins_array}
use Rattle.desk_base.specs.declared.kinds.Role.{Role}
use Rattle.desk_base.specs.declared.kinds.Role.TheVariants as roles
use Rattle.desk_names.specs.ClassNames.{class_name}
use Rattle.desk_names.specs.Pieces.{Piece, pieces, joined, names_in}
use Rattle.desk_names.specs.SignatureScan.{is_sound_signature}
use Rattle.desk_names.specs.SignaturePieces.{sig_pieces}
use Rattle.desk_names.proofs.Scanned.{tree_of}
use Rattle.desk_names.proofs.Takes.{taken}
use Rattle.desk_names.proofs.Pieces.{prints_exchanged, joins_text}
use Rattle.desk_names.proofs.SigPieces.{sig_taken, sig_joins}
use Rattle.desk_names.proofs.SigMapped.{sig_prints}
use Rattle.desk_names.proofs.SigSound.{signature_of}
use Rattle.desk_names.proofs.SignatureNames.{is_named}
use Rattle.desk_packages.specs.Renames.{Renaming, has_source, covers, in_scope, in_reach, changes, key_of, pick, renamed_by, pkg, is_rename}
use Rattle.desk_packages.proofs.Same.{same_is, same_from, begins_from, covers_is, covers_moved}
use Rattle.desk_packages.proofs.Picks.{In, Found, pick_Some, all_In}
use Rattle.desk_packages.proofs.Lookup.{one_of, contained}
use Rattle.desk_packages.proofs.Searched.{one_key, in_at}
use Rattle.desk_packages.proofs.HasSource.{PickedSource, source_picked, any_true, any_false}
use Rattle.desk_base.proofs.Separated.{front-push, simple-push, no_array}
use Rattle.desk_packages.proofs.Cuts.{written-segments, front_simple}
use Rattle.desk_rules.specs.Rules.{Rules}
use Rattle.desk_rules.specs.RuleSets.{IsRuleSet}
use Rattle.desk_rules.specs.Images.{refronted, dotted, package_written, renamed_string, str}
use Rattle.desk_rules.proofs.Twice.{first_pair_None, unchanged}
use Rattle.desk_rules.proofs.Laws.{packages_stay, dotted_parts, class_parts}
use Rattle.desk_rules.proofs.Forms.{Parts, segments_image, name_image_named}
use Rattle.desk_rename.specs.Images.{package_image, repackaged, is_any_descriptor, desc, cls, sig}
use Rattle.desk_rename.specs.Laws.{IsSettledRenames}
use Rattle.desk_rename.proofs.Exchanges.{package_cut}
use Rattle.desk_rename.proofs.Kept.{keeps_class_names}
use Rattle.desk_rename.proofs.DescTrees.{renamed_twice}
use Rattle.desk_rename.proofs.SigTrees.{signature_twice}
use Rattle.desk_rename.proofs.Differs.{some_kind}
use Rattle.desk_rename.proofs.AnyDescriptor.{any_return}
use Rattle.desk_rename.proofs.Finished.{desc_is, desc_other, sig_is, sig_other, cls_array, cls_name}
use Rattle.desk_rename.proofs.ImageLaws.{desc_kept, sig_stays, class_laws}
use Rattle.desk_class.specs.Held.{descriptor_names, signature_names, names_of}
use Rattle.desk_follow.proofs.NameImages.{cls_named}
use Rattle.desk_follow.specs.RuleImages.{images_of}
use Rattle.desk_format.specs.Resolved.{image}
use Rattle.desk_invert.specs.Inverse.{flipped, inverse, overlap}
use Rattle.desk_invert.specs.Laws.{renames_alone, IsInvertible, IsReached, IsUnreached}
use Rattle.desk_invert.proofs.Settled.{rule_set}
use Rattle.desk_invert.proofs.Inverses.{Undoes, flip_changes, in_map}
use Rattle.desk_invert.proofs.Back.{reached, there_and_back}
use Rattle.desk_invert.proofs.Faults.{undoes, undirected}
use Rattle.desk_invert_laws.specs.Texts.{packages_of, IsFree, TextsBack}

-- ---- parts of texts

-- where an exchange leaves each name among parts, it leaves their text
joined_same : (h : Text → Text) (ps : List Piece) → ((n : Text) → In (names_in ps) n → h n ≡ n) → joined h ps ≡ joined as_is ps
unfolding joined names_in
joined_same h [] k = refl
joined_same h (Piece.other t ∷ ps) k = ap (λ (u : Text). t ++ u) (joined_same h ps k)
joined_same h (Piece.class before last ∷ ps) k = ap₂ (λ (t u : Text). t ++ u) (k (class_name before last) (inl refl)) (joined_same h ps (λ n is. k n (inr is)))

-- one of a list is contained in it
holds : {A : Type 0} (xs : List A) (x : A) → In xs x → Contains xs x
holds xs x is = let at = in_at xs x is in (at.0, at.1, at.2 x)

abbrev fronts : List Text → List Package
fronts names = map (λ (name : Text). front (segments slash name)) names

-- ---- descriptors

any_of : (kind : DescriptorKind) (text : Text) → is_descriptor kind text ≡ true → is_any_descriptor text ≡ true
any_of DescriptorKind.field text h = or_left _ _ (or_left _ _ h)
any_of DescriptorKind.method text h = or_left _ _ (or_right _ _ h)
any_of DescriptorKind.return text h = or_right _ _ h

-- the names of a descriptor are those of its parts
names_are : (text : Text) → is_any_descriptor text ≡ true → descriptor_names text ≡ names_in (pieces text)
names_are text any = elim (cases_Bool (is_descriptor DescriptorKind.method text)) [
  | inl method ↦ ap (λ (b : Bool). cond b (names_in (pieces text)) []) (or_right (is_descriptor DescriptorKind.return text) _ method)
  | inr other ↦ ap (λ (b : Bool). cond b (names_in (pieces text)) []) (or_left _ (is_descriptor DescriptorKind.method text) (sym (any_return text other) ∙ any))
]

-- rules of renames alone, and the renames of their inverse
pub record Inverts (rules : Rules) (inverse : List Renaming) : Type 0 where
  pub rule_set : IsRuleSet rules
  pub undirected : (text : Text) → finite.get rules.direct text ≡ None
  pub undoes : Undoes rules.renames inverse

pub inverts : (rules : Rules) → IsInvertible rules → Inverts rules (inverse rules.renames)
inverts rules h = record { rule_set = h.rule_set; undirected = undirected rules h.inverted; undoes = undoes rules h }

module _ (rules : Rules) (inv : List Renaming) (v : Inverts rules inv) where
  abbrev rs : List Renaming
  rs = rules.renames

  abbrev formed : list_all is_rename rules.renames ≡ true
  formed = v.rule_set.formed

  pub back_set : IsRuleSet (renames_alone inv)
  back_set = rule_set rules inv v.rule_set v.undoes.inverse_is

  inv_formed : list_all is_rename inv ≡ true
  inv_formed = back_set.formed

  settled : IsSettledRenames rules.renames
  settled = record { formed = v.rule_set.formed; packages = packages_stay rules v.rule_set }

  -- ---- names

  name_back : (separator : ℕ) (part : Text → Bool) → Parts separator part → (t : Text) → is_name part separator t ≡ true → IsUnreached rules.renames (front (segments separator t))
      → written separator (refronted inv (segments separator (written separator (refronted rules.renames (segments separator t))))) ≡ t
  name_back separator part parts t named free =
      let ps : Package = segments separator t in
      ap (λ (qs : Package). written separator (refronted inv qs)) (segments_image separator part parts rules.renames v.rule_set.formed t named).1
      ∙ ap (λ (q : Package). written separator (pkg inv q ++ simple (refronted rules.renames ps) ∷ [])) (front-push (pkg rules.renames (front ps)) (simple ps))
      ∙ ap (λ (q : Package). written separator (q ++ simple (refronted rules.renames ps) ∷ [])) (there_and_back rules.renames inv v.undoes (front ps) free)
      ∙ ap (λ (x : Text). written separator (front ps ++ x ∷ [])) (simple-push (pkg rules.renames (front ps)) (simple ps))
      ∙ ap (written separator) (front_simple ps (and_parts _ _ named).0)
      ∙ written-segments separator t

  abbrev Free : List Text → Type 0
  Free names = (n : Text) → In names n → IsUnreached rules.renames (front (segments slash n))

  -- there and back, at class names alone
  abbrev round : Text → Text
  round n = cond (is_class_name n) (repackaged inv (repackaged rules.renames n)) n

  round_same : (n : Text) → IsUnreached rules.renames (front (segments slash n)) → round n ≡ n
  round_same n free = elim (cases_Bool (is_class_name n)) [
    | inl named ↦ ap (λ (b : Bool). cond b (repackaged inv (repackaged rules.renames n)) n) named ∙ name_back slash is_part class_parts n named free
    | inr other ↦ ap (λ (b : Bool). cond b (repackaged inv (repackaged rules.renames n)) n) other
  ]

  comes : (n : Text) → is_class_name n ≡ true → repackaged inv (repackaged rules.renames n) ≡ round n
  comes n named = sym (ap (λ (b : Bool). cond b (repackaged inv (repackaged rules.renames n)) n) named)

  -- ---- descriptors

  desc_kind : (kind : DescriptorKind) (text : Text) → is_descriptor kind text ≡ true → Free (names_in (pieces text)) → desc inv (desc rules.renames text) ≡ text
  desc_kind kind text h free =
      let d = tree_of kind text h in
      let u : Text = desc rules.renames text in
      let r : IsDescriptor kind (desc rules.renames text) (renamed (repackaged rules.renames) d.0) = desc_kept rules.renames settled kind text d.0 d.1 in
      desc_is inv u (any_of kind u (taken kind u (renamed (repackaged rules.renames) d.0) r))
      ∙ prints_exchanged (repackaged inv) kind u (renamed (repackaged rules.renames) d.0) r
      ∙ ap print (renamed_twice (repackaged inv) (repackaged rules.renames) round comes d.0 d.1.formed)
      ∙ sym (prints_exchanged round kind text d.0 d.1)
      ∙ joined_same round (pieces text) (λ n is. round_same n (free n is))
      ∙ joins_text kind text d.0 d.1

  desc_back : (text : Text) → Free (descriptor_names text) → desc inv (desc rules.renames text) ≡ text
  desc_back text free = elim (cases_Bool (is_any_descriptor text)) [
    | inl any ↦ let k = some_kind text any in desc_kind k.0 text k.1 (subst Free (names_are text any) free)
    | inr other ↦ ap (desc inv) (desc_other rules.renames text other) ∙ desc_other inv text other
  ]

  -- ---- signatures

  sig_back : (kind : SignatureKind) (text : Text) → Free (signature_names kind text) → sig inv kind (sig rules.renames kind text) ≡ text
  sig_back kind text free = elim (cases_Bool (is_sound_signature kind text)) [
    | inl sound ↦
        let s = signature_of kind text sound in
        let u : Text = sig rules.renames kind text in
        let r : IsSignature kind (sig rules.renames kind text) (map_signature (repackaged rules.renames) s.0) = sig_stays rules.renames settled kind text s.0 s.1 in
        let names : signature_names kind text ≡ names_in (sig_pieces kind text) = ap (λ (b : Bool). cond b (names_in (sig_pieces kind text)) []) sound in
        sig_is inv kind u (sig_taken kind u (map_signature (repackaged rules.renames) s.0) r)
        ∙ sig_prints (repackaged inv) kind u (map_signature (repackaged rules.renames) s.0) r
        ∙ ap print_signature (signature_twice (repackaged inv) (repackaged rules.renames) round (λ n named. comes n (is_named n named)) most_nesting s.0 s.1.formed)
        ∙ sym (sig_prints round kind text s.0 s.1)
        ∙ joined_same round (sig_pieces kind text) (λ n is. round_same n (subst Free names free n is))
        ∙ sig_joins kind text s.0 s.1
    | inr odd ↦ ap (sig inv kind) (sig_other rules.renames kind text odd) ∙ sig_other inv kind text odd
  ]

  -- ---- class names and packages

  cls_back : (text : Text) → Free (names_of roles.Class text) → cls inv (cls rules.renames text) ≡ text
  unfolding names_of
  cls_back text free = elim (cases_Bool (begins_array text)) [
    | inl array ↦
        let is : cls rules.renames text ≡ desc rules.renames text = cls_array rules.renames text array in
        let unnamed : is_class_name text ≡ false = false_from_ne_true (is_class_name text) (λ named. both_ways (begins_array text) (no_array text named) array) in
        let names : names_of roles.Class text ≡ descriptor_names text = ap (λ (b : Bool). cond b (text ∷ []) (cond (begins_array text) (descriptor_names text) [])) unnamed ∙ ap (λ (b : Bool). cond b (descriptor_names text) []) array in
        ap (cls inv) is
        ∙ cls_array inv (desc rules.renames text) (ap begins_array (sym is) ∙ (class_laws rules.renames settled).array text array)
        ∙ desc_back text (subst Free names free)
    | inr plain ↦ elim (cases_Bool (is_class_name text)) [
      | inl named ↦
          let names : names_of roles.Class text ≡ text ∷ [] = ap (λ (b : Bool). cond b (text ∷ []) (cond (begins_array text) (descriptor_names text) [])) named in
          ap (cls inv) (cls_named rules.renames text named)
          ∙ cls_named inv (repackaged rules.renames text) (keeps_class_names rules.renames v.rule_set.formed text named)
          ∙ name_back slash is_part class_parts text named (subst Free names free text (inl refl))
      | inr other ↦
          let stays : (renames : List Renaming) → cls renames text ≡ text = λ renames. cls_name renames text plain ∙ ap (λ (b : Bool). cond b (repackaged renames text) text) other in
          ap (cls inv) (stays rules.renames) ∙ stays inv
    ]
  ]

  package_back : (text : Text) → IsUnreached rules.renames (segments slash text) → package_image inv (package_image rules.renames text) ≡ text
  package_back text free =
      ap (λ (p : Package). written slash (pkg inv p)) (package_cut rules.renames v.rule_set.formed slash refl text)
      ∙ ap (written slash) (there_and_back rules.renames inv v.undoes (segments slash text) free)
      ∙ written-segments slash text

  -- ---- strings

  -- a package of a rename of the inverse lies in a reach
  source_reached : (p : Package) → has_source inv p ≡ true → IsReached rules.renames p
  source_reached p there =
      let own : PickedSource inv p = source_picked inv p there in
      reached rules.renames inv v.undoes own.rename p own.there (pick_Some inv p own.rename own.picked).passes

  no_source : (p : Package) → IsUnreached rules.renames p → has_source inv p ≡ false
  no_source p free = false_from_ne_true (has_source inv p) (λ there. free (source_reached p there))

  dotted_named : (renames : List Renaming) (t : Text) → is_dotted t ≡ true → dotted renames t ≡ written dot (refronted renames (segments dot t))
  dotted_named renames t named = ap (λ (b : Bool). cond b (written dot (refronted renames (segments dot t))) t) named

  dotted_other : (renames : List Renaming) (t : Text) → is_dotted t ≡ false → dotted renames t ≡ t
  dotted_other renames t other = ap (λ (b : Bool). cond b (written dot (refronted renames (segments dot t))) t) other

  as_name : (renames : List Renaming) (t : Text) → has_source renames (segments dot t) ≡ false → renamed_string renames t ≡ dotted renames t
  as_name renames t none = ap (λ (b : Bool). cond b (package_written dot renames t) (dotted renames t)) none

  as_package : (renames : List Renaming) (t : Text) → has_source renames (segments dot t) ≡ true → renamed_string renames t ≡ package_written dot renames t
  as_package renames t some = ap (λ (b : Bool). cond b (package_written dot renames t) (dotted renames t)) some

  -- a dotted name whose front no rename of the inverse fits stays
  dotted_stays : (t : Text) → is_dotted t ≡ true → IsUnreached rules.renames (front (segments dot t)) → dotted inv t ≡ t
  dotted_stays t named free =
      dotted_named inv t named
      ∙ ap (λ (p : Package). written dot (p ++ simple (segments dot t) ∷ [])) (unchanged inv (front (segments dot t)) (λ s is fits. absurd (free (reached rules.renames inv v.undoes s (front (segments dot t)) is fits))))
      ∙ ap (written dot) (front_simple (segments dot t) (and_parts _ _ named).0)
      ∙ written-segments dot t

  abbrev FreeName : Text → Type 0
  FreeName t = is_dotted t ≡ true → IsUnreached rules.renames (segments dot t) × IsUnreached rules.renames (front (segments dot t))

  -- the source of one of the renames is a dotted name
  source_dotted : (renames : List Renaming) → list_all is_rename renames ≡ true → (t : Text) → has_source renames (segments dot t) ≡ true → is_dotted t ≡ true
  source_dotted renames fine t there =
      let own : PickedSource renames (segments dot t) = source_picked renames (segments dot t) there in
      ap is_package (sym own.source_is) ∙ (and_parts (is_package own.rename.source) (is_package own.rename.target) (all_In is_rename renames own.rename fine own.there)).0

  -- a string that is the source of a rename
  source_back : (t : Text) → FreeName t → has_source rules.renames (segments dot t) ≡ true → renamed_string inv (package_written dot rules.renames t) ≡ t
  source_back t free there =
      let p : Package = segments dot t in
      let named : is_dotted t ≡ true = source_dotted rules.renames v.rule_set.formed t there in
      let apart = free named in
      let own : PickedSource rules.renames (segments dot t) = source_picked rules.renames (segments dot t) there in
      let fits : in_scope own.rename (segments dot t) ≡ true = (pick_Some rules.renames (segments dot t) own.rename own.picked).passes in
      let u : Text = package_written dot rules.renames t in
      let cut : segments dot (package_written dot rules.renames t) ≡ pkg rules.renames (segments dot t) = package_cut rules.renames v.rule_set.formed dot refl t in
      let image : pkg rules.renames (segments dot t) ≡ renamed_by (Some own.rename) (segments dot t) = ap (λ (o : Option Renaming). renamed_by o (segments dot t)) own.picked in
      elim (cases_Bool (changes own.rename)) [
        | inl moves ↦
            let whole : renamed_by (Some own.rename) (segments dot t) ≡ own.rename.target = target_alone own.rename (segments dot t) own.source_is in
            let is : In inv (flipped own.rename) = one_of inv (flipped own.rename) (v.undoes.inverse_is.all own.rename (contained rules.renames own.rename own.there) moves) in
            let some : has_source inv (segments dot (package_written dot rules.renames t)) ≡ true =
            any_true (λ (s : Renaming). same s.source (segments dot (package_written dot rules.renames t))) inv (flipped own.rename) is (same_from own.rename.target (segments dot (package_written dot rules.renames t)) (sym (cut ∙ image ∙ whole))) in
            as_package inv u some
            ∙ ap (λ (q : Package). written dot (pkg inv q)) cut
            ∙ ap (written dot) (there_and_back rules.renames inv v.undoes (segments dot t) apart.0)
            ∙ written-segments dot t
        | inr stays ↦
            let still : own.rename.source ≡ own.rename.target = same_is own.rename.source own.rename.target (not-false _ stays) in
            let again : renamed_by (Some own.rename) (segments dot t) ≡ segments dot t = rw (← still) (sym (covers_is own.rename.below own.rename.source (segments dot t) fits)) in
            let unmoved : package_written dot rules.renames t ≡ t = ap (written dot) (image ∙ again) ∙ written-segments dot t in
            ap (renamed_string inv) unmoved ∙ as_name inv t (no_source (segments dot t) apart.0) ∙ dotted_stays t named apart.1
      ]
    where
      target_alone : (r : Renaming) (p : Package) → r.source ≡ p → renamed_by (Some r) p ≡ r.target
      target_alone r p e =
          let none : drop (length r.source) p ≡ [] = ap (λ (q : Package). drop (length r.source) q) (sym e ∙ sym (append-nil r.source)) ∙ drop_at r.source [] (length r.source) refl in
          ap (λ (q : Package). r.target ++ q) none ∙ append-nil r.target

  -- the image of a dotted name, as a package, is not the target of a changing rename
  longer : (a b : Package) (x : Text) → a ≡ (a ++ b) ++ x ∷ [] → ⊥
  longer a b x e = let sizes : length a ≡ length ((a ++ b) ++ x ∷ []) = ap length e in omega (arith, sizes, length-append (a ++ b) (x ∷ []), length-append a b)

  no_target : (p : Package) (x : Text) → IsUnreached rules.renames (p ++ x ∷ []) → (w : Renaming) → In rules.renames w → changes w ≡ true → w.target ≡ pkg rules.renames p ++ x ∷ [] → ⊥
  no_target p x free w js also e =
      let ends : front w.target ≡ pkg rules.renames p = ap front e ∙ front-push (pkg rules.renames p) x in
      elim (pick rules.renames p) as (λ (o : Option Renaming). pick rules.renames p ≡ o → pkg rules.renames p ≡ renamed_by o p → ⊥) [
        | None ↦ λ q i. unmoved i
        | Some r ↦ λ q i.
            let f : Found (λ (s : Renaming). in_scope s p) rules.renames r = pick_Some rules.renames p r q in
            elim (cases_Bool (changes r)) [
              | inl moves ↦
                  let reach : in_reach r (front w.target) ≡ true = ap (in_reach r) (ends ∙ i) ∙ covers_moved r.below r.source p r.target f.passes in
                  let none : overlap r w ≡ false = first_pair_None overlap rules.renames rules.renames r w v.undoes.apart f.there js in
                  elim (cases_Bool (bytes_eq (key_of r) (key_of w))) [
                    | inl same_key ↦
                        let one : r ≡ w = one_key key_of rules.renames v.undoes.table.rising r w f.there js ((bytes_eq-Decides (key_of r) (key_of w)).0 same_key) in
                        longer r.target (drop (length r.source) p) x (ap (λ (s : Renaming). s.target) one ∙ e ∙ ap (λ (t : Package). t ++ x ∷ []) i)
                    | inr differs ↦ both_ways _ none (and_from _ _ (and_from _ _ (and_from _ _ moves also) (not_from_false _ differs)) (or_right _ _ reach))
                  ]
              | inr stays ↦
                  let still : r.source ≡ r.target = same_is r.source r.target (not-false _ stays) in
                  let again : renamed_by (Some r) p ≡ p = rw (← still) (sym (covers_is r.below r.source p f.passes)) in
                  unmoved (i ∙ again)
            ]
      ] refl refl
    where
      itself : (b : Bool) (t : Package) → covers b t t ≡ true
      itself true t = begins_from t t [] (sym (append-nil t))
      itself false t = same_from t t refl

      unmoved : pkg rules.renames p ≡ p → ⊥
      unmoved i = free (record { by = w; there = contained rules.renames w js; moves = also; reach = ap (in_reach w) (sym (e ∙ ap (λ (q : Package). q ++ x ∷ []) i)) ∙ itself w.below w.target })

  -- a string that is the source of none
  name_round : (t : Text) → FreeName t → has_source rules.renames (segments dot t) ≡ false → renamed_string inv (dotted rules.renames t) ≡ t
  name_round t free none = elim (cases_Bool (is_dotted t)) [
    | inl named ↦
        let ps : Package = segments dot t in
        let apart = free named in
        let whole : front (segments dot t) ++ simple (segments dot t) ∷ [] ≡ segments dot t = front_simple (segments dot t) (and_parts _ _ named).0 in
        let u : Text = written dot (refronted rules.renames (segments dot t)) in
        let cut : segments dot (written dot (refronted rules.renames (segments dot t))) ≡ refronted rules.renames (segments dot t) = (segments_image dot is_identifier dotted_parts rules.renames v.rule_set.formed t named).1 in
        let no : has_source inv (segments dot (written dot (refronted rules.renames (segments dot t)))) ≡ false =
        any_false (λ (s : Renaming). same s.source (segments dot (written dot (refronted rules.renames (segments dot t))))) inv (λ s is h.
        no_target (front (segments dot t)) (simple (segments dot t)) (subst (IsUnreached rules.renames) (sym whole) apart.0) (flipped s)
        (one_of rules.renames (flipped s) (v.undoes.inverse_is.alone s (contained inv s is))) (flip_changes s (v.undoes.inverse_is.moves s (contained inv s is)))
        (same_is s.source (segments dot (written dot (refronted rules.renames (segments dot t)))) h ∙ cut)) in
        ap (renamed_string inv) (dotted_named rules.renames t named)
        ∙ as_name inv u no
        ∙ dotted_named inv u (name_image_named dot is_identifier dotted_parts rules.renames v.rule_set.formed t named)
        ∙ name_back dot is_identifier dotted_parts t named apart.1
    | inr other ↦
        let no : has_source inv (segments dot t) ≡ false = false_from_ne_true (has_source inv (segments dot t)) (λ there. both_ways (is_dotted t) other (source_dotted inv back_set.formed t there)) in
        ap (renamed_string inv) (dotted_other rules.renames t other) ∙ as_name inv t no ∙ dotted_other inv t other
  ]

  string_back : (t : Text) → FreeName t → str (renames_alone inv) (str rules t) ≡ t
  string_back t free =
      ap (λ (o : Option Text). str (renames_alone inv) (unwrap_or o (renamed_string rules.renames t))) (v.undirected t)
      ∙ ap (λ (o : Option Text). unwrap_or o (renamed_string inv (renamed_string rules.renames t))) (get-from_entries nat_list_cmp_total [] (renamed_string rules.renames t))
      ∙ elim (cases_Bool (has_source rules.renames (segments dot t))) [
        | inl there ↦ ap (renamed_string inv) (as_package rules.renames t there) ∙ source_back t free there
        | inr none ↦ ap (renamed_string inv) (as_name rules.renames t none) ∙ name_round t free none
      ]

  -- ---- all roles

  free_names : (names : List Text) → ((p : Package) → Contains (fronts names) p → IsUnreached rules.renames p) → Free names
  free_names names free n is = free (front (segments slash n)) (holds (fronts names) (front (segments slash n)) (in_map (λ (name : Text). front (segments slash name)) names n is))

  free_string : (t : Text) → IsFree rules.renames roles.Str t → FreeName t
  free_string t free named =
      let is : packages_of roles.Str t ≡ segments dot t ∷ front (segments dot t) ∷ [] = ap (λ (b : Bool). cond b (segments dot t ∷ front (segments dot t) ∷ []) []) named in
      let of : (p : Package) → In (segments dot t ∷ front (segments dot t) ∷ []) p → IsUnreached rules.renames p = λ p h. free p (subst (λ (ps : List Package). Contains ps p) (sym is) (holds (segments dot t ∷ front (segments dot t) ∷ []) p h)) in
      (of (segments dot t) (inl refl), of (front (segments dot t)) (inr (inl refl)))

  by_role : (role : Role) (text : Text) → IsFree rules.renames role text → image (images_of (renames_alone inv)) role (image (images_of rules) role text) ≡ text
  unfolding names_of
  by_role roles.Class text free = cls_back text (free_names (names_of roles.Class text) free)
  by_role roles.Package text free = package_back text (free (segments slash text) (holds (segments slash text ∷ []) (segments slash text) (inl refl)))
  by_role roles.Module text free = refl
  by_role roles.Descriptor text free = desc_back text (free_names (descriptor_names text) free)
  by_role roles.ClassSig text free = sig_back SignatureKind.class text (free_names (signature_names SignatureKind.class text) free)
  by_role roles.MethodSig text free = sig_back SignatureKind.method text (free_names (signature_names SignatureKind.method text) free)
  by_role roles.FieldSig text free = sig_back SignatureKind.field text (free_names (signature_names SignatureKind.field text) free)
  by_role roles.Str text free = string_back text (free_string text free)
  by_role roles.Plain text free = refl
  by_role roles.AttrName text free = refl

pub texts_back : TextsBack
texts_back rules role text h free = by_role rules (inverse rules.renames) (inverts rules h) role text free
