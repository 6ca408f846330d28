-- Under a rule set each image is its own image, and keeps its form.
use Rattle.std.proofs.Common.{◌≡◌, Bool, true, false, cond, List, [], ◌∷◌, ◌++◌, length, drop, Option, Some, None, refl, sym, ap, subst, ◌∙◌, ◌⊎◌, inl, inr}
use Rattle.std.specs.Prelude.{unwrap_or}
use Rattle.std.specs.List.{list_all}
use Rattle.std.specs.Str.{bytes_eq}
use Rattle.std.specs.FinMap as finite
use Rattle.std.proofs.lemmas.Slice.Eq.{bytes_eq-Decides}
use Rattle.std.proofs.lemmas.Bool.{cases_Bool, and_parts, and_from, or_left, not-false, not_from_false, both_ways, false_from_ne_true}
use Rattle.desk_base.specs.Names.{Text, Package, segments, written, front, simple, is_part, is_dotted, is_class_name, is_identifier, slash, dot}
use Rattle.std.proofs.lemmas.List.{append-nil, drop_at}
use Rattle.std.proofs.lemmas.Cmp.{nat_list_eq_equiv}
use Rattle.desk_base.proofs.Separated.{front-push, simple-push}
use Rattle.desk_packages.specs.Renames.{Renaming, has_source, in_scope, in_reach, changes, pick, renamed_by, pkg, is_rename}
use Rattle.desk_rules.specs.Rules.{Rules, Update, TextMap}
use Rattle.desk_chains.specs.declared.ChainKind.{ChainKind}
use Rattle.desk_chains.specs.declared.ChainKind.TheVariants.{RenameThenRename, RenameThenDirect, DirectThenDirect, DirectThenRename, BundleThenBundle, PackageThenName, NameThenPackage, PackageThenDirect, DirectThenPackage}
use Rattle.desk_chains.specs.Chains.{first_pair, rename_then_rename, rename_then_direct, one_then_another, direct_then_rename, update_then_update, package_then_name, name_then_package, package_then_direct, direct_then_package, Chain, chain_of, or_chain, front_in_reach}
use Rattle.desk_entries.specs.Exchanges.{alters, renames_bundle}
use Rattle.desk_rules.specs.Settled.{IsSettled}
use Rattle.desk_rules.specs.Images.{refronted, dotted, package_written, renamed_string, str}
use Rattle.desk_rules.specs.RuleSets.{IsRuleSet, PackagesStay, ClassesStay, ClassesKeepForm, IsClassImage, DottedStay, DottedKeepForm, IsDottedImage, StringsStay, BundlesStay, only_other_name}
use Rattle.desk_packages.proofs.Same.{covers_is, covers_moved, same_is as bytes_same, same_from}
use Rattle.desk_packages.proofs.Picks.{In, Found, pick_Some, all_In}
use Rattle.desk_packages.proofs.HasSource.{PickedSource, source_picked}
use Rattle.desk_rules.proofs.Twice.{first_pair_None, pkg_twice, unchanged}
use Rattle.desk_packages.proofs.Cuts.{segments_written, written-segments, front_simple}
use Rattle.desk_packages.proofs.Bytes.{identifier_part, part_whole, identifier_whole}
use Rattle.desk_rules.proofs.Forms.{Parts, segments_image, name_image_named, name_image_twice}
use Rattle.desk_rules.proofs.TextMaps.{map_holds}

pub class_parts : Parts slash is_part
class_parts = record { known = identifier_part; cuts = record { filled = refl; whole = part_whole } }

pub dotted_parts : Parts dot is_identifier
dotted_parts = record { known = λ t h. h; cuts = record { filled = refl; whole = identifier_whole } }

-- each kind of chain is missing
pub record NoChain (rules : Rules) : Type 0 where
  pub renames : first_pair rename_then_rename rules.renames rules.renames ≡ None
  pub rename_direct : first_pair rename_then_direct rules.renames (finite.entries rules.direct) ≡ None
  pub directs : first_pair one_then_another (finite.entries rules.direct) (finite.entries rules.direct) ≡ None
  pub direct_rename : first_pair direct_then_rename (finite.entries rules.direct) rules.renames ≡ None
  pub bundles : first_pair update_then_update (finite.entries rules.bundles) (finite.entries rules.bundles) ≡ None
  pub package_name : first_pair package_then_name rules.renames rules.renames ≡ None
  pub name_package : first_pair name_then_package rules.renames rules.renames ≡ None
  pub package_direct : first_pair package_then_direct rules.renames (finite.entries rules.direct) ≡ None
  pub direct_package : first_pair direct_then_package (finite.entries rules.direct) rules.renames ≡ None

no_first : (a b : Option Chain) → or_chain a b ≡ None → a ≡ None
no_first None b h = refl
no_first (Some c) b h = absurd cc

no_second : (a b : Option Chain) → or_chain a b ≡ None → b ≡ None
no_second None b h = h
no_second (Some c) b h = absurd cc

no_pair : {A B : Type 0} (kind : ChainKind) (first : A → Text) (second : B → Text) (o : Option (A × B)) → chain_of kind first second o ≡ None → o ≡ None
no_pair kind first second None h = refl
no_pair kind first second (Some pair) h = absurd cc

pub no_chain : (rules : Rules) → IsSettled rules → NoChain rules
no_chain rules h =
    let after_one = no_second _ _ h in
    let after_two = no_second _ _ after_one in
    let after_three = no_second _ _ after_two in
    let after_four = no_second _ _ after_three in
    let after_five = no_second _ _ after_four in
    let after_six = no_second _ _ after_five in
    let after_seven = no_second _ _ after_six in
    let after_eight = no_second _ _ after_seven in
    record {
      renames = no_pair RenameThenRename _ _ _ (no_first _ _ h);
      rename_direct = no_pair RenameThenDirect _ _ _ (no_first _ _ after_one);
      directs = no_pair DirectThenDirect _ _ _ (no_first _ _ after_two);
      direct_rename = no_pair DirectThenRename _ _ _ (no_first _ _ after_three);
      bundles = no_pair BundleThenBundle _ _ _ (no_first _ _ after_four);
      package_name = no_pair PackageThenName _ _ _ (no_first _ _ after_five);
      name_package = no_pair NameThenPackage _ _ _ (no_first _ _ after_six);
      package_direct = no_pair PackageThenDirect _ _ _ (no_first _ _ after_seven);
      direct_package = no_pair DirectThenPackage _ _ _ after_eight;
    }

-- no changing rename leads to another
pub no_renames : (rules : Rules) → IsSettled rules → first_pair rename_then_rename rules.renames rules.renames ≡ None
no_renames rules settled = (no_chain rules settled).renames

pub packages_stay : (rules : Rules) → IsRuleSet rules → PackagesStay rules.renames
packages_stay rules is = pkg_twice rules.renames (no_renames rules is.settled)

pub classes_stay : (rules : Rules) → IsRuleSet rules → ClassesStay rules.renames
classes_stay rules is = name_image_twice slash is_part class_parts rules.renames is.formed (no_renames rules is.settled)

pub dotted_stay : (rules : Rules) → IsRuleSet rules → DottedStay rules.renames
dotted_stay rules is = name_image_twice dot is_identifier dotted_parts rules.renames is.formed (no_renames rules is.settled)

class_image : (renames : List Renaming) → list_all is_rename renames ≡ true → (text : Text) → is_class_name text ≡ true → IsClassImage renames text (written slash (refronted renames (segments slash text)))
class_image renames formed text named =
    let parts = segments_image slash is_part class_parts renames formed text named in
    record {
      named = name_image_named slash is_part class_parts renames formed text named;
      front_is = ap front parts.1 ∙ front-push (pkg renames (front (segments slash text))) (simple (segments slash text));
      last_is = ap simple parts.1 ∙ simple-push (pkg renames (front (segments slash text))) (simple (segments slash text));
    }

pub classes_keep_form : (rules : Rules) → IsRuleSet rules → ClassesKeepForm rules.renames
classes_keep_form rules is text named = rw named (class_image rules.renames is.formed text named)

dotted_image : (renames : List Renaming) → list_all is_rename renames ≡ true → (text : Text) → is_dotted text ≡ true → IsDottedImage renames text (written dot (refronted renames (segments dot text)))
dotted_image renames formed text named =
    let parts = segments_image dot is_identifier dotted_parts renames formed text named in
    record {
      named = name_image_named dot is_identifier dotted_parts renames formed text named;
      front_is = ap front parts.1 ∙ front-push (pkg renames (front (segments dot text))) (simple (segments dot text));
      last_is = ap simple parts.1 ∙ simple-push (pkg renames (front (segments dot text))) (simple (segments dot text));
    }

pub dotted_keep_form : (rules : Rules) → IsRuleSet rules → DottedKeepForm rules.renames
dotted_keep_form rules is text named = rw named (dotted_image rules.renames is.formed text named)

-- a dotted name whose front no changing rename fits is its own image
dotted_still : (rules : Rules) → (t : Text) → ((s : Renaming) → In rules.renames s → is_dotted t ≡ true → in_scope s (front (segments dot t)) ≡ true → changes s ≡ false) → dotted rules.renames t ≡ t
dotted_still rules t h =
    elim (is_dotted t) as (λ (b : Bool). is_dotted t ≡ b → cond b (written dot (refronted rules.renames (segments dot t))) t ≡ t) [
      | true ↦ λ named.
          let still : pkg rules.renames (front (segments dot t)) ≡ front (segments dot t) = unchanged rules.renames (front (segments dot t)) (λ s is scope. h s is named scope) in
          ap (λ (p : Package). written dot (p ++ simple (segments dot t) ∷ [])) still
          ∙ ap (written dot) (front_simple (segments dot t) (and_parts _ _ named).0)
          ∙ written-segments dot t
      | false ↦ λ other. refl
    ] refl

-- a changing rename whose reach holds the front of a text
record Reached (rules : Rules) (t : Text) : Type 0 where
  by : Renaming
  there : In rules.renames by
  moves : changes by ≡ true
  reach : front_in_reach by t ≡ true

-- a text is its own dotted image, or the image lies in the reach of a changing rename
dotted_reached : (rules : Rules) → IsRuleSet rules → (t : Text) → (dotted rules.renames t ≡ t) ⊎ Reached rules (dotted rules.renames t)
dotted_reached rules fine t =
    elim (is_dotted t) as (λ (b : Bool). is_dotted t ≡ b → let u = cond b (written dot (refronted rules.renames (segments dot t))) t in (u ≡ t) ⊎ Reached rules u) [
      | true ↦ λ named. reached_name rules fine t named
      | false ↦ λ other. inl refl
    ] refl
  where
    reached_name : (rules : Rules) → IsRuleSet rules → (t : Text) → is_dotted t ≡ true → let u = written dot (refronted rules.renames (segments dot t)) in (u ≡ t) ⊎ Reached rules u
    reached_name rules fine t named =
        let p = front (segments dot t) in
        elim (pick rules.renames p) as (λ (o : Option Renaming). pick rules.renames p ≡ o → let u = written dot (renamed_by o p ++ simple (segments dot t) ∷ []) in (is_dotted u ≡ true) → (segments dot u ≡ renamed_by o p ++ simple (segments dot t) ∷ []) → (u ≡ t) ⊎ Reached rules u) [
          | None ↦ λ q d s. inl (ap (written dot) (front_simple (segments dot t) (and_parts _ _ named).0) ∙ written-segments dot t)
          | Some r ↦ λ q d s.
              let f : Found (λ (r : Renaming). in_scope r p) rules.renames r = pick_Some rules.renames p r q in
              elim (cases_Bool (changes r)) [
                | inl moves ↦ inr (record { by = r; there = f.there; moves = moves; reach = and_from _ _ d (rw (s, front-push (renamed_by (Some r) p) (simple (segments dot t))) (covers_moved r.below r.source p r.target f.passes)) })
                | inr stays ↦
                    let still : r.source ≡ r.target = bytes_same r.source r.target (not-false _ stays) in
                    let same_again : renamed_by (Some r) p ≡ p = rw (← still) (sym (covers_is r.below r.source p f.passes)) in
                    inl (ap (λ (w : Package). written dot (w ++ simple (segments dot t) ∷ [])) same_again ∙ ap (written dot) (front_simple (segments dot t) (and_parts _ _ named).0) ∙ written-segments dot t)
              ]
        ] refl (name_image_named dot is_identifier dotted_parts rules.renames fine.formed t named) (segments_image dot is_identifier dotted_parts rules.renames fine.formed t named).1

unaltered : (t v : Text) → alters (t, v) ≡ false → t ≡ v
unaltered t v h = (bytes_eq-Decides t v).0 (not-false _ h)

-- the image of a package whose own rename is picked
picked_image : (rs : List Renaming) (p : Package) (r : Renaming) → pick rs p ≡ Some r → r.source ≡ p → pkg rs p ≡ r.target
picked_image rs p r picked e =
    let none : drop (length r.source) p ≡ [] = ap (λ (q : Package). drop (length r.source) q) (sym e ∙ sym (append-nil r.source)) ∙ drop_at r.source [] (length r.source) refl in
    ap (λ (o : Option Renaming). renamed_by o p) picked ∙ ap (λ (q : Package). r.target ++ q) none ∙ append-nil r.target

-- a text that, read with dots, is the source of renames that don't change is its own image as a package
source_still : (rules : Rules) (t : Text) → has_source rules.renames (segments dot t) ≡ true → ((s : Renaming) → In rules.renames s → s.source ≡ segments dot t → changes s ≡ false) → package_written dot rules.renames t ≡ t
source_still rules t there still =
    let own : PickedSource rules.renames (segments dot t) = source_picked rules.renames (segments dot t) there in
    let stays : own.rename.source ≡ own.rename.target = bytes_same _ _ (not-false _ (still own.rename own.there own.source_is)) in
    ap (written dot) (picked_image rules.renames (segments dot t) own.rename own.picked own.source_is ∙ sym stays ∙ own.source_is) ∙ written-segments dot t

-- as a string, a text is its own image where it is as a dotted name, and no changing rename has it as its source
string_still : (rules : Rules) (t : Text) → ((s : Renaming) → In rules.renames s → s.source ≡ segments dot t → changes s ≡ false) → dotted rules.renames t ≡ t → renamed_string rules.renames t ≡ t
string_still rules t as_package as_name =
    elim (has_source rules.renames (segments dot t)) as (λ (b : Bool). has_source rules.renames (segments dot t) ≡ b → cond b (package_written dot rules.renames t) (dotted rules.renames t) ≡ t) [
      | true ↦ λ there. source_still rules t there as_package
      | false ↦ λ missing. as_name
    ] refl

-- and with direct rules, where none of those changes it
text_still : (rules : Rules) (t : Text) → ((w : Text) → finite.get rules.direct t ≡ Some w → alters (t, w) ≡ false) → renamed_string rules.renames t ≡ t → str rules t ≡ t
text_still rules t direct renames =
    elim (finite.get rules.direct t) as (λ (o : Option Text). finite.get rules.direct t ≡ o → unwrap_or o (renamed_string rules.renames t) ≡ t) [
      | None ↦ λ q. renames
      | Some w ↦ λ q. sym (unaltered t w (direct w q))
    ] refl

-- the target of a changing direct rule is its own image
direct_still : (rules : Rules) → IsSettled rules → (t v : Text) → In (finite.entries rules.direct) (t, v) → alters (t, v) ≡ true → str rules v ≡ v
direct_still rules settled t v is moves =
    let none = no_chain rules settled in
    text_still rules v
    (λ w q.
    let apart : one_then_another (t, v) (v, w) ≡ false = first_pair_None one_then_another (finite.entries rules.direct) (finite.entries rules.direct) (t, v) (v, w) none.directs is (map_holds rules.direct v w q) in
    false_from_ne_true (alters (v, w)) (λ (changed : alters (v, w) ≡ true). both_ways _ apart (and_from _ _ (and_from _ _ moves changed) (nat_list_eq_equiv.refl v))))
    (string_still rules v
    (λ s js source.
    let apart : direct_then_package (t, v) s ≡ false = first_pair_None direct_then_package (finite.entries rules.direct) rules.renames (t, v) s none.direct_package is js in
    let spelled : v ≡ written dot s.source = sym (ap (written dot) source ∙ written-segments dot v) in
    false_from_ne_true (changes s) (λ (changed : changes s ≡ true). both_ways _ apart (and_from _ _ (and_from _ _ moves changed) ((bytes_eq-Decides v (written dot s.source)).1 spelled))))
    (dotted_still rules v (λ s js named scope.
    let apart : direct_then_rename (t, v) s ≡ false = first_pair_None direct_then_rename (finite.entries rules.direct) rules.renames (t, v) s none.direct_rename is js in
    false_from_ne_true (changes s) (λ (changed : changes s ≡ true). both_ways _ apart (and_from _ _ (and_from _ _ moves changed) (and_from _ _ named scope))))))

-- the target of a changing rename, written with dots, is its own image
target_still : (rules : Rules) → IsRuleSet rules → (r : Renaming) → In rules.renames r → changes r ≡ true → str rules (written dot r.target) ≡ written dot r.target
target_still rules fine r is moves =
    let none = no_chain rules fine.settled in
    let target = and_parts _ _ (and_parts _ _ (all_In is_rename rules.renames r fine.formed is)).1 in
    let u : Text = written dot r.target in
    let cut : segments dot u ≡ r.target = segments_written dot is_identifier dotted_parts.cuts r.target target.1 in
    text_still rules u
    (λ w q.
    let apart : package_then_direct r (u, w) ≡ false = first_pair_None package_then_direct rules.renames (finite.entries rules.direct) r (u, w) none.package_direct is (map_holds rules.direct u w q) in
    false_from_ne_true (alters (u, w)) (λ (changed : alters (u, w) ≡ true). both_ways _ apart (and_from _ _ (and_from _ _ moves changed) (nat_list_eq_equiv.refl u))))
    (string_still rules u
    (λ s js source.
    let apart : rename_then_rename r s ≡ false = first_pair_None rename_then_rename rules.renames rules.renames r s none.renames is js in
    false_from_ne_true (changes s) (λ (changed : changes s ≡ true). both_ways _ apart (and_from _ _ (and_from _ _ moves changed) (or_left _ _ (or_left _ _ (same_from r.target s.source (sym cut ∙ sym source)))))))
    (dotted_still rules u (λ s js named scope.
    let apart : package_then_name r s ≡ false = first_pair_None package_then_name rules.renames rules.renames r s none.package_name is js in
    false_from_ne_true (changes s) (λ (changed : changes s ≡ true). both_ways _ apart (and_from _ _ (and_from _ _ moves changed) (ap (λ (p : Package). in_scope s (front p)) (sym cut) ∙ scope))))))

-- the image of a text that is the source of a rename and of no direct rule
source_twice : (rules : Rules) → IsRuleSet rules → (t : Text) → finite.get rules.direct t ≡ None → has_source rules.renames (segments dot t) ≡ true → str rules (package_written dot rules.renames t) ≡ package_written dot rules.renames t
source_twice rules fine t undirected there =
    let own : PickedSource rules.renames (segments dot t) = source_picked rules.renames (segments dot t) there in
    let image : pkg rules.renames (segments dot t) ≡ own.rename.target = picked_image rules.renames (segments dot t) own.rename own.picked own.source_is in
    elim (cases_Bool (changes own.rename)) [
      | inl moves ↦ subst (λ (u : Text). str rules u ≡ u) (ap (written dot) (sym image)) (target_still rules fine own.rename own.there moves)
      | inr stays ↦
          let same_package : own.rename.source ≡ own.rename.target = bytes_same _ _ (not-false _ stays) in
          let same_text : package_written dot rules.renames t ≡ t = ap (written dot) (image ∙ sym same_package ∙ own.source_is) ∙ written-segments dot t in
          ap (str rules) same_text
          ∙ ap (λ (o : Option Text). unwrap_or o (renamed_string rules.renames t)) undirected
          ∙ ap (λ (b : Bool). cond b (package_written dot rules.renames t) (dotted rules.renames t)) there
    ]

-- the image of a text that is the source of none
name_twice : (rules : Rules) → IsRuleSet rules → (t : Text) → finite.get rules.direct t ≡ None → has_source rules.renames (segments dot t) ≡ false → str rules (dotted rules.renames t) ≡ dotted rules.renames t
name_twice rules fine t undirected missing = elim (dotted_reached rules fine t) [
  | inl still ↦
      ap (str rules) still
      ∙ ap (λ (o : Option Text). unwrap_or o (renamed_string rules.renames t)) undirected
      ∙ ap (λ (b : Bool). cond b (package_written dot rules.renames t) (dotted rules.renames t)) missing
  | inr reached ↦ at_reached (no_chain rules fine.settled) (dotted rules.renames t) reached (dotted_stay rules fine t)
]
  where
    at_reached : NoChain rules → (u : Text) → Reached rules u → dotted rules.renames u ≡ u → str rules u ≡ u
    at_reached none u reached again =
        text_still rules u
        (λ w q.
        let apart : rename_then_direct reached.by (u, w) ≡ false = first_pair_None rename_then_direct rules.renames (finite.entries rules.direct) reached.by (u, w) none.rename_direct reached.there (map_holds rules.direct u w q) in
        false_from_ne_true (alters (u, w)) (λ (changed : alters (u, w) ≡ true). both_ways _ apart (and_from _ _ (and_from _ _ reached.moves changed) reached.reach)))
        (string_still rules u
        (λ s js source.
        let apart : name_then_package reached.by s ≡ false = first_pair_None name_then_package rules.renames rules.renames reached.by s none.name_package reached.there js in
        let within : in_reach reached.by (front (segments dot u)) ≡ true = (and_parts (is_dotted u) (in_reach reached.by (front (segments dot u))) reached.reach).1 in
        false_from_ne_true (changes s) (λ (changed : changes s ≡ true). both_ways _ apart (and_from _ _ (and_from _ _ reached.moves changed) (ap (λ (p : Package). in_reach reached.by (front p)) source ∙ within))))
        again)

-- the image of a string is its own image
pub strings_stay : (rules : Rules) → IsRuleSet rules → StringsStay rules
strings_stay rules fine t =
    elim (finite.get rules.direct t) as (λ (o : Option Text). finite.get rules.direct t ≡ o → let u = unwrap_or o (renamed_string rules.renames t) in str rules u ≡ u) [
      | Some v ↦ λ q.
          elim (cases_Bool (alters (t, v))) [
            | inl moves ↦ direct_still rules fine.settled t v (map_holds rules.direct t v q) moves
            | inr stays ↦
                let same_text : v ≡ t = sym (unaltered t v stays) in
                ap (str rules) same_text ∙ ap (λ (o : Option Text). unwrap_or o (renamed_string rules.renames t)) q
          ]
      | None ↦ λ q.
          elim (has_source rules.renames (segments dot t)) as (λ (b : Bool). has_source rules.renames (segments dot t) ≡ b → let u = cond b (package_written dot rules.renames t) (dotted rules.renames t) in str rules u ≡ u) [
            | true ↦ λ there. source_twice rules fine t q there
            | false ↦ λ missing. name_twice rules fine t q missing
          ] refl
    ] refl

-- the update of a bundle that gets another name
updated : (bundles : TextMap Update) (name : Text) (u : Update) (o : Option Update) → finite.get bundles name ≡ o → only_other_name name o ≡ Some u → (finite.get bundles name ≡ Some u) × (renames_bundle (name, u) ≡ true)
updated bundles name u None q h = absurd cc
updated bundles name u (Some w) q h =
    elim (bytes_eq name w.name) as (λ (b : Bool). bytes_eq name w.name ≡ b → cond b None (Some w) ≡ Some u → (finite.get bundles name ≡ Some u) × (renames_bundle (name, u) ≡ true)) [
      | true ↦ λ p k. absurd cc
      | false ↦ λ p k.
          let same : w ≡ u = cc in
          (q ∙ ap (λ (x : Update). Some x) same, rw (← same) (not_from_false _ p))
    ] refl h

-- the new name of an updated bundle is not updated again
pub bundles_stay : (rules : Rules) → IsRuleSet rules → BundlesStay rules.bundles
bundles_stay rules fine name u h =
    let at = updated rules.bundles name u (finite.get rules.bundles name) refl h in
    elim (finite.get rules.bundles u.name) as (λ (o : Option Update). finite.get rules.bundles u.name ≡ o → only_other_name u.name o ≡ None) [
      | None ↦ λ q. refl
      | Some w ↦ λ q.
          let apart : update_then_update (name, u) (u.name, w) ≡ false = first_pair_None update_then_update (finite.entries rules.bundles) (finite.entries rules.bundles) (name, u) (u.name, w) (no_chain rules fine.settled).bundles (map_holds rules.bundles name u at.0) (map_holds rules.bundles u.name w q) in
          let stays : renames_bundle (u.name, w) ≡ false = false_from_ne_true (renames_bundle (u.name, w)) (λ (changed : renames_bundle (u.name, w) ≡ true). both_ways _ apart (and_from _ _ (and_from _ _ at.1 changed) (nat_list_eq_equiv.refl u.name))) in
          ap (λ (b : Bool). cond b None (Some w)) (not-false _ stays)
    ] refl
