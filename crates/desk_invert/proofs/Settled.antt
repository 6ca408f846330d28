-- The inverse is settled.
use Rattle.std.proofs.Common.{◌≡◌, Bool, true, ◌&&◌, ◌||◌, List, [], ◌∷◌, Option, Some, None, refl, sym, ap, ◌∙◌, inl, inr, arith}
use Rattle.std.specs.List.{AllByRecursion}
use Rattle.std.specs.FinMap as finite
use Rattle.std.proofs.lemmas.Bool.{and_parts, and_from, or_left, or_right, or_cases, both_ways}
use Rattle.std.specs.Prelude.{is_none}
use Rattle.std.specs.Str.{is_utf8}
use Rattle.desk_entries.specs.Forms.{is_stored, is_written_package}
use Rattle.desk_base.specs.Names.{Text, is_dotted, same, begins_with, front, written, dot}
use Rattle.desk_base.specs.Utf8.{bad_form}
use Rattle.desk_packages.specs.Renames.{Renaming, changes, in_scope, in_reach}
use Rattle.desk_packages.proofs.Same.{same_is, same_from}
use Rattle.desk_packages.proofs.Picks.{In}
use Rattle.desk_packages.proofs.Searched.{find_nothing}
use Rattle.desk_packages.proofs.Lookup.{one_of, contained}
use Rattle.desk_chains.specs.Chains.{meets, rename_then_rename, package_then_name, name_then_package, rename_then_direct, package_then_direct, first_pair, first_chain_in, chain_of, Chain, or_chain}
use Rattle.desk_entries.specs.Exchanges.{Exchange}
use Rattle.desk_chains.specs.declared.ChainKind.{ChainKind}
use Rattle.desk_chains.specs.declared.ChainKind.TheVariants.{RenameThenRename, RenameThenDirect, PackageThenName, NameThenPackage, PackageThenDirect}
use Rattle.std.specs.Cmp.Lexicographic.{slice_cmp}
use Rattle.std.specs.Ordering.{nat_cmp}
use Rattle.desk_rules.specs.Rules.{Rules}
use Rattle.desk_rules.specs.RuleSets.{IsRuleSet, AreWritten}
use Rattle.desk_rules.specs.Settled.{IsSettled}
use Rattle.desk_rules.proofs.Twice.{first_pair_None}
use Rattle.desk_rules.proofs.Laws.{NoChain, no_chain}
use Rattle.desk_rules.proofs.Utf8Rules.{all_at}
use Rattle.desk_rules.proofs.TextMaps.{entries_rising}
use Rattle.std.specs.FinMap.{get-from_entries}
use Rattle.std.proofs.lemmas.Cmp.{nat_list_cmp_total}
use Rattle.desk_invert.specs.Inverse.{flipped}
use Rattle.desk_invert.specs.Laws.{renames_alone}
use Rattle.desk_invert.proofs.Inverses.{IsInverse, flip_changes}

none_is : {A : Type 0} (o : Option A) → is_none o ≡ true → o ≡ None
none_is None h = refl
none_is (Some x) h = absurd cc

stored_utf8 : (t : Text) → is_written_package t ≡ true → bad_form t ≡ None
stored_utf8 t h =
    let p = and_parts (is_dotted t && is_stored t) (is_utf8 t) h in
    none_is (bad_form t) (and_parts _ _ (and_parts (is_dotted t) (is_stored t) p.0).1).1

-- where no two are related, there is no first pair
pub pair_none : {A B : Type 0} (R : A → B → Bool) (xs : List A) (ys : List B) → ((x : A) (y : B) → In xs x → In ys y → R x y ≡ true → ⊥) → first_pair R xs ys ≡ None
pair_none R [] ys h = refl
pair_none {A} {B} R (x ∷ xs) ys h =
    ap (λ (o : Option B). elim o as (λ (w : Option B). Option (A × B)) [ Some v ↦ Some (x, v) | None ↦ first_pair R xs ys ]) (find_nothing (R x) ys (λ y js k. h x y (inl refl) js k))
    ∙ pair_none R xs ys (λ z y is js k. h z y (inr is) js k)

-- what holds of each one of a list holds of all
pub all_from : {A : Type 0} (P : A → Type 0) (xs : List A) → ((x : A) → In xs x → P x) → AllByRecursion P xs
all_from P [] h = tt
all_from P (x ∷ xs) h = (h x (inl refl), all_from P xs (λ y is. h y (inr is)))

-- exchanged renames meet the other way round
meets_flipped : (r s : Renaming) → meets r s ≡ true → meets (flipped s) (flipped r) ≡ true
meets_flipped r s h = elim (or_cases (same r.target s.source || (s.below && begins_with r.target s.source)) (r.below && begins_with s.source r.target) h) [
  | inl two ↦ elim (or_cases (same r.target s.source) (s.below && begins_with r.target s.source) two) [
    | inl e ↦ or_left _ _ (or_left _ _ (same_from s.source r.target (sym (same_is r.target s.source e))))
    | inr e ↦ or_right _ _ e
  ]
  | inr e ↦ or_left _ _ (or_right _ _ e)
]

or_none : (a b : Option Chain) → a ≡ None → b ≡ None → or_chain a b ≡ None
or_none a b e f = ap (λ (o : Option Chain). or_chain o b) e ∙ f

kind_none : {A B : Type 0} (kind : ChainKind) (first : A → Text) (second : B → Text) (o : Option (A × B)) → o ≡ None → chain_of kind first second o ≡ None
kind_none kind first second o e = ap (chain_of kind first second) e

-- a map of no entries
pub no_entries : {X : Type 0} → let es : List (Text × X) = [] in finite.entries (finite.from_entries {R = slice_cmp nat_cmp} es) ≡ []
no_entries {X} = entries_rising [] (λ i j d lt within. absurd (omega arith))

nothing : {X : Type 0} {C : Type 0} (text : Text) (value : X) → finite.get (finite.from_entries {R = slice_cmp nat_cmp} []) text ≡ Some value → C
nothing {X} text value e = let none : finite.get (finite.from_entries {R = slice_cmp nat_cmp} []) text ≡ None = get-from_entries nat_list_cmp_total [] text in let both : Some value ≡ None = sym e ∙ none in absurd cc

module _ (rules : Rules) (inv : List Renaming) (is_rules : IsRuleSet rules) (i : IsInverse rules.renames inv) where
  none : NoChain rules
  none = no_chain rules is_rules.settled

  there : (s : Renaming) → In inv s → In rules.renames (flipped s)
  there s is = one_of rules.renames (flipped s) (i.alone s (contained inv s is))

  moves : (s : Renaming) → In inv s → changes (flipped s) ≡ true
  moves s is = flip_changes s (i.moves s (contained inv s is))

  no_renames : first_pair rename_then_rename inv inv ≡ None
  no_renames = pair_none rename_then_rename inv inv (λ r s is js k.
      both_ways _ (first_pair_None rename_then_rename rules.renames rules.renames (flipped s) (flipped r) none.renames (there s js) (there r is))
      (and_from _ _ (and_from _ _ (moves s js) (moves r is)) (meets_flipped r s (and_parts (changes r && changes s) (meets r s) k).1)))

  no_package_name : first_pair package_then_name inv inv ≡ None
  no_package_name = pair_none package_then_name inv inv (λ r s is js k.
      both_ways _ (first_pair_None name_then_package rules.renames rules.renames (flipped s) (flipped r) none.name_package (there s js) (there r is))
      (and_from _ _ (and_from _ _ (moves s js) (moves r is)) (and_parts (changes r && changes s) (in_scope s (front r.target)) k).1))

  no_name_package : first_pair name_then_package inv inv ≡ None
  no_name_package = pair_none name_then_package inv inv (λ r s is js k.
      both_ways _ (first_pair_None package_then_name rules.renames rules.renames (flipped s) (flipped r) none.package_name (there s js) (there r is))
      (and_from _ _ (and_from _ _ (moves s js) (moves r is)) (and_parts (changes r && changes s) (in_reach r (front s.source)) k).1))

  no_direct : first_pair rename_then_direct inv [] ≡ None
  no_direct = pair_none rename_then_direct inv [] (λ r e is js k. absurd js)

  no_package_direct : first_pair package_then_direct inv [] ≡ None
  no_package_direct = pair_none package_then_direct inv [] (λ r e is js k. absurd js)

  -- there is no chain among the inverse renames alone
  no_chain_in : first_chain_in inv [] [] ≡ None
  no_chain_in =
      or_none _ _ (kind_none RenameThenRename _ _ _ no_renames)
      (or_none _ _ (kind_none RenameThenDirect _ _ _ no_direct)
      (or_none _ _ refl (or_none _ _ refl (or_none _ _ refl
      (or_none _ _ (kind_none PackageThenName _ _ _ no_package_name)
      (or_none _ _ (kind_none NameThenPackage _ _ _ no_name_package)
      (or_none _ _ (kind_none PackageThenDirect _ _ _ no_package_direct) refl)))))))

  pub settled : IsSettled (renames_alone inv)
  settled =
      ap (λ (ds : List Exchange). first_chain_in inv ds (finite.entries (renames_alone inv).bundles)) no_entries
      ∙ ap (first_chain_in inv []) no_entries
      ∙ no_chain_in

  both : (s : Renaming) → In inv s → (is_written_package (written dot s.target) ≡ true) × (is_written_package (written dot s.source) ≡ true)
  both s is = all_at (λ (r : Renaming). (is_written_package (written dot r.source) ≡ true) × (is_written_package (written dot r.target) ≡ true)) rules.renames (flipped s) is_rules.packages (there s is)

  pub are_written : AreWritten inv
  are_written = all_from (λ (s : Renaming). (is_written_package (written dot s.source) ≡ true) × (is_written_package (written dot s.target) ≡ true)) inv (λ s is. ((both s is).1, (both s is).0))

  pub rule_set : IsRuleSet (renames_alone inv)
  rule_set = record {
    formed = i.table.formed;
    settled = settled;
    utf8 = all_from (λ (s : Renaming). bad_form (written dot s.target) ≡ None) inv (λ s is. stored_utf8 (written dot s.target) (both s is).0);
    packages = are_written;
    direct_utf8 = λ text value e. nothing text value e;
    versioned = λ text value e. nothing text value e;
    updated = λ text value e. nothing text value e;
  }
