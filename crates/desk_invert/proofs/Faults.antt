-- What is answered: the file of the inverse, or why there is none.
use Rattle.std.proofs.Common.{◌≡◌, ◌==◌, ℕ, suc, Bool, false, cond, List, [], ◌∷◌, length, Option, Some, None, Result, Ok, Err, IfOk, OnOk, refl, sym, ap, ◌∙◌, arith}
use Rattle.std.specs.Prelude.{IsOk}
use Rattle.std.proofs.lemmas.Bool.{both_ways, false_from_ne_true, eqb-true, eq-eqb}
use Rattle.std.specs.List.{filter}
use Rattle.std.specs.FinMap as finite
use Rattle.std.specs.FinMap.{find, get-entries}
use Rattle.std.specs.Cmp.Lexicographic.{slice_cmp}
use Rattle.std.specs.Ordering.{nat_cmp}
use Rattle.desk_base.specs.Names.{Text}
use Rattle.desk_packages.specs.Renames.{Renaming, changes, key_of}
use Rattle.desk_packages.specs.Keys.{IsTable}
use Rattle.desk_rules.specs.Rules.{Rules}
use Rattle.desk_rules.specs.Others.{filled_or, first_other}
use Rattle.desk_rules.specs.Files.{versions_name, bundles_name, direct_name}
use Rattle.desk_rules.specs.declared.InvertFault.{InvertFault}
use Rattle.desk_rules.specs.declared.InvertFault.TheVariants.{NotRenames, Nothing, Overlap}
use Rattle.desk_invert.specs.Inverse.{inverse, first_overlap}
use Rattle.desk_invert.specs.Files.{file_of}
use Rattle.desk_invert.specs.Answers.{inverted, inversion, unless_nothing, unless_overlap, unless_other, IsOverlapOf}
use Rattle.desk_invert.specs.Exchanged.{AreExchanged}
use Rattle.desk_invert.specs.Laws.{IsInvertible}
use Rattle.desk_invert.proofs.Inverses.{Undoes}
use Rattle.desk_invert.proofs.Exchanges.{is_inverse, none_changes, some_change}
use Rattle.desk_invert.proofs.Made.{inverse_is, inverse_made}

some_left : (rs : List Renaming) (rest : Result Text InvertFault) → (rs ≡ [] → ⊥) → unless_nothing rs rest ≡ rest
some_left [] rest some = absurd (some refl)
some_left (r ∷ rs) rest some = refl

module _ (rs once repeated : List Renaming) (e : AreExchanged rs once repeated) where
  abbrev unless : Option (Renaming × Renaming) → Result Text InvertFault
  unless pair = unless_overlap pair (Ok (file_of (inverse rs)))

  pub nothing_found : length once ≡ 0 → inverted rs ≡ Err Nothing
  nothing_found none = ap (λ (xs : List Renaming). unless_nothing xs (unless (first_overlap rs))) (none_changes rs once repeated e none)

  pub overlap_found : (length once ≡ 0 → ⊥) → (r s : Renaming) → first_overlap rs ≡ Some (r, s) → (fault : InvertFault) → IsOverlapOf r s fault → inverted rs ≡ Err fault
  overlap_found some r s found (NotRenames file) h = absurd h
  overlap_found some r s found Nothing h = absurd h
  overlap_found some r s found (Overlap first second) h =
      some_left (filter changes rs) (unless (first_overlap rs)) (some_change rs once repeated e some)
      ∙ ap unless found
      ∙ ap (λ (t : Text). Err (Overlap t (key_of s))) (sym h.0)
      ∙ ap (λ (t : Text). Err (Overlap first t)) (sym h.1)

  pub file_found : (length once ≡ 0 → ⊥) → first_overlap rs ≡ None → (file : Text) → file ≡ file_of once → inverted rs ≡ Ok file
  file_found some none file is =
      some_left (filter changes rs) (unless (first_overlap rs)) (some_change rs once repeated e some)
      ∙ ap unless none
      ∙ ap (λ (inv : List Renaming). Ok (file_of inv)) (inverse_is rs once (is_inverse rs once repeated e none))
      ∙ ap (λ (t : Text). Ok t) (sym is)

-- what renames have of which there is a file of the inverse
pub record HasFile (rs : List Renaming) (file : Text) : Type 0 where
  pub some : filter changes rs ≡ [] → ⊥
  pub apart : first_overlap rs ≡ None
  pub file_is : file ≡ file_of (inverse rs)

pub has_file : (rs : List Renaming) (file : Text) → inverted rs ≡ Ok file → HasFile rs file
has_file rs file h = by (filter changes rs) (first_overlap rs) refl refl h
  where
    by : (xs : List Renaming) (pair : Option (Renaming × Renaming)) → filter changes rs ≡ xs → first_overlap rs ≡ pair → unless_nothing xs (unless_overlap pair (Ok (file_of (inverse rs)))) ≡ Ok file → HasFile rs file
    by [] pair q r k = absurd cc
    by (x ∷ xs) (Some two) q r k = absurd cc
    by (x ∷ xs) None q r k =
        let is : file_of (inverse rs) ≡ file = cc k in
        record { some = λ none. let both : x ∷ xs ≡ [] = sym q ∙ none in absurd (cc both); apart = r; file_is = sym is }

-- rules of which there is a file are renames alone
others : (rules : Rules) (file : Text) → inversion rules ≡ Ok file → (first_other rules ≡ None) × (inverted rules.renames ≡ Ok file)
others rules file h = by (first_other rules) refl h
  where
    by : (o : Option Text) → first_other rules ≡ o → unless_other o (inverted rules.renames) ≡ Ok file → (first_other rules ≡ None) × (inverted rules.renames ≡ Ok file)
    by None e k = (e, k)
    by (Some name) e k = absurd cc

-- the file, where there is one
file_for : (rules : Rules) → IsOk (inversion rules) → (file : Text) × (inversion rules ≡ Ok file)
file_for rules h = by (inversion rules) refl h
  where
    by : (o : Result Text InvertFault) → inversion rules ≡ o → IsOk o → (file : Text) × (inversion rules ≡ Ok file)
    by (Ok file) e k = (file, e)
    by (Err fault) e k = absurd cc

-- the inverse of renames of which no two overlap undoes them
pub undoes_them : (rs : List Renaming) → IsTable rs → first_overlap rs ≡ None → Undoes rs (inverse rs)
undoes_them rs table apart = record { table = table; inverse_is = inverse_made rs table apart; apart = apart }

pub undoes : (rules : Rules) → IsInvertible rules → Undoes rules.renames (inverse rules.renames)
undoes rules h = let f = file_for rules h.inverted in undoes_them rules.renames h.table (has_file rules.renames f.0 (others rules f.0 f.1).1).apart

counted : (n : ℕ) → (suc n == 0) ≡ false
counted n = false_from_ne_true (suc n == 0) (λ h. let e : suc n ≡ 0 = eqb-true (suc n) 0 h in absurd (omega arith))

-- where no file behind a name, and it itself, has an entry
bare : {A : Type 0} (entries : List A) (name : Text) (others : Option Text) → filled_or entries name others ≡ None → (entries ≡ []) × (others ≡ None)
bare [] name others h = (refl, h)
bare (x ∷ xs) name others h = let filled : Some name ≡ None = sym (ap (λ (b : Bool). cond b others (Some name)) (counted (length xs))) ∙ h in absurd (cc filled)

-- rules that have an inverse have no direct rules
no_direct : (rules : Rules) → first_other rules ≡ None → finite.entries rules.direct ≡ []
no_direct rules h = (bare (finite.entries rules.direct) direct_name _ (bare (finite.entries rules.bundles) bundles_name _ (bare (finite.entries rules.versions) versions_name _ h).1).1).0

pub undirected : (rules : Rules) → IsOk (inversion rules) → (text : Text) → finite.get rules.direct text ≡ None
undirected rules h text =
    let f = file_for rules h in
    get-entries rules.direct text ∙ ap (find (slice_cmp nat_cmp) text) (no_direct rules (others rules f.0 f.1).0)

pub filled : (n : ℕ) → (n == 0) ≡ false → n ≡ 0 → ⊥
filled n h e = both_ways (n == 0) h (eq-eqb n 0 e)

-- what holds of the answer holds where there is one
pub on_ok : {A E : Type 0} (P : A → Type 0) (Q : Type 0) (r : Result A E) → IfOk r P → ((a : A) → P a → Q) → OnOk r Q
on_ok P Q (Ok a) h f = f a h
on_ok P Q (Err e) h f = tt

pub if_ok : {A E : Type 0} (P Q : A → Type 0) (r : Result A E) → IfOk r P → ((a : A) → P a → Q a) → IfOk r Q
if_ok P Q (Ok a) h f = f a h
if_ok P Q (Err e) h f = tt
