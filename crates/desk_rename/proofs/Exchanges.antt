-- The image of a package, by the front that the rule set answers.
use Rattle.std.proofs.Common.{◌≡◌, ◌≢◌, ◌≤◌, ◌<◌, ℕ, Bool, true, false, cond, not, List, [], ◌∷◌, ◌++◌, length, drop, Option, Some, None, refl, sym, ap, subst, ◌∙◌, arith}
use Rattle.std.specs.List.{list_all}
use Rattle.std.proofs.lemmas.Bool.{and_parts, and_from, both_ways, not-true, not-false}
use Rattle.std.proofs.lemmas.List.{append_cancel_right, append_assoc, append-nil, drop_at}
use Rattle.std.proofs.lemmas.List.Folds.{list_all-append}
use Rattle.desk_base.specs.Names.{Text, Package, segments, written, is_identifier, is_empty, is_whole, same}
use Rattle.desk_packages.specs.Keys.{is_separator}
use Rattle.desk_packages.specs.Renames.{Renaming, pick, pkg, renamed_by, changes, in_scope, is_rename}
use Rattle.desk_rules.specs.RuleSets.{IsFrontOf, changing_pick, only_changing}
use Rattle.desk_packages.proofs.Same.{same_is, same_from, covers_is}
use Rattle.desk_packages.proofs.Picks.{Found, pick_Some}
use Rattle.desk_packages.proofs.Cuts.{written-segments, split_written}
use Rattle.desk_packages.proofs.Picks.{all_In}
use Rattle.desk_packages.proofs.KeyLaws.{identifier_cuts}
use Rattle.desk_packages.proofs.Joined.{written_push}
use Rattle.desk_packages.proofs.Segments.{segments_whole}
use Rattle.desk_packages.proofs.Lookup.{written_more}

-- another start before the same rest
moved : (s : ℕ) (a b rest : Package) → not (is_empty a) ≡ true → not (is_empty b) ≡ true → written s (b ++ rest) ≡ written s b ++ drop (length (written s a)) (written s (a ++ rest))
moved s [] b rest p q = absurd cc
moved s (x ∷ xs) [] rest p q = absurd cc
moved s (x ∷ xs) (y ∷ ys) [] p q =
    let none : drop (length (written s (x ∷ xs))) (written s ((x ∷ xs) ++ [])) ≡ [] =
    ap (λ (ps : Package). drop (length (written s (x ∷ xs))) (written s ps)) (append-nil (x ∷ xs))
    ∙ ap (λ (t : Text). drop (length (written s (x ∷ xs))) t) (sym (append-nil (written s (x ∷ xs)))) ∙ drop_at (written s (x ∷ xs)) [] (length (written s (x ∷ xs))) refl in
    ap (written s) (append-nil (y ∷ ys)) ∙ sym (append-nil (written s (y ∷ ys))) ∙ ap (λ (t : Text). written s (y ∷ ys) ++ t) (sym none)
moved s (x ∷ xs) (y ∷ ys) (z ∷ zs) p q =
    let some : drop (length (written s (x ∷ xs))) (written s ((x ∷ xs) ++ z ∷ zs)) ≡ s ∷ written s (z ∷ zs) =
    ap (λ (t : Text). drop (length (written s (x ∷ xs))) t) (written_more s x xs z zs) ∙ drop_at (written s (x ∷ xs)) (s ∷ written s (z ∷ zs)) (length (written s (x ∷ xs))) refl in
    written_more s y ys z zs ∙ ap (λ (t : Text). written s (y ∷ ys) ++ t) (sym some)

record Changing (o : Option Renaming) (r : Renaming) : Type 0 where
  is : o ≡ Some r
  moves : changes r ≡ true

changing_by : (x r : Renaming) (b : Bool) → changes x ≡ b → cond b (Some x) None ≡ Some r → Changing (Some x) r
changing_by x r true e h = let same_one : x ≡ r = cc in record { is = h; moves = rw (← same_one) e }
changing_by x r false e h = absurd cc

changing : (o : Option Renaming) (r : Renaming) → only_changing o ≡ Some r → Changing o r
changing None r h = absurd cc
changing (Some x) r h = changing_by x r (changes x) refl h

unchanging_by : (rs : List Renaming) (p : Package) (x : Renaming) → pick rs p ≡ Some x → (b : Bool) → changes x ≡ b → cond b (Some x) None ≡ None → renamed_by (Some x) p ≡ p
unchanging_by rs p x picked true e h = absurd cc
unchanging_by rs p x picked false e h =
    let f : Found (λ (r : Renaming). in_scope r p) rs x = pick_Some rs p x picked in
    let still : x.source ≡ x.target = same_is _ _ (not-false _ e) in
    rw (← still) (sym (covers_is x.below x.source p f.passes))

-- a package that no changing rename is picked for
pub unchanged : (rs : List Renaming) (p : Package) → changing_pick rs p ≡ None → pkg rs p ≡ p
unchanged rs p none =
    elim (pick rs p) as (λ (o : Option Renaming). pick rs p ≡ o → only_changing o ≡ None → renamed_by o p ≡ p) [
      | None ↦ λ q h. refl
      | Some x ↦ λ q h. unchanging_by rs p x q (changes x) refl h
    ] refl none

-- a rename that is picked for a package: the package begins with its source, and its image with its target
pub record Picked (rs : List Renaming) (p : Package) (by : Renaming) : Type 0 where
  pub tail : Package
  pub moves : changes by ≡ true
  pub source_filled : not (is_empty by.source) ≡ true
  pub source_all : list_all is_identifier by.source ≡ true
  pub target_filled : not (is_empty by.target) ≡ true
  pub target_all : list_all is_identifier by.target ≡ true
  pub whole : p ≡ by.source ++ tail
  pub image : pkg rs p ≡ by.target ++ tail

pub picked_by : (rs : List Renaming) → list_all is_rename rs ≡ true → (p : Package) (r : Renaming) → changing_pick rs p ≡ Some r → Picked rs p r
picked_by rs formed p r found =
    let c = changing (pick rs p) r found in
    let f : Found (λ (r : Renaming). in_scope r p) rs r = pick_Some rs p r c.is in
    let fine = and_parts _ _ (all_In is_rename rs r formed f.there) in
    let from = and_parts _ _ fine.0 in
    let to = and_parts _ _ fine.1 in
    record {
      tail = drop (length r.source) p;
      moves = c.moves;
      source_filled = from.0;
      source_all = from.1;
      target_filled = to.0;
      target_all = to.1;
      whole = covers_is r.below r.source p f.passes;
      image = ap (λ (o : Option Renaming). renamed_by o p) c.is;
    }

-- a rest of whole parts behind identifiers is cut apart as it stands
all_identifiers_whole : (s : ℕ) → is_separator s ≡ true → (ps : Package) → list_all is_identifier ps ≡ true → list_all (is_whole s) ps ≡ true
all_identifiers_whole s sep [] h = refl
all_identifiers_whole s sep (p ∷ ps) h = and_from _ _ ((identifier_cuts s sep).whole p (and_parts _ _ h).0) (all_identifiers_whole s sep ps (and_parts _ _ h).1)

cut_again : (s : ℕ) → is_separator s ≡ true → (a tail : Package) → not (is_empty a) ≡ true → list_all is_identifier a ≡ true → list_all (is_whole s) tail ≡ true → segments s (written s (a ++ tail)) ≡ a ++ tail
cut_again s sep [] tail filled all rest = absurd cc
cut_again s sep ([] ∷ a) tail filled all rest = absurd cc
cut_again s sep ((b ∷ x) ∷ a) tail filled all rest =
    let whole : list_all (is_whole s) (((b ∷ x) ∷ a) ++ tail) ≡ true = list_all-append (is_whole s) ((b ∷ x) ∷ a) tail ∙ and_from _ _ (all_identifiers_whole s sep ((b ∷ x) ∷ a) all) rest in
    first_filled (a ++ tail) whole
  where
    first_filled : (ps : Package) → list_all (is_whole s) ((b ∷ x) ∷ ps) ≡ true → segments s (written s ((b ∷ x) ∷ ps)) ≡ (b ∷ x) ∷ ps
    first_filled [] h = split_written s (b ∷ x) [] h
    first_filled (p ∷ ps) h = split_written s (b ∷ x) (p ∷ ps) h

some_bytes : (s : ℕ) (ps : Package) → not (is_empty ps) ≡ true → list_all is_identifier ps ≡ true → 0 < length (written s ps)
some_bytes s [] filled all = absurd cc
some_bytes s ([] ∷ ps) filled all = absurd cc
some_bytes s ((b ∷ x) ∷ []) filled all = omega arith
some_bytes s ((b ∷ x) ∷ p ∷ ps) filled all = omega arith

some_more : (a b : Package) → not (is_empty a) ≡ true → 0 < length (a ++ b)
some_more [] b h = absurd cc
some_more (x ∷ a) b h = omega arith

-- what the front of a package says of its image
pub record PackageFront (rs : List Renaming) (s : ℕ) (path : Text) (taken : ℕ) (target : Package) : Type 0 where
  pub within : taken ≤ length path
  pub some : 0 < taken
  pub image : written s (pkg rs (segments s path)) ≡ written s target ++ drop taken path
  pub cut : segments s (written s (pkg rs (segments s path))) ≡ pkg rs (segments s path)
  pub filled : 0 < length (pkg rs (segments s path))
  pub differs : written s (pkg rs (segments s path)) ≢ path

-- the tail of a picked package
tail_whole : (s : ℕ) (a tail : Package) (path : Text) → segments s path ≡ a ++ tail → list_all (is_whole s) tail ≡ true
tail_whole s a tail path e = (and_parts (list_all (is_whole s) a) (list_all (is_whole s) tail) (sym (list_all-append (is_whole s) a tail) ∙ ap (list_all (is_whole s)) (sym e) ∙ segments_whole s path)).1

pub package_cut : (rs : List Renaming) → list_all is_rename rs ≡ true → (s : ℕ) → is_separator s ≡ true → (path : Text) → segments s (written s (pkg rs (segments s path))) ≡ pkg rs (segments s path)
package_cut rs formed s sep path =
    elim (changing_pick rs (segments s path)) as (λ (o : Option Renaming). changing_pick rs (segments s path) ≡ o → segments s (written s (pkg rs (segments s path))) ≡ pkg rs (segments s path)) [
      | None ↦ λ q.
          let still : pkg rs (segments s path) ≡ segments s path = unchanged rs (segments s path) q in
          ap (λ (p : Package). segments s (written s p)) still ∙ ap (segments s) (written-segments s path) ∙ sym still
      | Some r ↦ λ q.
          let k = picked_by rs formed (segments s path) r q in
          ap (λ (p : Package). segments s (written s p)) k.image
          ∙ cut_again s sep r.target k.tail k.target_filled k.target_all (tail_whole s r.source k.tail path k.whole)
          ∙ sym k.image
    ] refl

pub package_front : (rs : List Renaming) → list_all is_rename rs ≡ true → (s : ℕ) → is_separator s ≡ true → (path : Text) (taken : ℕ) (target : Package) → IsFrontOf rs s path taken target → PackageFront rs s path taken target
package_front rs formed s sep path taken target found =
    let r = found.rename in
    let k = picked_by rs formed (segments s path) r found.picked in
    let cut_image = package_cut rs formed s sep path in
    record {
      within = found.within;
      some = subst (λ (n : ℕ). 0 < n) (sym found.taken_is) (some_bytes s r.source k.source_filled k.source_all);
      image = ap (written s) k.image
          ∙ moved s r.source r.target k.tail k.source_filled k.target_filled
          ∙ ap (λ (p : Package). written s r.target ++ drop (length (written s r.source)) (written s p)) (sym k.whole)
          ∙ ap (λ (t : Text). written s r.target ++ drop (length (written s r.source)) t) (written-segments s path)
          ∙ ap (λ (p : Package). written s p ++ drop (length (written s r.source)) path) (sym found.target_is)
          ∙ ap (λ (n : ℕ). written s target ++ drop n path) (sym found.taken_is);
      cut = cut_image;
      filled = subst (λ (p : Package). 0 < length p) (sym k.image) (some_more r.target k.tail k.target_filled);
      differs = λ e.
          let again : r.target ++ k.tail ≡ r.source ++ k.tail = sym k.image ∙ sym cut_image ∙ ap (segments s) e ∙ k.whole in
          let packages : r.target ≡ r.source = append_cancel_right r.target r.source k.tail again in
          both_ways (same r.source r.target) (not-true _ k.moves) (same_from r.source r.target (sym packages));
    }

-- ---- a name: a package, a separator and a last part

-- the image of a name whose package has a front
pub record NameFront (rs : List Renaming) (s : ℕ) (path last : Text) (taken : ℕ) (target : Package) : Type 0 where
  pub image : written s (pkg rs (segments s path) ++ last ∷ []) ≡ written s target ++ (drop taken path ++ s ∷ last)
  pub differs : written s (pkg rs (segments s path) ++ last ∷ []) ≢ path ++ s ∷ last

pub name_front : (rs : List Renaming) (s : ℕ) (path last : Text) (taken : ℕ) (target : Package) → PackageFront rs s path taken target → NameFront rs s path last taken target
name_front rs s path last taken target k =
    let w = written s (pkg rs (segments s path)) in
    let joined : written s (pkg rs (segments s path) ++ last ∷ []) ≡ w ++ s ∷ last =
    written_push s (pkg rs (segments s path)) last k.filled ∙ append_assoc w (s ∷ []) last in
    record {
      image = joined ∙ ap (λ (t : Text). t ++ s ∷ last) k.image ∙ append_assoc (written s target) (drop taken path) (s ∷ last);
      differs = λ e. k.differs (append_cancel_right w path (s ∷ last) (sym joined ∙ e));
    }
