-- Whether a package is the source of a rename, and which rename is picked for it then.
use Rattle.std.proofs.Common.{◌≡◌, ◌≤◌, ℕ, Bool, true, false, not, ◌&&◌, ◌||◌, List, [], ◌∷◌, ◌++◌, length, drop, Option, Some, None, refl, sym, ap, ◌∙◌, inl, inr, arith, length-append}
use Rattle.std.specs.Prelude.{MatchOption, is_some}
use Rattle.std.specs.List.{list_any}
use Rattle.std.proofs.lemmas.Bool.{and_parts, and_from, or_left, or_right, both_ways, cases_Bool, false_from_ne_true, not_from_false}
use Rattle.std.proofs.lemmas.List.{append-nil}
use Rattle.std.proofs.lemmas.Slice.Eq.{bytes_eq-Decides}
use Rattle.desk_base.specs.Names.{Text, Package, segments, written, same, is_identifier}
use Rattle.desk_packages.specs.Renames.{Renaming, has_source, in_scope, covers, exact, longest, or_else, pick, is_rename}
use Rattle.desk_packages.specs.Keys.{is_separator, IsTable, IsSource, NoSource}
use Rattle.desk_packages.proofs.Same.{same_is, same_from, begins_from, covers_is}
use Rattle.desk_packages.proofs.Picks.{In, Found, find_Some, find_None, longest_Some, fits_below, all_In}
use Rattle.desk_packages.proofs.Lookup.{one_of, contained, longest_None, longest_most}
use Rattle.desk_packages.proofs.Cuts.{segments_written, written-segments}
use Rattle.desk_packages.proofs.KeyLaws.{identifier_cuts}

pub any_true : {A : Type 0} (test : A → Bool) (xs : List A) (x : A) → In xs x → test x ≡ true → list_any test xs ≡ true
any_true test [] x is h = absurd is
any_true test (y ∷ ys) x (inl here) h = or_left _ _ (ap test here ∙ h)
any_true test (y ∷ ys) x (inr later) h = or_right _ _ (any_true test ys x later h)

pub any_false : {A : Type 0} (test : A → Bool) (xs : List A) → ((x : A) → In xs x → test x ≡ true → ⊥) → list_any test xs ≡ false
any_false test [] none = refl
any_false test (y ∷ ys) none =
    ap (λ (b : Bool). b || list_any test ys) (false_from_ne_true (test y) (λ h. none y (inl refl) h))
    ∙ any_false test ys (λ x is h. none x (inr is) h)

pub any_found : {A : Type 0} (test : A → Bool) (xs : List A) → list_any test xs ≡ true → (x : A) × (In xs x × (test x ≡ true))
any_found test [] h = absurd cc
any_found {A} test (y ∷ ys) h = elim (cases_Bool (test y)) [
  | inl here ↦ (y, (inl refl, here))
  | inr other ↦
      let found = any_found test ys (sym (ap (λ (b : Bool). b || list_any test ys) other) ∙ h) in
      (found.0, (inr found.1.0, found.1.1))
]

-- ---- by the path that a source makes

module _ (rs : List Renaming) (table : IsTable rs) (s : ℕ) (sep : is_separator s ≡ true) (path : Text) where
  source_there : (below : Bool) (r : Renaming) → IsSource rs s path below r → has_source rs (segments s path) ≡ true
  source_there below r found =
      let is : In rs r = one_of rs r found.there in
      let fine = and_parts _ _ (and_parts _ _ (all_In is_rename rs r table.formed is)).0 in
      let spelled : written s r.source ≡ path = (bytes_eq-Decides (written s r.source) path).0 (and_parts _ _ found.is).1 in
      any_true (λ (r : Renaming). same r.source (segments s path)) rs r is
      (same_from r.source (segments s path) (sym (segments_written s is_identifier (identifier_cuts s sep) r.source fine.1) ∙ ap (segments s) spelled))

  kind_missed : (r : Renaming) → In rs r → r.source ≡ segments s path → (b : Bool) → r.below ≡ b → NoSource rs s path false → NoSource rs s path true → ⊥
  kind_missed r is e true deep plain below =
      below r record { there = contained rs r is; is = and_from _ _ deep ((bytes_eq-Decides (written s r.source) path).1 (ap (written s) e ∙ written-segments s path)) }
  kind_missed r is e false deep plain below =
      plain r record { there = contained rs r is; is = and_from _ _ (not_from_false _ deep) ((bytes_eq-Decides (written s r.source) path).1 (ap (written s) e ∙ written-segments s path)) }

  source_missing : NoSource rs s path false → NoSource rs s path true → has_source rs (segments s path) ≡ false
  source_missing plain below = any_false (λ (r : Renaming). same r.source (segments s path)) rs (λ r is h.
      kind_missed r is (same_is r.source (segments s path) h) r.below refl plain below)

  pub source_exact : (r : Renaming) → IsSource rs s path false r → true ≡ has_source rs (segments s path)
  source_exact r found = sym (source_there false r found)

  pub source_below : {R : Type 0} (value : R → Renaming) (o : Option R) → NoSource rs s path false → MatchOption o (NoSource rs s path true) (λ r. IsSource rs s path true (value r)) → is_some o ≡ has_source rs (segments s path)
  source_below value None plain found = sym (source_missing plain found)
  source_below value (Some r) plain found = sym (source_there true (value r) found)

-- ---- what is picked for a source

-- a rename of this very package is picked for it
pub record PickedSource (rs : List Renaming) (p : Package) : Type 0 where
  pub rename : Renaming
  pub there : In rs rename
  pub picked : pick rs p ≡ Some rename
  pub source_is : rename.source ≡ p

covers_plain : (b : Bool) (source p : Package) → not b ≡ true → covers b source p ≡ true → source ≡ p
covers_plain true source p h k = absurd cc
covers_plain false source p h k = same_is source p k

covers_itself : (b : Bool) (source p : Package) → source ≡ p → covers b source p ≡ true
covers_itself true source p e = begins_from p source [] (sym e ∙ sym (append-nil source))
covers_itself false source p e = same_from source p e

all_of_it : (start rest : Package) → length (start ++ rest) ≤ length start → start ≡ start ++ rest
all_of_it start [] h = sym (append-nil start)
all_of_it start (x ∷ rest) h = absurd (omega (arith, h, length-append start (x ∷ rest)))

whole_start : (start p : Package) → p ≡ start ++ drop (length start) p → length p ≤ length start → start ≡ p
whole_start start p e h = all_of_it start (drop (length start) p) (rw (← e) h) ∙ sym e

pub source_picked : (rs : List Renaming) (p : Package) → has_source rs p ≡ true → PickedSource rs p
source_picked rs p h =
    let found = any_found (λ (r : Renaming). same r.source p) rs h in
    let x = found.0 in
    let source_x : x.source ≡ p = same_is x.source p found.1.1 in
    let fits_x : in_scope x p ≡ true = covers_itself x.below x.source p source_x in
    elim (exact rs p) as (λ (o : Option Renaming). exact rs p ≡ o → PickedSource rs p) [
      | Some y ↦ λ q.
          let f : Found (λ (r : Renaming). not r.below && in_scope r p) rs y = find_Some _ rs y q in
          record {
            rename = y;
            there = f.there;
            picked = ap (λ (o : Option Renaming). or_else o (longest rs p)) q;
            source_is = covers_plain y.below y.source p (and_parts _ _ f.passes).0 (and_parts _ _ f.passes).1;
          }
      | None ↦ λ q.
          let deep : x.below ≡ true = elim (cases_Bool x.below) [
            | inl k ↦ k
            | inr k ↦ absurd (both_ways _ (find_None (λ (r : Renaming). not r.below && in_scope r p) rs x q found.1.0) (and_from _ _ (not_from_false _ k) fits_x))
          ] in
          let deep_x : fits_below p x ≡ true = and_from _ _ deep fits_x in
          elim (longest rs p) as (λ (o : Option Renaming). longest rs p ≡ o → PickedSource rs p) [
            | None ↦ λ e. absurd (longest_None rs p e x found.1.0 deep_x)
            | Some y ↦ λ e.
                let f : Found (fits_below p) rs y = longest_Some rs p y e in
                let most : length x.source ≤ length y.source = longest_most rs p y e x found.1.0 deep_x in
                record {
                  rename = y;
                  there = f.there;
                  picked = ap (λ (o : Option Renaming). or_else o (longest rs p)) q ∙ e;
                  source_is = whole_start y.source p (covers_is y.below y.source p (and_parts _ _ f.passes).1) (rw (← source_x) most);
                }
          ] refl
    ] refl
