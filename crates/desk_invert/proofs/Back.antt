-- The inverse takes packages back.
use Rattle.std.proofs.Common.{◌≡◌, true, List, ◌++◌, length, drop, Option, Some, None, refl, sym, ap, ◌∙◌, inl, inr}
use Rattle.std.proofs.lemmas.Bool.{cases_Bool, not-false}
use Rattle.std.proofs.lemmas.List.{drop_at}
use Rattle.desk_base.specs.Names.{Package}
use Rattle.desk_packages.specs.Renames.{Renaming, changes, in_scope, in_reach, pick, renamed_by, pkg}
use Rattle.desk_packages.proofs.Same.{covers_is, covers_moved, same_is}
use Rattle.desk_packages.proofs.Picks.{In, Found, pick_Some}
use Rattle.desk_packages.proofs.Lookup.{one_of, contained}
use Rattle.desk_rules.proofs.Twice.{unchanged}
use Rattle.desk_invert.specs.Inverse.{flipped}
use Rattle.desk_invert.specs.Laws.{IsReached, IsUnreached, TakesPackagesBack}
use Rattle.desk_invert.proofs.Inverses.{Undoes, flip_changes}
use Rattle.desk_invert.proofs.Tables.{pick_None, one_reach}

module _ (rs inv : List Renaming) (u : Undoes rs inv) where
  -- what an inverse rename fits lies in the reach of the rename that it is the inverse of
  pub reached : (s : Renaming) (q : Package) → In inv s → in_scope s q ≡ true → IsReached rs q
  reached s q is fits = record {
    by = flipped s;
    there = u.inverse_is.alone s (contained inv s is);
    moves = flip_changes s (u.inverse_is.moves s (contained inv s is));
    reach = fits;
  }

  -- what a changing rename gives is taken back by its inverse
  pub taken_back : (p : Package) (r : Renaming) → In rs r → changes r ≡ true → in_scope r p ≡ true → renamed_by (pick inv (renamed_by (Some r) p)) (renamed_by (Some r) p) ≡ p
  taken_back p r is moves fits =
      let q : Package = r.target ++ drop (length r.source) p in
      let reach : in_reach r q ≡ true = covers_moved r.below r.source p r.target fits in
      elim (pick inv q) as (λ (o : Option Renaming). pick inv q ≡ o → renamed_by o q ≡ p) [
        | None ↦ λ e. absurd (pick_None inv q e (flipped r) (one_of inv (flipped r) (u.inverse_is.all r (contained rs r is) moves)) reach)
        | Some s ↦ λ e.
            let f : Found (λ (x : Renaming). in_scope x q) inv s = pick_Some inv q s e in
            let one : r ≡ flipped s = one_reach rs u.table u.apart r (flipped s) is (one_of rs (flipped s) (u.inverse_is.alone s (contained inv s f.there))) moves (flip_changes s (u.inverse_is.moves s (contained inv s f.there))) q reach f.passes in
            ap (λ (x : Renaming). x.source ++ drop (length x.target) q) (sym one)
            ∙ ap (λ (t : Package). r.source ++ t) (drop_at r.target (drop (length r.source) p) (length r.target) refl)
            ∙ sym (covers_is r.below r.source p fits)
      ] refl

  pub back : (p : Package) → IsUnreached rs p → pkg inv p ≡ p
  back p free = unchanged inv p (λ s is fits. absurd (free (reached s p is fits)))

  pub there_and_back : (p : Package) → IsUnreached rs p → pkg inv (pkg rs p) ≡ p
  there_and_back p free =
      elim (pick rs p) as (λ (o : Option Renaming). pick rs p ≡ o → pkg inv (renamed_by o p) ≡ p) [
        | None ↦ λ e. back p free
        | Some r ↦ λ e.
            let f : Found (λ (x : Renaming). in_scope x p) rs r = pick_Some rs p r e in
            elim (cases_Bool (changes r)) [
              | inl moves ↦ taken_back p r f.there moves f.passes
              | inr stays ↦
                  let still : r.source ≡ r.target = same_is r.source r.target (not-false _ stays) in
                  let same_again : renamed_by (Some r) p ≡ p = rw (← still) (sym (covers_is r.below r.source p f.passes)) in
                  ap (pkg inv) same_again ∙ back p free
            ]
      ] refl

  pub packages_back : TakesPackagesBack rs inv
  packages_back = record {
    picked = λ p r e moves. let f : Found (λ (x : Renaming). in_scope x p) rs r = pick_Some rs p r e in ap (λ (o : Option Renaming). pkg inv (renamed_by o p)) e ∙ taken_back p r f.there moves f.passes;
    unreached = back;
    back = there_and_back;
  }
