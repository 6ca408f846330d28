-- The inverse of renames, of which no two overlap.
use Rattle.std.proofs.Common.{◌≡◌, zero, suc, Bool, true, false, cond, List, [], ◌∷◌, map, get_or, None, ap, arith}
use Rattle.std.specs.List.{filter}
use Rattle.std.specs.Cmp.Lexicographic.{slice_cmp}
use Rattle.std.specs.Ordering.{nat_cmp}
use Rattle.std.specs.declared.cmp.Ordering.TheVariants.{Less}
use Rattle.std.proofs.lemmas.Bool.{and_parts, and_from}
use Rattle.desk_base.specs.Names.{is_package}
use Rattle.desk_packages.specs.Renames.{Renaming, changes, key_of, is_rename}
use Rattle.desk_packages.specs.Keys.{IsTable, RiseBy}
use Rattle.desk_packages.proofs.Picks.{In, all_In}
use Rattle.desk_packages.proofs.Searched.{in_at, at_in}
use Rattle.desk_packages.proofs.Lookup.{one_of, contained}
use Rattle.desk_invert.specs.Inverse.{flipped, inverse, first_overlap}
use Rattle.desk_invert.proofs.Inverses.{IsInverse, all_true, in_flips, from_flips, in_filter, from_filter, flip_changes, one_source, one_target}
use Rattle.desk_invert.proofs.Keyed.{by_key_is, by_key_in, by_key_rises, by_key_all}

-- ---- renames that rise, and some of them

rise_head : (x : Renaming) (xs : List Renaming) → RiseBy key_of (x ∷ xs) → (z : Renaming) → In xs z → slice_cmp nat_cmp (key_of x) (key_of z) ≡ Less
rise_head x xs rise z is =
    let at = in_at xs z is in
    let less : slice_cmp nat_cmp (key_of x) (key_of (get_or xs at.0 z)) ≡ Less = rise zero (suc at.0) z (omega arith) (omega (arith, at.1)) in
    rw (at.2 z) at less

rise_cons : (x : Renaming) (xs : List Renaming) → ((z : Renaming) → In xs z → slice_cmp nat_cmp (key_of x) (key_of z) ≡ Less) → RiseBy key_of xs → RiseBy key_of (x ∷ xs)
rise_cons x xs head rise i zero d lt within = absurd (omega arith)
rise_cons x xs head rise zero (suc j) d lt within = head (get_or xs j d) (at_in xs j d (omega arith))
rise_cons x xs head rise (suc i) (suc j) d lt within = rise i j d (omega arith) (omega arith)

rise_filter : (test : Renaming → Bool) (xs : List Renaming) → RiseBy key_of xs → RiseBy key_of (filter test xs)
rise_filter test [] rise = rise
rise_filter test (x ∷ xs) rise =
    let rest : RiseBy key_of (filter test xs) = rise_filter test xs (λ i j d lt within. rise (suc i) (suc j) d (omega arith) (omega arith)) in
    elim (test x) as (λ (b : Bool). RiseBy key_of (cond b (x ∷ filter test xs) (filter test xs))) [
      | true ↦ rise_cons x (filter test xs) (λ z is. rise_head x xs rise z (from_filter test xs z is).0) rest
      | false ↦ rest
    ]

-- ---- the inverse

module _ (rs : List Renaming) (table : IsTable rs) where
  flip_formed : (t : Renaming) → In (map flipped (filter changes rs)) t → is_rename t ≡ true
  flip_formed t is =
      let p = and_parts (is_package t.target) (is_package t.source) (all_In is_rename rs (flipped t) table.formed (from_flips rs t is).0) in
      and_from _ _ p.1 p.0

  -- where no two overlap, each new key stands once
  once : first_overlap rs ≡ None → (x y : Renaming) → In (map flipped (filter changes rs)) x → In (map flipped (filter changes rs)) y → key_of x ≡ key_of y → x ≡ y
  once apart x y is js e =
      let a = from_flips rs x is in
      let b = from_flips rs y js in
      let sources = one_source x y (flip_formed x is) (flip_formed y js) e in
      ap flipped (one_target rs table apart (flipped x) (flipped y) a.0 b.0 (flip_changes x a.1) (flip_changes y b.1) sources.0)

  pub inverse_made : first_overlap rs ≡ None → IsInverse rs (inverse rs)
  inverse_made apart = record {
    table = record { formed = all_true is_rename (inverse rs) (λ t is. flip_formed t (by_key_in (map flipped (filter changes rs)) t is)); rising = by_key_rises (map flipped (filter changes rs)) };
    all = λ r there moves. contained (inverse rs) (flipped r) (by_key_all (map flipped (filter changes rs)) (once apart) (flipped r) (in_flips rs r (one_of rs r there) moves));
    alone = λ s there. contained rs (flipped s) (from_flips rs s (by_key_in (map flipped (filter changes rs)) s (one_of (inverse rs) s there))).0;
    moves = λ s there. (from_flips rs s (by_key_in (map flipped (filter changes rs)) s (one_of (inverse rs) s there))).1;
  }

-- there is one inverse
pub inverse_is : (rs inv : List Renaming) → IsInverse rs inv → inverse rs ≡ inv
inverse_is rs inv i = by_key_is (map flipped (filter changes rs)) inv i.table.rising
    (λ x is. let f = from_flips rs x is in one_of inv x (i.all (flipped x) (contained rs (flipped x) f.0) (flip_changes x f.1)))
    (λ x is. in_flips rs (flipped x) (one_of rs (flipped x) (i.alone x (contained inv x is))) (flip_changes x (i.moves x (contained inv x is))))

-- that of the inverse are the changing renames
pub inverse_again : (rs : List Renaming) → IsTable rs → first_overlap rs ≡ None → inverse (inverse rs) ≡ filter changes rs
inverse_again rs table apart =
    let i = inverse_made rs table apart in
    inverse_is (inverse rs) (filter changes rs) record {
      table = record { formed = all_true is_rename (filter changes rs) (λ t is. all_In is_rename rs t table.formed (from_filter changes rs t is).0); rising = rise_filter changes rs table.rising };
      all = λ r there moves. contained (filter changes rs) (flipped r) (in_filter changes rs (flipped r) (one_of rs (flipped r) (i.alone r there)) (flip_changes r moves));
      alone = λ s there. let f = from_filter changes rs s (one_of (filter changes rs) s there) in i.all s (contained rs s f.0) f.1;
      moves = λ s there. (from_filter changes rs s (one_of (filter changes rs) s there)).1;
    }
