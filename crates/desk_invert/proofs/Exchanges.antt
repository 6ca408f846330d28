-- What was exchanged: one for each key, and what several give.
use Rattle.std.proofs.Common.{◌≡◌, Bool, true, false, cond, not, List, [], ◌∷◌, map, length, None, refl, sym, ap, ap₂, subst, inl, arith}
use Rattle.std.specs.List.{filter, Contains}
use Rattle.std.specs.List.Sorted.{IsPermutation}
use Rattle.std.specs.Str.{bytes_eq}
use Rattle.std.proofs.lemmas.Bool.{and_parts, and_from, both_ways, not-true}
use Rattle.std.proofs.lemmas.List.Sorted.{Contains-permutation, IsPermutation-sym}
use Rattle.std.proofs.lemmas.Slice.Eq.{bytes_eq-Decides}
use Rattle.desk_base.specs.Names.{Package, same, is_package}
use Rattle.desk_packages.specs.Renames.{Renaming, changes, key_of, is_rename}
use Rattle.desk_packages.specs.Keys.{IsTable, RiseBy}
use Rattle.desk_packages.proofs.Same.{same_is}
use Rattle.desk_packages.proofs.Picks.{In, all_In}
use Rattle.desk_packages.proofs.Lookup.{one_of, contained}
use Rattle.desk_invert.specs.Inverse.{flipped, first_overlap, differ}
use Rattle.desk_invert.specs.Exchanged.{takes_back, IsTakenBack, AreExchanged, IsParted, HasKey}
use Rattle.desk_invert.proofs.Inverses.{IsInverse, all_true, in_flips, from_flips, flip_changes, one_source, one_target, in_filter, from_filter}

agree : (a b : Bool) → cond a b (not b) ≡ true → a ≡ b
agree true true h = refl
agree true false h = absurd cc
agree false true h = absurd cc
agree false false h = refl

module _ (rs backs once repeated : List Renaming) (table : IsTable rs) (moved : IsPermutation (map flipped (filter changes rs)) backs) (p : IsParted backs once repeated) where
  -- each changing rename was exchanged
  there : (r : Renaming) → Contains rs r → changes r ≡ true → Contains backs (flipped r)
  there r h moves = Contains-permutation (map flipped (filter changes rs)) backs (flipped r) moved (contained (map flipped (filter changes rs)) (flipped r) (in_flips rs r (one_of rs r h) moves))

  -- and nothing else
  of : (t : Renaming) → Contains backs t → In rs (flipped t) × (changes t ≡ true)
  of t h = from_flips rs t (one_of (map flipped (filter changes rs)) t (Contains-permutation backs (map flipped (filter changes rs)) t (IsPermutation-sym (map flipped (filter changes rs)) backs moved) h))

  formed : (t : Renaming) → Contains backs t → is_rename t ≡ true
  formed t h = let q = and_parts (is_package t.target) (is_package t.source) (all_In is_rename rs (flipped t) table.formed (of t h).0) in and_from _ _ q.1 q.0

  table_of : (us : List Renaming) → RiseBy key_of us → ((t : Renaming) → Contains us t → Contains backs t) → IsTable us
  table_of us rise from = record { formed = all_true is_rename us (λ t is. formed t (from t (contained us t is))); rising = rise }

  -- what has the key of an exchanged rename takes back what the rename gives
  back_of : (us : List Renaming) → ((t : Renaming) → Contains us t → Contains backs t) → (r : Renaming) → Contains backs (flipped r) → HasKey us (key_of (flipped r)) → IsTakenBack us r
  back_of us from r h has =
      let e = one_source has.one (flipped r) (formed has.one (from has.one has.there)) (formed (flipped r) h) has.key_is in
      record { by = has.one; there = has.there; source_is = e.0; below_is = e.1 }

  other_back : (r s : Renaming) → differ r s ≡ true → flipped r ≡ flipped s → ⊥
  other_back r s apart e = both_ways (bytes_eq (key_of r) (key_of s)) (not-true _ apart) ((bytes_eq-Decides (key_of r) (key_of s)).1 (ap (λ (t : Renaming). key_of (flipped t)) e))

  same_keys : (r s : Renaming) → takes_back (flipped s) r ≡ true → key_of (flipped r) ≡ key_of (flipped s)
  same_keys r s h =
      let q = and_parts (same s.target r.target) (cond r.below s.below (not s.below)) h in
      ap₂ (λ (p : Package) (b : Bool). key_of (record { source = p; target = r.source; below = b })) (sym (same_is s.target r.target q.0)) (agree r.below s.below q.1)

  pub are_exchanged : AreExchanged rs once repeated
  are_exchanged = record {
    renames_table = table;
    once_table = table_of once p.once_rises p.once_from;
    repeated_table = table_of repeated p.repeated_rises p.repeated_from;
    from = λ t h. let q = of t (p.once_from t h) in (contained rs (flipped t) q.0, q.1);
    each = λ r h moves. back_of once p.once_from r (there r h moves) (p.each (flipped r) (there r h moves));
    several = λ r s h k moves also apart back. back_of repeated p.repeated_from r (there r h moves)
        (p.several (flipped r) (flipped s) (there r h moves) (there s k also) (other_back r s apart) (same_keys r s back));
  }

no_member : {A : Type 0} (xs : List A) → ((x : A) → In xs x → ⊥) → xs ≡ []
no_member [] none = refl
no_member (x ∷ xs) none = absurd (none x (inl refl))

module _ (rs once repeated : List Renaming) (e : AreExchanged rs once repeated) where
  -- where no two overlap, all was exchanged
  pub is_inverse : first_overlap rs ≡ None → IsInverse rs once
  is_inverse apart = record {
    table = e.once_table;
    all = λ r h moves.
        let back = e.each r h moves in
        let from = e.from back.by back.there in
        let one : r ≡ flipped back.by = one_target rs e.renames_table apart r (flipped back.by) (one_of rs r h) (one_of rs (flipped back.by) from.0) moves (flip_changes back.by from.1) (sym back.source_is) in
        subst (Contains once) (sym (ap flipped one)) back.there;
    alone = λ s h. (e.from s h).0;
    moves = λ s h. (e.from s h).1;
  }

  -- where nothing was exchanged, none changes
  pub none_changes : length once ≡ 0 → filter changes rs ≡ []
  none_changes none = no_member (filter changes rs) (λ r is.
      let f = from_filter changes rs r is in
      let back = e.each r (contained rs r f.0) f.1 in
      absurd (omega (arith, back.there.1, none)))

  -- where something was, one changes
  pub some_change : (length once ≡ 0 → ⊥) → filter changes rs ≡ [] → ⊥
  some_change some none = by once refl
    where
      by : (us : List Renaming) → once ≡ us → ⊥
      by [] q = some (ap length q)
      by (t ∷ us) q =
          let from = e.from t (contained once t (subst (λ (xs : List Renaming). In xs t) (sym q) (inl refl))) in
          subst (λ (xs : List Renaming). In xs (flipped t)) none (in_filter changes rs (flipped t) (one_of rs (flipped t) from.0) (flip_changes t from.1))
