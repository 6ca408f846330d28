-- What a change of the table of rows makes of the entries that it tells.
use Rattle.std.proofs.Common.{◌≡◌, inl, inr, ℤ, List, [], ◌∷◌, map, filter, Bool, true, false, cond, Some, None, refl, sym, ap, subst, ◌∙◌, Option, Ordering, Less, Equal, Greater, is_eq}
use Rattle.std.proofs.lemmas.Bool.{cases_Bool, or_parts, not-true, not-false, false_from_ne_true}
use Rattle.std.proofs.lemmas.Cmp.{nat_list_cmp_total, tied_itself}
use Rattle.std.proofs.lemmas.List.Sorted.{All-permutation}
use Rattle.std.proofs.lemmas.List.Elements.{All-from_recursion, recursion_from_All}
use Rattle.std.specs.List.{AllByRecursion}
use Rattle.std.specs.List.Sorted.{IsPermutation}
use Rattle.std.specs.Ordering.{nat_cmp, match_ordering}
use Rattle.std.specs.Cmp.{eq_by_cmp_equiv}
use Rattle.std.specs.Cmp.Lexicographic.{slice_cmp}
use Rattle.std.specs.BTreeMap.{is_at}
use Rattle.std.specs.FinMap.{slice_cmp-IsAntisymmetric, nat_cmp-IsAntisymmetric, insert, remove, from_entries}
use Rattle.sqlite.specs.declared.types.Value.TheVariants.{Int}
use Rattle.sqlite.specs.Order.{Row, value_cmp}
use Rattle.sqlite_value.proofs.OrderLemmas.{value_cmp_total}
use Rattle.sqlite.specs.Tree.{rowid, IsTable, has_rowid, put_row, without_rowid}
use Rattle.sqlite_trees.proofs.ListLemmas.{all-filter, ascending-filter}
use Rattle.sqlite_rules.specs.Lists.{Has}
use Rattle.sqlite.specs.Edit.{id_in, without_all, is_taken}
use Rattle.sqlite_rules.specs.Calls.{ids_of}
use Rattle.sqlite_rules.proofs.ListLemmas.{all_has, all_from, has_filtered}
use Rattle.sqlite_rules.proofs.ProbeLemmas.{has_mapped, mapped_has}
use Rattle.sqlite_rules.proofs.PlaceLemmas.{tied_same}
use Rattle.sqlite_rules.proofs.TableLemmas.{int_is, put_has}
use Rattle.desk_base.specs.Names.{Text}
use Rattle.desk_ledger.specs.declared.keeper.Held.{Held}
use Rattle.desk_base.proofs.Orderings.{equal_is}
use Rattle.desk_base.proofs.TextEntries.{entry_at, one_inserted}
use Rattle.desk_ledger.proofs.Entries.{one_removed}
use Rattle.desk_ledger_sql.specs.Told.{AreApart, IsRow, target_in, held_in_row, entry_in, meets}

abbrev pub at_target : List Row → Text → Option Held
at_target rows q = entry_at (map entry_in rows) q

pub one_text : (a b : Text) → is_at (slice_cmp nat_cmp a) b ≡ true → a ≡ b
one_text a b h = slice_cmp-IsAntisymmetric nat_cmp-IsAntisymmetric a b (equal_is _ h)

pub itself : (a : Text) → is_at (slice_cmp nat_cmp a) a ≡ true
itself a = ap is_eq (tied_itself nat_list_cmp_total a)

-- the list has each row of the other
pub has_permuted : {X : Type 0} (xs ys : List X) → IsPermutation xs ys → (y : X) → Has ys y → Has xs y
has_permuted xs ys h y there = all_has (Has xs) ys y (recursion_from_All (Has xs) ys (All-permutation (Has xs) xs ys h (All-from_recursion (Has xs) xs (all_from (Has xs) xs (λ x p. p))))) there

-- no row has the target
pub none_at : (rows : List Row) (q : Text) → ((r : Row) → Has rows r → meets q r ≡ false) → at_target rows q ≡ None
none_at [] q none = refl
none_at (r ∷ rows) q none = rw (none r (inl refl)) (none_at rows q (λ x h. none x (inr h)))

-- what is dropped has other targets
filter_spares : (p : Row → Bool) (rows : List Row) (q : Text) → ((r : Row) → Has rows r → p r ≡ false → meets q r ≡ false) → at_target (filter p rows) q ≡ at_target rows q
filter_spares p [] q spares = refl
filter_spares p (r ∷ rows) q spares =
    let later = filter_spares p rows q (λ x h. spares x (inr h)) in
    elim (cases_Bool (p r)) [
      | inl stays ↦ rw stays (ap (cond (meets q r) (Some (held_in_row r))) later)
      | inr goes ↦ rw (goes, spares r (inl refl) goes) later
    ]

all_spare : (ids : List ℤ) (rows : List Row) (q : Text) → ((id : ℤ) → Has ids id → (r : Row) → Has rows r → has_rowid id r ≡ true → meets q r ≡ false) → at_target (without_all rows ids) q ≡ at_target rows q
all_spare [] rows q spares = refl
all_spare (id ∷ ids) rows q spares =
    all_spare ids (without_rowid id rows) q (λ i h r there. spares i (inr h) r (has_filtered _ rows r there).0)
    ∙ filter_spares _ rows q (λ r there goes. spares id (inl refl) r there (not-false _ goes))

pub left_has : (ids : List ℤ) (rows : List Row) (x : Row) → Has (without_all rows ids) x → Has rows x × ((id : ℤ) → Has ids id → has_rowid id x ≡ false)
left_has [] rows x h = (h, λ id none. absurd none)
left_has (i ∷ ids) rows x h =
    let later = left_has ids (without_rowid i rows) x h in
    let here = has_filtered _ rows x later.0 in
    (here.0, λ id there. elim there [ inl e ↦ subst (λ n. has_rowid n x ≡ false) (sym e) (not-true _ here.1) | inr more ↦ later.1 id more ])

pub table_left : (ids : List ℤ) (rows : List Row) → IsTable rows → IsTable (without_all rows ids)
table_left [] rows up = up
table_left (id ∷ ids) rows up = table_left ids (without_rowid id rows) (ascending-filter _ _ rows up)

pub all_left : (P : Row → Type 0) (ids : List ℤ) (rows : List Row) → AllByRecursion P rows → AllByRecursion P (without_all rows ids)
all_left P [] rows all = all
all_left P (id ∷ ids) rows all = all_left P ids (without_rowid id rows) (all-filter P _ rows all)

put_adds : (new : Row) (rows : List Row) (q : Text) → is_taken rows new ≡ false → ((r : Row) → Has rows r → meets (target_in new) r ≡ false)
    → at_target (put_row new rows) q ≡ cond (meets q new) (Some (held_in_row new)) (at_target rows q)
put_adds new [] q free none = refl
put_adds new (r ∷ rows) q free none = go (value_cmp (rowid r) (rowid new)) refl (put_adds new rows q (or_parts _ _ free).1 (λ x h. none x (inr h)))
  where
    swapped : (a b : Bool) (x y z : Option Held) → (a ≡ true → b ≡ false) → cond b x (cond a y z) ≡ cond a y (cond b x z)
    swapped true b x y z apart = rw (apart refl)
    swapped false b x y z apart = refl

    go : (o : Ordering) → value_cmp (rowid r) (rowid new) ≡ o → at_target (put_row new rows) q ≡ cond (meets q new) (Some (held_in_row new)) (at_target rows q)
        → at_target (match_ordering o (r ∷ put_row new rows) (new ∷ rows) (new ∷ r ∷ rows)) q ≡ cond (meets q new) (Some (held_in_row new)) (at_target (r ∷ rows) q)
    go Less e later = ap (cond (meets q r) (Some (held_in_row r))) later ∙ swapped (meets q new) (meets q r) _ _ _ (λ met. rw (one_text q (target_in new) met) (none r (inl refl)))
    go Equal e later = absurd (let taken = ap is_eq e in let spare = (or_parts (is_eq (value_cmp (rowid r) (rowid new))) (is_taken rows new) free).0 in cc)
    go Greater e later = refl

-- the numbers of the rows that have the target, and no other
pub record Marks (k : Text) (rows found : List Row) : Type 0 where
  pub sound : (x : Row) → Has found x → (r : Row) × Has rows r × (meets k r ≡ true) × (x ≡ rowid r ∷ [])
  pub complete : (r : Row) → Has rows r → meets k r ≡ true → Has found (rowid r ∷ [])

module _ (k : Text) (rows found : List Row) (table : IsTable rows) (are : AllByRecursion IsRow rows) (marks : Marks k rows found) where
  int_at : (r : Row) → Has rows r → rowid r ≡ Int (id_in (rowid r))
  int_at r h = int_is (rowid r) (all_has IsRow rows r are h).0

  -- what goes has the target
  goes_at : (id : ℤ) → Has (ids_of found) id → (r : Row) → Has rows r → has_rowid id r ≡ true → meets k r ≡ true
  goes_at id h r there has =
      let x = has_mapped (λ (row : Row). id_in (rowid row)) found id h in
      let m = marks.sound x.0 x.1 in
      let same : id ≡ id_in (rowid m.0) = x.2 ∙ ap (λ (row : Row). id_in (rowid row)) m.3 in
      let tie = equal_is _ has in
      let one : r ≡ m.0 = tied_same rows r m.0 table there m.1 (subst (λ v. value_cmp (rowid r) v ≡ Equal) (ap Int same ∙ sym (int_at m.0 m.1)) tie) in
      subst (λ (row : Row). meets k row ≡ true) (sym one) m.2

  pub stays_apart : (r : Row) → Has (without_all rows (ids_of found)) r → meets k r ≡ false
  stays_apart r h = false_from_ne_true _ (λ met.
      let was = left_has (ids_of found) rows r h in
      let there = mapped_has (λ (row : Row). id_in (rowid row)) found (rowid r ∷ []) (marks.complete r was.0 met) in
      let gone = was.1 (id_in (rowid r)) there in
      let tie : has_rowid (id_in (rowid r)) r ≡ true = ap is_eq (ap (value_cmp (rowid r)) (sym (int_at r was.0)) ∙ tied_itself value_cmp_total (rowid r)) in
      cc)

  spares_at : (q : Text) → is_at (slice_cmp nat_cmp k) q ≡ false → at_target (without_all rows (ids_of found)) q ≡ at_target rows q
  spares_at q apart = all_spare (ids_of found) rows q (λ id h r there has.
      let same = one_text k (target_in r) (goes_at id h r there has) in
      false_from_ne_true _ (λ met. let other = one_text q (target_in r) met in let is : is_at (slice_cmp nat_cmp k) q ≡ true = rw (other, same) (itself (target_in r)) in cc))

  pub removed : from_entries {R = slice_cmp nat_cmp} (map entry_in (without_all rows (ids_of found))) ≡ remove (from_entries (map entry_in rows)) k
  removed = one_removed (map entry_in rows) (map entry_in (without_all rows (ids_of found))) k (λ q. elim (cases_Bool (is_at (slice_cmp nat_cmp k) q)) [
    | inl at ↦ rw (at, ← one_text k q at) (none_at _ k stays_apart)
    | inr apart ↦ rw apart (spares_at q apart)
  ])

  pub replaced : (new : Row) → target_in new ≡ k → is_taken (without_all rows (ids_of found)) new ≡ false
      → from_entries {R = slice_cmp nat_cmp} (map entry_in (put_row new (without_all rows (ids_of found)))) ≡ insert (from_entries (map entry_in rows)) k (held_in_row new)
  replaced new is free =
      let left = without_all rows (ids_of found) in
      one_inserted (map entry_in rows) (map entry_in (put_row new left)) k (held_in_row new) (λ q. put_adds new left q free (rw is stays_apart) ∙ (elim (cases_Bool (is_at (slice_cmp nat_cmp k) q)) [
        | inl at ↦ rw (is, ← one_text k q at, itself k) refl
        | inr apart ↦ rw (is, (eq_by_cmp_equiv nat_list_cmp_total).symm q k, apart) (spares_at q apart)
      ]))

-- ---- each target once

pub left_apart : (ids : List ℤ) (rows : List Row) → AreApart rows → AreApart (without_all rows ids)
left_apart ids rows apart a b has_a has_b met = apart a b (left_has ids rows a has_a).0 (left_has ids rows b has_b).0 met

-- a row whose target no other has is put
pub put_apart : (new : Row) (rows : List Row) → AreApart rows → ((r : Row) → Has rows r → meets (target_in new) r ≡ false) → AreApart (put_row new rows)
put_apart new rows apart none a b has_a has_b met = elim (put_has new rows a has_a) [
  | inl first ↦ elim (put_has new rows b has_b) [
    | inl second ↦ first ∙ sym second
    | inr there ↦ absurd (let is = rw first at met in let not_is = none b there in cc)
  ]
  | inr here ↦ elim (put_has new rows b has_b) [
    | inl second ↦ absurd (
        let same = one_text (target_in a) (target_in new) (rw second at met) in
        let is : meets (target_in new) a ≡ true = rw same (itself (target_in new)) in
        let not_is = none a here in cc
        )
    | inr there ↦ apart a b here there met
  ]
]
