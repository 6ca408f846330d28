-- Names that were put into a set lately.
use Rattle.std.proofs.Common.{◌≡◌, inl, inr, ℕ, zero, suc, ◌<◌, true, List, [], ◌∷◌, ◌++◌, length, get_or, Option, Some, slice_get, refl, sym, ap, subst, ◌∙◌, arith}
use Rattle.std.specs.BTreeSet.{BTreeSet}
use Rattle.std.specs.List.{Contains}
use denote.Ref.{Bor}
use Rattle.desk_base.specs.Names.{Text}
use Rattle.desk_packages.proofs.Picks.{In}
use Rattle.desk_class.specs.Held.{put_all, ascending}
use Rattle.desk_class.proofs.Ascending.{from_contains, to_contains, in_front, in_either, ascending_sorted, in_ascending, from_ascending, is_ascending, put_append}
use Rattle.desk_graph.specs.Recent.{AreRecent}
use Rattle.desk_graph.specs.Tables.{texts, holds}
use Rattle.desk_graph.proofs.Orders.{from_tested}
use Rattle.desk_graph.proofs.Sets.{holds_is}

abbrev pub Borrowed : Type 0
Borrowed = Bor (List ℕ)

-- ---- what is kept at a place

pub got : (xs : List (Option Borrowed)) (i : ℕ) (d : Option Borrowed) → i < length xs → slice_get xs i ≡ Some (get_or xs i d)
got [] i d h = absurd (omega arith)
got (x ∷ xs) zero d h = refl
got (x ∷ xs) (suc i) d h = got xs i d (omega arith)

-- ---- a name that is kept

put_there : (ks : List Text) (t : Text) → In ks t → ascending ks ≡ put_all (ascending ks) (t ∷ [])
put_there ks t h =
    is_ascending (ascending ks) (ks ++ t ∷ []) (ascending_sorted ks)
    (λ q. (
      λ c. to_contains (ks ++ t ∷ []) q (in_front ks (t ∷ []) q (from_ascending ks q (from_contains (ascending ks) q c))),
      λ c. to_contains (ascending ks) q (in_ascending ks q (elim (in_either ks (t ∷ []) q (from_contains (ks ++ t ∷ []) q c)) [
        | inl there ↦ there
        | inr last ↦ elim last [ inl e ↦ subst (In ks) e h | inr none ↦ absurd none ]
      ])),
    ))
    ∙ put_append [] ks (t ∷ [])

-- it is a name of the set
pub recent_there : (set : BTreeSet Text) (recent : List (Option Borrowed)) (place : ℕ) (kept : Borrowed) (t : Text) → AreRecent recent (holds set) → slice_get recent place ≡ Some (Some kept) → kept.now ≡ t → Contains (texts set) t
recent_there set recent place kept t all there same =
    let held : holds set t ≡ true = ap (holds set) (sym same) ∙ all place kept there in
    to_contains (texts set) t (from_tested (texts set) t (sym (holds_is set t) ∙ held))

-- putting it again changes nothing
pub put_again : (set : BTreeSet Text) (t : Text) → Contains (texts set) t → texts set ≡ put_all (texts set) (t ∷ [])
put_again set t there = put_there set.keys t (from_ascending set.keys t (from_contains (texts set) t there))
