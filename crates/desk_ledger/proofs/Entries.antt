-- Rows by their targets as entries of a map, and what one change of a target leaves.
use Rattle.std.proofs.Common.{◌≡◌, List, None, sym, ap, ◌∙◌, cond}
use Rattle.std.specs.Ordering.{nat_cmp, eq_by_cmp}
use Rattle.std.specs.Cmp.{eq_by_cmp_equiv}
use Rattle.std.specs.Cmp.Lexicographic.{slice_cmp}
use Rattle.std.proofs.lemmas.Cmp.{nat_list_cmp_total}
use Rattle.std.specs.BTreeMap.{is_at}
use Rattle.std.specs.FinMap.{remove, from_entries, get-remove}
use Rattle.desk_base.specs.Names.{Text}
use Rattle.desk_ledger.specs.declared.keeper.Held.{Held}
use Rattle.desk_base.specs.TextMaps.{same_texts}
use Rattle.desk_base.proofs.TextEntries.{entry_at, get_text}

-- entries without one target's row are the rows without it
pub one_removed : (es fs : List (Text × Held)) (k : Text) → ((q : Text) → entry_at fs q ≡ cond (is_at (slice_cmp nat_cmp k) q) None (entry_at es q))
    → from_entries {R = slice_cmp nat_cmp} fs ≡ remove (from_entries es) k
one_removed es fs k h = same_texts _ _ (λ q.
    get_text fs q ∙ h q ∙ ap (λ b. cond b None (entry_at es q)) ((eq_by_cmp_equiv nat_list_cmp_total).symm k q)
    ∙ sym (get-remove nat_list_cmp_total (from_entries es) k q ∙ ap (cond (eq_by_cmp (slice_cmp nat_cmp) q k) None) (get_text es q)))
