-- Entries by their texts, as a map.
use Rattle.std.proofs.Common.{◌≡◌, List, [], ◌∷◌, Option, Some, refl, sym, ap, ◌∙◌, cond}
use Rattle.std.specs.Ordering.{nat_cmp, eq_by_cmp}
use Rattle.std.specs.Cmp.{eq_by_cmp_equiv}
use Rattle.std.specs.Cmp.Lexicographic.{slice_cmp}
use Rattle.std.proofs.lemmas.Cmp.{nat_list_cmp_total}
use Rattle.std.specs.BTreeMap.{is_at}
use Rattle.std.specs.Map.{lookup}
use Rattle.std.specs.FinMap.{get, insert, from_entries, find, get-from_entries, get-insert}
use Rattle.desk_base.specs.Names.{Text}
use Rattle.desk_base.specs.TextMaps.{same_texts}

-- what entries have at a text
abbrev pub entry_at : {X : Type 0} → List (Text × X) → Text → Option X
entry_at es q = lookup (is_at (slice_cmp nat_cmp q)) es

find_text : {X : Type 0} (es : List (Text × X)) (q : Text) → find (slice_cmp nat_cmp) q es ≡ entry_at es q
find_text [] q = refl
find_text (e ∷ es) q = ap (cond (is_at (slice_cmp nat_cmp q) e.0) (Some e.1)) (find_text es q)

pub get_text : {X : Type 0} (es : List (Text × X)) (q : Text) → get (from_entries {R = slice_cmp nat_cmp} es) q ≡ entry_at es q
get_text es q = get-from_entries nat_list_cmp_total es q ∙ find_text es q

-- entries that differ at one text make maps that differ there
pub one_inserted : {X : Type 0} (es fs : List (Text × X)) (k : Text) (x : X) → ((q : Text) → entry_at fs q ≡ cond (is_at (slice_cmp nat_cmp k) q) (Some x) (entry_at es q))
    → from_entries {R = slice_cmp nat_cmp} fs ≡ insert (from_entries es) k x
one_inserted es fs k x h = same_texts _ _ (λ q.
    get_text fs q ∙ h q ∙ ap (λ b. cond b (Some x) (entry_at es q)) ((eq_by_cmp_equiv nat_list_cmp_total).symm k q)
    ∙ sym (get-insert nat_list_cmp_total (from_entries es) k x q ∙ ap (cond (eq_by_cmp (slice_cmp nat_cmp) q k) (Some x)) (get_text es q)))
