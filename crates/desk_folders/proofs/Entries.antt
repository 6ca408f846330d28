-- A map of entries by their texts, and what one change of a key leaves.
use Rattle.std.proofs.Common.{rules, ◌≡◌, List, ℕ, [], ◌∷◌, Some, None, Option, refl, sym, ap, ◌∙◌, cond, subst, ◌++◌, true, false}
use Rattle.std.specs.Ordering.{nat_cmp, eq_by_cmp}
use Rattle.std.specs.Cmp.{eq_by_cmp_equiv}
use Rattle.std.specs.Cmp.Lexicographic.{slice_cmp}
use Rattle.std.proofs.lemmas.Cmp.{nat_list_cmp_total}
use Rattle.std.specs.Str.{bytes_eq}
use Rattle.std.proofs.lemmas.Map.Text.{is_eq-slice_cmp}
use Rattle.std.specs.BTreeMap.{is_at}
use Rattle.std.specs.FinMap.{get, insert, from_entries, gets, get_tied, get-insert, get-remove}
use Rattle.desk_base.specs.Names.{Text}
use Rattle.desk_folders.specs.Contents.{Contents, ChangesOnly, setting}
use Rattle.desk_base.specs.TextMaps.{same_texts}
use Rattle.desk_base.proofs.TextEntries.{entry_at, get_text}
use Rattle.desk_folders.specs.ContentsLaws.{ChangesOnly-refl}
use Rattle.desk_folders.specs.InMemory.{InMemory, leaving, called, filled}
use Rattle.desk_folders.specs.declared.folders.GenFile.{GenFile}

get-setting : (k : Text) (left : Option Text) (m : Contents) (q : Text) → get (setting k left m) q ≡ cond (eq_by_cmp (slice_cmp nat_cmp) q k) left (get m q)
get-setting k None m q = get-remove nat_list_cmp_total m k q
get-setting k (Some v) m q = get-insert nat_list_cmp_total m k v q

-- entries that differ at one text make contents that differ there
pub one_left : (es fs : List (Text × Text)) (k : Text) (left : Option Text) → ((q : Text) → entry_at fs q ≡ cond (is_at (slice_cmp nat_cmp k) q) left (entry_at es q))
    → from_entries {R = slice_cmp nat_cmp} fs ≡ setting k left (from_entries es)
one_left es fs k left h = same_texts _ _ (λ q.
    get_text fs q ∙ h q ∙ ap (λ b. cond b left (entry_at es q)) ((eq_by_cmp_equiv nat_list_cmp_total).symm k q)
    ∙ sym (get-setting k left (from_entries es) q ∙ ap (cond (eq_by_cmp (slice_cmp nat_cmp) q k) left) (get_text es q)))

-- what stands at a path already changes nothing
pub setting-same : (m : Contents) (p x : Text) → get m p ≡ Some x → setting p (Some x) m ≡ m
setting-same m p x e = same_texts _ _ (λ q. grind (gets, rules, e, get_tied nat_list_cmp_total m q p))

-- what folders hold where one text of their entries changed
pub leaves : (es fs : List (Text × Text)) (faults calls : ℕ) (failing : List ℕ) (stop : Option ℕ) (k : Text) (left : Option Text) (m : InMemory) → from_entries {R = slice_cmp nat_cmp} fs ≡ setting k left (from_entries es)
    → record { contents = from_entries es; faults = faults; calls = calls; failing = failing; stop = stop } ≡ m
    → record { contents = from_entries fs; faults = faults; calls = calls; failing = failing; stop = stop } ≡ leaving k left m
leaves es fs faults calls failing stop k left m e is =
    ap (λ (contents : Contents). record { contents = contents; faults = faults; calls = calls; failing = failing; stop = stop }) e ∙ ap (leaving k left) is

-- a call that leaves the contents changes one path at most
pub ChangesOnly-called : (p : Text) (m k n : InMemory) → n ≡ k → k ≡ called m → ChangesOnly p (Some m.contents) (Some n.contents)
ChangesOnly-called p m k n e is = subst (λ (x : InMemory). ChangesOnly p (Some m.contents) (Some x.contents)) (sym (e ∙ is)) (ChangesOnly-refl p (Some m.contents))

-- a call that leaves something at a path changes that path alone
pub ChangesOnly-leaving : (p : Text) (left : Option Text) (m k n : InMemory) → n ≡ leaving p left k → k ≡ called m → ChangesOnly p (Some m.contents) (Some n.contents)
ChangesOnly-leaving p left m k n e is = record { left = left; is = ap Some (ap (λ (x : InMemory). x.contents) (e ∙ ap (leaving p left) is)) }

filled-append : (files : List GenFile) (file : GenFile) (m : Contents) → filled (files ++ file ∷ []) m ≡ insert (filled files m) file.path file.content
filled-append [] file m = refl
filled-append (f ∷ files) file m = filled-append files file (insert m f.path f.content)

-- with one file more
pub filled_more : (es fs : List (Text × Text)) (files : List GenFile) (file : GenFile) (m : Contents) → from_entries {R = slice_cmp nat_cmp} es ≡ filled files m
    → ((q : Text) → entry_at fs q ≡ cond (is_at (slice_cmp nat_cmp file.path) q) (Some file.content) (entry_at es q)) → from_entries {R = slice_cmp nat_cmp} fs ≡ filled (files ++ file ∷ []) m
filled_more es fs files file m made h =
    one_left es fs file.path (Some file.content) h ∙ ap (λ (c : Contents). insert c file.path file.content) made ∙ sym (filled-append files file m)

tested : (key path : Text) → is_at (slice_cmp nat_cmp path) key ≡ bytes_eq key path
tested key path = (eq_by_cmp_equiv nat_list_cmp_total).symm path key ∙ is_eq-slice_cmp key path

-- the first entry left is the one that was asked for
pub entry_hit : (left rest : List (Text × Text)) (key content path : Text) → left ≡ (key, content) ∷ rest → bytes_eq key path ≡ true → Some content ≡ entry_at left path
entry_hit left rest key content path e is =
    sym (ap (λ es. entry_at es path) e ∙ ap (λ b. cond b (Some content) (entry_at rest path)) (tested key path ∙ is))

-- it is not
pub entry_missed : (left rest : List (Text × Text)) (key content path : Text) → left ≡ (key, content) ∷ rest → bytes_eq key path ≡ false → entry_at rest path ≡ entry_at left path
entry_missed left rest key content path e is =
    sym (ap (λ es. entry_at es path) e ∙ ap (λ b. cond b (Some content) (entry_at rest path)) (tested key path ∙ is))
