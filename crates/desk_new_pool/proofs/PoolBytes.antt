-- The bytes that the code writes are those of the new pool.
use Rattle.std.proofs.Common.{◌≡◌, ℕ, suc, ◌+◌, ◌≤◌, List, [], ◌∷◌, ◌++◌, map, length, get_or, take, drop, Option, Some, None, option_map, refl, ap, sym, ◌∙◌, subst, Result, Ok, Err, OnOk, arith}
use denote.Ref.{Bor}
use Rattle.std.specs.Option.{is_some, option_copied}
use Rattle.std.proofs.lemmas.List.{append_assoc, map-append, length-append, length-map, take-map, drop-map, take_at, drop_at, get_or-take}
use Rattle.desk_base.specs.declared.kinds.Used.{Used}
use Rattle.desk_base.specs.declared.referents.Referent.{Referent}
use Rattle.desk_base.specs.Names.{Text}
use Rattle.desk_base.specs.Entries.{Entry, utf8, integer, float, long, double, class, string, fieldref, methodref, interface_methodref, name_and_type, method_handle, method_type, dynamic, invoke_dynamic, module_named, package_named, tag_of, Pool, utf8_at, utf8_in}
use Rattle.desk_base.specs.Referents.{links, handled}
use Rattle.desk_format.specs.Trees.{text_in_role, uses_of}
use Rattle.desk_format.specs.PoolBytes.{two, print_entry, print_slots, print_pool, size, uses_among, pool_uses}
use Rattle.desk_format.specs.Split.{Want, wanted, keep, kept_entry, kept, entry_of, missing_texts, split}
use Rattle.desk_format.specs.NewPool.{Choice, with_texts}
use Rattle.desk_laws.proofs.Slots.{length-kept}
use Rattle.desk_laws.proofs.Moved.{handled_all}
use Rattle.desk_new_pool.specs.Keeps.{TextsAre}
use Rattle.desk_new_pool.specs.Printing.{named_texts, put_entry, renewed, all_named, print_texts, SameTexts}
use Rattle.desk_new_pool.proofs.Chosen.{listed, entry_left}
use Rattle.desk_new_pool.proofs.Wanted.{kept_text_at}

-- the new index of a use
abbrev by : Choice → Used → ℕ
by g u = g u.role u.index

-- ---- one entry

no_text : (k at i : ℕ) → uses_of (text_in_role (handled k) at i) ≡ []
no_text k at i = handled_all (λ (t : Referent). uses_of (text_in_role t at i) ≡ []) refl refl refl refl k

handle_uses : (k at i : ℕ) → uses_among at (links (method_handle k i)) ≡ []
handle_uses k at i = ap (λ (us : List Used). us ++ []) (no_text k (at + 2) i)

new_entry : (g : Choice) (ws : List Want) (k at : ℕ) (e : Entry) (o : Option Text) (tail : List ℕ) → o ≡ utf8_in (Some (kept_entry ws k e)) → put_entry o (map (by g) (uses_among at (links e)) ++ tail) e ≡ with_texts g (kept_entry ws k e)
new_entry g ws k at (utf8 own) o tail h = rw h refl
new_entry g ws k at (integer b) o tail h = refl
new_entry g ws k at (float b) o tail h = refl
new_entry g ws k at (long b) o tail h = refl
new_entry g ws k at (double b) o tail h = refl
new_entry g ws k at (class i) o tail h = refl
new_entry g ws k at (string i) o tail h = refl
new_entry g ws k at (fieldref c n) o tail h = refl
new_entry g ws k at (methodref c n) o tail h = refl
new_entry g ws k at (interface_methodref c n) o tail h = refl
new_entry g ws k at (name_and_type n d) o tail h = refl
new_entry g ws k at (method_handle kind i) o tail h = refl
new_entry g ws k at (method_type i) o tail h = refl
new_entry g ws k at (dynamic n i) o tail h = refl
new_entry g ws k at (invoke_dynamic n i) o tail h = refl
new_entry g ws k at (module_named i) o tail h = refl
new_entry g ws k at (package_named i) o tail h = refl

past_entry : (g : Choice) (at : ℕ) (e : Entry) (tail : List ℕ) → drop (named_texts (tag_of e)) (map (by g) (uses_among at (links e)) ++ tail) ≡ tail
past_entry g at (utf8 own) tail = refl
past_entry g at (integer b) tail = refl
past_entry g at (float b) tail = refl
past_entry g at (long b) tail = refl
past_entry g at (double b) tail = refl
past_entry g at (class i) tail = refl
past_entry g at (string i) tail = refl
past_entry g at (fieldref c n) tail = refl
past_entry g at (methodref c n) tail = refl
past_entry g at (interface_methodref c n) tail = refl
past_entry g at (name_and_type n d) tail = refl
past_entry g at (method_handle kind i) tail = ap (λ (us : List Used). map (by g) us ++ tail) (handle_uses kind at i)
past_entry g at (method_type i) tail = refl
past_entry g at (dynamic n i) tail = refl
past_entry g at (invoke_dynamic n i) tail = refl
past_entry g at (module_named i) tail = refl
past_entry g at (package_named i) tail = refl

named_is : (at : ℕ) (e : Entry) → named_texts (tag_of e) ≡ length (uses_among at (links e))
named_is at (utf8 own) = refl
named_is at (integer b) = refl
named_is at (float b) = refl
named_is at (long b) = refl
named_is at (double b) = refl
named_is at (class i) = refl
named_is at (string i) = refl
named_is at (fieldref c n) = refl
named_is at (methodref c n) = refl
named_is at (interface_methodref c n) = refl
named_is at (name_and_type n d) = refl
named_is at (method_handle kind i) = sym (ap length (handle_uses kind at i))
named_is at (method_type i) = refl
named_is at (dynamic n i) = refl
named_is at (invoke_dynamic n i) = refl
named_is at (module_named i) = refl
named_is at (package_named i) = refl

pub all_named-is : (at : ℕ) (pool : Pool) → all_named pool ≡ length (pool_uses at pool)
all_named-is at [] = refl
all_named-is at (None ∷ slots) = all_named-is at slots
all_named-is at (Some e ∷ slots) =
    ap (λ (n : ℕ). n + all_named slots) (named_is at e) ∙ ap (λ (n : ℕ). length (uses_among at (links e)) + n) (all_named-is (at + size e) slots)
    ∙ sym (length-append (uses_among at (links e)) (pool_uses (at + size e) slots))

-- ---- the entries of the old indices

renewed_is : (g : Choice) (ws : List Want) (k at : ℕ) (ts : List (Option (Bor Text))) (pool : Pool) (ns tail : List ℕ) → map option_copied ts ≡ map utf8_in (kept ws k pool) → ns ≡ map (by g) (pool_uses at pool) ++ tail
    → renewed ts ns pool ≡ map (option_map (with_texts g)) (kept ws k pool)
renewed_is g ws k at [] [] ns tail h e = refl
renewed_is g ws k at [] (slot ∷ slots) ns tail h e = absurd cc
renewed_is g ws k at (t ∷ ts) [] ns tail h e = refl
renewed_is g ws k at (t ∷ ts) (None ∷ slots) ns tail h e =
    let rest : map option_copied ts ≡ map utf8_in (kept ws (suc k) slots) = cc in
    ap (λ (l : Pool). None ∷ l) (renewed_is g ws (suc k) at ts slots ns tail rest e)
renewed_is g ws k at (t ∷ ts) (Some x ∷ slots) ns tail h e =
    let here : option_copied t ≡ utf8_in (Some (kept_entry ws k x)) = cc in
    let rest : map option_copied ts ≡ map utf8_in (kept ws (suc k) slots) = cc in
    let cut : ns ≡ map (by g) (uses_among at (links x)) ++ (map (by g) (pool_uses (at + size x) slots) ++ tail) =
    e ∙ ap (λ (l : List ℕ). l ++ tail) (map-append (by g) (uses_among at (links x)) (pool_uses (at + size x) slots)) ∙ append_assoc (map (by g) (uses_among at (links x))) (map (by g) (pool_uses (at + size x) slots)) tail in
    let later : drop (named_texts (tag_of x)) ns ≡ map (by g) (pool_uses (at + size x) slots) ++ tail =
    ap (drop (named_texts (tag_of x))) cut ∙ past_entry g at x (map (by g) (pool_uses (at + size x) slots) ++ tail) in
    ap (λ (y : Entry). Some y ∷ renewed ts (drop (named_texts (tag_of x)) ns) slots)
    (ap (λ (l : List ℕ). put_entry (option_copied t) l x) cut ∙ new_entry g ws k at x (option_copied t) (map (by g) (pool_uses (at + size x) slots) ++ tail) here)
    ∙ ap (λ (l : Pool). Some (with_texts g (kept_entry ws k x)) ∷ l) (renewed_is g ws (suc k) (at + size x) ts slots (drop (named_texts (tag_of x)) ns) tail rest later)

-- ---- the missing texts

print_slots-append : (a b : Pool) → print_slots (a ++ b) ≡ print_slots a ++ print_slots b
print_slots-append [] b = refl
print_slots-append (None ∷ slots) b = print_slots-append slots b
print_slots-append (Some e ∷ slots) b = ap (λ (l : List ℕ). print_entry e ++ l) (print_slots-append slots b) ∙ sym (append_assoc (print_entry e) (print_slots slots) (print_slots b))

missing_printed : (g : Choice) (ts : List (Option (Bor Text))) (ms : List Text) → map option_copied ts ≡ map utf8_in (map entry_of ms) → print_texts ts ≡ print_slots (map (option_map (with_texts g)) (map entry_of ms))
missing_printed g [] [] h = refl
missing_printed g [] (m ∷ ms) h = absurd cc
missing_printed g (t ∷ ts) [] h = absurd cc
missing_printed g (None ∷ ts) (m ∷ ms) h = absurd cc
missing_printed g (Some t ∷ ts) (m ∷ ms) h =
    let here : t.now ≡ m = cc in
    let rest : map option_copied ts ≡ map utf8_in (map entry_of ms) = cc in
    ap (λ (u : Text). print_entry (utf8 u) ++ print_texts ts) here ∙ ap (λ (l : List ℕ). print_entry (utf8 m) ++ l) (missing_printed g ts ms rest)

-- ---- the pool

renewed_zero : (g : Choice) (ws : List Want) (pool : Pool) (texts : List (Option (Bor Text))) (ns rest : List ℕ) → map option_copied texts ≡ None ∷ map utf8_in (kept ws 1 pool) → ns ≡ map (by g) (pool_uses 10 pool) ++ rest
    → print_slots (renewed texts ns (None ∷ pool)) ≡ print_slots (map (option_map (with_texts g)) (kept ws 1 pool))
renewed_zero g ws pool [] ns rest h e = absurd cc
renewed_zero g ws pool (t ∷ ts) ns rest h e = let tail : map option_copied ts ≡ map utf8_in (kept ws 1 pool) = cc in ap print_slots (renewed_is g ws 1 10 ts pool ns rest tail e)

pub pool_printed : (g : Choice) (ws : List Want) (pool : Pool) (texts : List (Option (Bor Text))) (ns rest : List ℕ) → TextsAre (split ws pool) texts → ns ≡ map (by g) (pool_uses 10 pool) ++ rest
    → two (length texts) ++ (print_slots (renewed (take (suc (length pool)) texts) ns (None ∷ pool)) ++ print_texts (drop (suc (length pool)) texts)) ≡ print_pool (map (option_map (with_texts g)) (split ws pool))
pool_printed g ws pool texts ns rest are e =
    let old : Pool = kept ws 1 pool in
    let more : Pool = map entry_of (missing_texts ws pool) in
    let whole : map option_copied texts ≡ (None ∷ map utf8_in old) ++ map utf8_in more = listed (split ws pool) texts are ∙ ap (λ (l : List (Option Text)). None ∷ l) (map-append utf8_in old more) in
    let front : length (None ∷ map utf8_in old) ≡ suc (length pool) = ap (λ (n : ℕ). suc n) (length-map old utf8_in ∙ length-kept ws 1 pool) in
    let kept_texts : map option_copied (take (suc (length pool)) texts) ≡ None ∷ map utf8_in old =
    sym (take-map option_copied (suc (length pool)) texts) ∙ ap (take (suc (length pool))) whole ∙ take_at (None ∷ map utf8_in old) (map utf8_in more) (suc (length pool)) front in
    let missing : map option_copied (drop (suc (length pool)) texts) ≡ map utf8_in more =
    sym (drop-map option_copied (suc (length pool)) texts) ∙ ap (drop (suc (length pool))) whole ∙ drop_at (None ∷ map utf8_in old) (map utf8_in more) (suc (length pool)) front in
    let count : length texts ≡ suc (length (map (option_map (with_texts g)) (split ws pool))) = are.count ∙ ap (λ (n : ℕ). suc n) (sym (length-map (split ws pool) (option_map (with_texts g)))) in
    ap (λ (n : ℕ). two n ++ (print_slots (renewed (take (suc (length pool)) texts) ns (None ∷ pool)) ++ print_texts (drop (suc (length pool)) texts))) count
    ∙ ap (λ (l : List ℕ). two (suc (length (map (option_map (with_texts g)) (split ws pool)))) ++ (l ++ print_texts (drop (suc (length pool)) texts))) (renewed_zero g ws pool (take (suc (length pool)) texts) ns rest kept_texts e)
    ∙ ap (λ (l : List ℕ). two (suc (length (map (option_map (with_texts g)) (split ws pool)))) ++ (print_slots (map (option_map (with_texts g)) old) ++ l)) (missing_printed g (drop (suc (length pool)) texts) (missing_texts ws pool) missing)
    ∙ ap (λ (l : List ℕ). two (suc (length (map (option_map (with_texts g)) (split ws pool)))) ++ l) (sym (print_slots-append (map (option_map (with_texts g)) old) (map (option_map (with_texts g)) more)))
    ∙ ap (λ (l : Pool). two (suc (length (map (option_map (with_texts g)) (split ws pool)))) ++ print_slots l) (sym (map-append (option_map (with_texts g)) old more))

-- ---- what the code asks of the texts

pub split_long : (ws : List Want) (pool : Pool) → length pool ≤ length (split ws pool)
split_long ws pool =
    let a : length (split ws pool) ≡ length (kept ws 1 pool) + length (map entry_of (missing_texts ws pool)) = length-append (kept ws 1 pool) (map entry_of (missing_texts ws pool)) in
    let b : length (kept ws 1 pool) ≡ length pool = length-kept ws 1 pool in
    omega arith

some_kept : (o : Option Text) (f : Text → Text) → is_some (option_map f o) ≡ is_some o
some_kept None f = refl
some_kept (Some t) f = refl

some_copied : (o : Option (Bor Text)) → is_some o ≡ is_some (option_copied o)
some_copied None = refl
some_copied (Some t) = refl

pub same_texts : (ws : List Want) (pool : Pool) (texts front : List (Option (Bor Text))) (n : ℕ) → n ≡ suc (length pool) → TextsAre (split ws pool) texts → front ≡ take n texts → SameTexts pool front
same_texts ws pool texts front n count are is i le =
    let within : i ≤ length (kept ws 1 pool) = subst (λ (m : ℕ). i ≤ m) (sym (length-kept ws 1 pool)) le in
    ap (λ (l : List (Option (Bor Text))). is_some (get_or l i None)) is ∙ ap is_some (get_or-take n texts i None (omega arith)) ∙ some_copied (get_or texts i None)
    ∙ ap is_some (are.each i ∙ ap utf8_in (entry_left (kept ws 1 pool) (map entry_of (missing_texts ws pool)) i within) ∙ kept_text_at ws pool i)
    ∙ some_kept (utf8_at pool i) (λ own. keep own (wanted i ws))

pub then_ok : {A E : Type 0} (r : Result A E) (x y z : List ℕ) → OnOk r (x ≡ y) → y ≡ z → OnOk r (x ≡ z)
then_ok (Ok a) x y z h e = h ∙ e
then_ok (Err f) x y z h e = tt
