-- The texts of a new pool as the code makes them.
use Rattle.std.proofs.Common.{◌≡◌, ℕ, suc, ◌+◌, ◌<◌, ◌≤◌, Bool, true, false, cond, List, [], ◌∷◌, ◌++◌, map, length, get_or, drop, Option, Some, None, refl, ap, ap₂, sym, ◌∙◌, bytes_eq, All, ltb, arith}
use denote.Ref.{Bor}
use Rattle.std.specs.Option.{is_some, option_copied}
use Rattle.std.specs.Ordering.{nat_cmp, is_lt}
use Rattle.std.specs.Cmp.Lexicographic.{slice_cmp}
use Rattle.std.specs.BTreeMap.{BTreeMap}
use Rattle.std.proofs.lemmas.List.{append-nil, drop_at, get_or_append_left}
use Rattle.std.proofs.lemmas.List.Elements.{All-head, All-tail}
use Rattle.desk_base.specs.Names.{Text}
use Rattle.desk_base.specs.Misfits.{or_else}
use Rattle.std.proofs.lemmas.Bool.{le-ltb, lt-ltb}
use Rattle.desk_format.specs.Split.{add, holds}
use Rattle.desk_format.specs.NewClass.{Refusal, full_at}
use Rattle.desk_new_pool.specs.Places.{is_slice, least, place_in, unless_kept, not_kept, with_missing, missing_among, index_by}
use Rattle.desk_new_pool.specs.Sought.{sought_among}
use Rattle.desk_new_pool.specs.NewTexts.{Adds, new_index, Splits}
use Rattle.desk_new_pool.specs.declared.wants.WantedText.{WantedText}
use Rattle.desk_new_pool.specs.declared.new_texts.NewTexts.{NewTexts}
use Rattle.desk_new_pool.proofs.Images.{sought_there}

pub map_same : {A B : Type 0} (f g : A → B) (xs : List A) → All (λ x. f x ≡ g x) xs → map f xs ≡ map g xs
map_same f g [] h = refl
map_same f g (x ∷ xs) h =
    let here : f x ≡ g x = All-head (λ y. f y ≡ g y) x xs h in
    ap (λ y. y ∷ map f xs) here ∙ ap (λ ys. g x ∷ ys) (map_same f g xs (All-tail (λ y. f y ≡ g y) x xs h))

-- ---- where each entry keeps the images

none_missing : (texts : List (Option (Bor Text))) (ws : List WantedText) → All (λ (w : WantedText). not_kept texts w ≡ None) ws → missing_among texts ws ≡ []
none_missing texts [] h = refl
none_missing texts (w ∷ ws) h =
    let here : not_kept texts w ≡ None = All-head (λ (v : WantedText). not_kept texts v ≡ None) w ws h in
    ap (λ (o : Option Text). with_missing texts o (missing_among texts ws)) here ∙ none_missing texts ws (All-tail (λ (v : WantedText). not_kept texts v ≡ None) w ws h)

pub all_kept : (texts : List (Option (Bor Text))) (ws : List WantedText) (new : NewTexts) → All (λ (w : WantedText). not_kept texts w ≡ None) ws → new.texts.items ≡ texts → new.indices.items ≡ map (λ (w : WantedText). w.used.index) ws → Splits texts ws new
all_kept texts ws new h is e = record {
  adds = record { added = []; whole = is ∙ sym (append-nil texts); same = sym (none_missing texts ws h) };
  indices = e ∙ map_same (λ (w : WantedText). w.used.index) (new_index texts new.texts.items) ws (λ k d lt. sym (ap (index_by (least 0 new.texts.items) (get_or ws k d).used.index) (h k d lt)));
}

pub none_full : (texts : List (Option (Bor Text))) (ws : List WantedText) → length texts ≤ 65535 → All (λ (w : WantedText). not_kept texts w ≡ None) ws → full_at (length texts) (length (missing_among texts ws)) ≡ None
none_full texts ws le h =
    let fits : ltb 65535 (length texts + 0) ≡ false = le-ltb 65535 (length texts + 0) (omega arith) in
    ap (λ (ms : List Text). full_at (length texts) (length ms)) (none_missing texts ws h) ∙ ap (λ (b : Bool). cond b (Some (Refusal.pool_full (length texts) 0)) None) fits

-- ---- where some are missing

few_by : (same less : Bool) (t s : Text) (ss : List Text) → length (add t ss) ≤ suc (length ss) → length (cond same (s ∷ ss) (cond less (t ∷ (s ∷ ss)) (s ∷ add t ss))) ≤ suc (suc (length ss))
few_by true less t s ss h = omega arith
few_by false true t s ss h = omega arith
few_by false false t s ss h = omega arith

add_few : (t : Text) (ss : List Text) → length (add t ss) ≤ suc (length ss)
add_few t [] = omega arith
add_few t (s ∷ ss) = few_by (bytes_eq s t) (is_lt (slice_cmp nat_cmp t s)) t s ss (add_few t ss)

few_with : (texts : List (Option (Bor Text))) (t : Text) (ms : List Text) (b : Bool) → length (cond b ms (add t ms)) ≤ suc (length ms)
few_with texts t ms true = omega arith
few_with texts t ms false = add_few t ms

few_missing : (texts : List (Option (Bor Text))) (o : Option Text) (ms : List Text) → length (with_missing texts o ms) ≤ suc (length ms)
few_missing texts None ms = omega arith
few_missing texts (Some t) ms = few_with texts t ms (is_some (least 0 texts t))

pub missing_few : (texts : List (Option (Bor Text))) (ws : List WantedText) → length (missing_among texts ws) ≤ length ws
missing_few texts [] = omega arith
missing_few texts (w ∷ ws) =
    let a : length (with_missing texts (not_kept texts w) (missing_among texts ws)) ≤ suc (length (missing_among texts ws)) = few_missing texts (not_kept texts w) (missing_among texts ws) in
    let b : length (missing_among texts ws) ≤ length ws = missing_few texts ws in
    omega arith

-- with these counts, the pool is full, or there is room
pub is_full : (texts : List (Option (Bor Text))) (ws : List WantedText) (count needed : ℕ) → count ≡ length texts → needed ≡ length (missing_among texts ws) → 65535 < count + needed → full_at (length texts) (length (missing_among texts ws)) ≡ Some (Refusal.pool_full count needed)
is_full texts ws count needed c n lt = ap₂ full_at (sym c) (sym n) ∙ ap (λ (b : Bool). cond b (Some (Refusal.pool_full count needed)) None) (lt-ltb 65535 (count + needed) lt)

pub has_room : (texts : List (Option (Bor Text))) (ws : List WantedText) (count needed : ℕ) → count ≡ length texts → needed ≡ length (missing_among texts ws) → count + needed ≤ 65535 → full_at (length texts) (length (missing_among texts ws)) ≡ None
has_room texts ws count needed c n le = ap₂ full_at (sym c) (sym n) ∙ ap (λ (b : Bool). cond b (Some (Refusal.pool_full count needed)) None) (le-ltb 65535 (count + needed) le)

least_append_by : (b : Bool) (i : ℕ) (x y z : Option ℕ) → z ≡ or_else x y → cond b (Some i) z ≡ or_else (cond b (Some i) x) y
least_append_by true i x y z h = refl
least_append_by false i x y z h = h

least-append : (i : ℕ) (a b : List (Option (Bor Text))) (t : Text) → least i (a ++ b) t ≡ or_else (least i a t) (least (i + length a) b t)
least-append i [] b t = ap (λ (n : ℕ). least n b t) (omega arith)
least-append i (x ∷ a) b t =
    let next : suc i + length a ≡ i + suc (length a) = omega arith in
    least_append_by (is_slice t x) i (least (suc i) a t) (least (i + suc (length a)) b t) (least (suc i) (a ++ b) t)
    (least-append (suc i) a b t ∙ ap (λ (n : ℕ). or_else (least (suc i) a t) (least n b t)) next)

index_same : (f g : Text → Option ℕ) (i : ℕ) (o : Option Text) → ((t : Text) → o ≡ Some t → f t ≡ g t) → index_by f i o ≡ index_by g i o
index_same f g i None h = refl
index_same f g i (Some t) h = ap (λ (p : Option ℕ). index_by (λ u. p) i (Some t)) (h t refl)

not_kept-append : (a b : List (Option (Bor Text))) (w : WantedText) → w.used.index < length a → not_kept (a ++ b) w ≡ not_kept a w
not_kept-append a b w lt = ap (λ (x : Option (Bor Text)). unless_kept (option_copied x) (option_copied w.image)) (get_or_append_left a b None w.used.index lt)

-- what a map has of the images that are sought
abbrev Finds : List Text → (Text → Option ℕ) → (Text → Option ℕ) → Type 0
Finds sought found least_of = (t : Text) → found t ≡ cond (holds sought t) (least_of t) None

found_in : (old all more : List (Option (Bor Text))) (sought : List Text) (kept added : Text → Option ℕ) → all ≡ old ++ more → Finds sought kept (least 0 old) → Finds sought added (least (length old) (drop (length old) all)) → (t : Text) → holds sought t ≡ true → or_else (kept t) (added t) ≡ least 0 all t
found_in old all more sought kept added whole k a t there =
    let rest : drop (length old) all ≡ more = ap (drop (length old)) whole ∙ drop_at old more (length old) refl in
    ap (λ (x : Option ℕ). or_else x (added t)) (k t ∙ ap (λ (b : Bool). cond b (least 0 old t) None) there)
    ∙ ap (λ (x : Option ℕ). or_else (least 0 old t) x) (a t ∙ ap (λ (b : Bool). cond b (least (length old) (drop (length old) all) t) None) there ∙ ap (λ (l : List (Option (Bor Text))). least (length old) l t) rest)
    ∙ ap (λ (n : ℕ). or_else (least 0 old t) (least n more t)) (from_zero (length old))
    ∙ sym (least-append 0 old more t) ∙ ap (λ (l : List (Option (Bor Text))). least 0 l t) (sym whole) where
      from_zero : (n : ℕ) → n ≡ 0 + n
      from_zero n = omega arith

pub some_missing : (old all : List (Option (Bor Text))) (ws : List WantedText) (new : NewTexts) (kept added : BTreeMap (Bor Text) ℕ) (sought ms : List Text) → All (λ (w : WantedText). w.used.index < length old) ws
    → sought ≡ sought_among old ws → ms ≡ missing_among old ws → Adds old ms all → Finds sought (place_in kept) (least 0 old) → Finds sought (place_in added) (least (length old) (drop (length old) all))
    → new.texts.items ≡ all → new.indices.items ≡ map (λ (w : WantedText). index_by (λ t. or_else (place_in kept t) (place_in added t)) w.used.index (not_kept all w)) ws → Splits old ws new
some_missing old all ws new kept added sought ms small images is adds k a texts e =
    let each : All (λ (w : WantedText). index_by (λ t. or_else (place_in kept t) (place_in added t)) w.used.index (not_kept all w) ≡ new_index old all w) ws =
    λ i d lt. let w : WantedText = get_or ws i d in
    ap (index_by (λ t. or_else (place_in kept t) (place_in added t)) w.used.index) (ap (λ (l : List (Option (Bor Text))). not_kept l w) adds.whole ∙ not_kept-append old (map Some adds.added) w (small i d lt))
    ∙ index_same (λ t. or_else (place_in kept t) (place_in added t)) (least 0 all) w.used.index (not_kept old w) (λ t wants. found_in old all (map Some adds.added) sought (place_in kept) (place_in added) adds.whole k a t (ap (λ (ts : List Text). holds ts t) images ∙ sought_there old ws i d t lt wants)) in
    record {
      adds = record { added = adds.added; whole = texts ∙ adds.whole; same = adds.same ∙ is };
      indices = e ∙ map_same (λ (w : WantedText). index_by (λ t. or_else (place_in kept t) (place_in added t)) w.used.index (not_kept all w)) (new_index old all) ws each ∙ ap (λ (l : List (Option (Bor Text))). map (new_index old l) ws) (sym texts);
    }
