-- What the code finds is what the definitions choose.
use Rattle.std.proofs.Common.{◌≡◌, ℕ, zero, suc, ◌+◌, ◌<◌, ◌≤◌, Bool, true, false, cond, ◌||◌, inl, inr, List, [], ◌∷◌, ◌++◌, map, length, get_or, Option, Some, None, option_map, unwrap_or, refl, ap, sym, ◌∙◌, bytes_eq, nat_eq, subst, All, arith, one-add}
use denote.Ref.{Bor}
use Rattle.std.specs.Option.{is_some, option_copied}
use Rattle.std.proofs.lemmas.List.{length-map, map-append, ext_get_or, get_or_append_left}
use Rattle.std.proofs.lemmas.List.Elements.{All-head, All-tail}
use Rattle.std.proofs.lemmas.Bool.{eq-eqb, or_right}
use Rattle.std.proofs.lemmas.Slice.Eq.{bytes_eq-Decides}
use Rattle.desk_base.specs.Names.{Text}
use Rattle.desk_base.specs.Entries.{Entry, utf8, Pool, entry_at, utf8_at, utf8_in, text_at, text_in}
use Rattle.desk_format.specs.Split.{Want, wanted, holds, keep, kept, is_text, has_text, add, missing, missing_texts, entry_of, split, place_of, chosen}
use Rattle.desk_laws.proofs.Split.{IsWant, split_has}
use Rattle.desk_laws.proofs.Slots.{length-kept}
use Rattle.desk_laws.proofs.Stable.{has_named}
use Rattle.desk_new_pool.specs.Keeps.{TextsAre}
use Rattle.desk_new_pool.specs.Wants.{image_or, want_of, wants_of, IsWanted}
use Rattle.desk_new_pool.specs.Places.{is_slice, least, unless_kept, not_kept, with_missing, missing_among, index_by}
use Rattle.desk_new_pool.specs.NewTexts.{Adds, new_index, Splits}
use Rattle.desk_new_pool.specs.declared.wants.WantedText.{WantedText}
use Rattle.desk_new_pool.specs.declared.new_texts.NewTexts.{NewTexts}
use Rattle.desk_new_pool.proofs.Wanted.{kept_text_at}
use Rattle.desk_new_pool.proofs.Texts.{keep_own, text_at-utf8, entry_of_text, text_in_range}
use Rattle.desk_new_pool.proofs.Made.{map_same}

-- ---- a use's own want is among those of its index

holds_by : (b : Bool) (s t : Text) (ts : List Text) → holds ts t ≡ true → holds (cond b (s ∷ ts) ts) t ≡ true
holds_by true s t ts h = or_right (bytes_eq s t) (holds ts t) h
holds_by false s t ts h = h

holds_first : (w : Want) (ws : List Want) → holds (wanted w.index (w ∷ ws)) w.text ≡ true
holds_first w ws =
    ap (λ (b : Bool). holds (cond b (w.text ∷ wanted w.index ws) (wanted w.index ws)) w.text) (eq-eqb w.index w.index refl)
    ∙ ap (λ (b : Bool). b || holds (wanted w.index ws) w.text) ((bytes_eq-Decides w.text w.text).1 refl)

holds_want : (ws : List Want) (w : Want) → IsWant ws w → holds (wanted w.index ws) w.text ≡ true
holds_want [] w h = absurd h
holds_want (v ∷ vs) w (inl e) = subst (λ (x : Want). holds (wanted x.index (v ∷ vs)) x.text ≡ true) e (holds_first v vs)
holds_want (v ∷ vs) w (inr h) = holds_by (nat_eq v.index w.index) v.text w.text (wanted w.index vs) (holds_want vs w h)

is_want_at : (pool : Pool) (ws : List WantedText) (k : ℕ) (d : WantedText) → k < length ws → IsWant (wants_of pool ws) (want_of pool (get_or ws k d))
is_want_at pool [] k d h = absurd (omega arith)
is_want_at pool (w ∷ ws) zero d h = inl refl
is_want_at pool (w ∷ ws) (suc k) d h = inr (is_want_at pool ws k d (omega arith))

-- ---- what the code finds at a use

-- what an entry keeps, by what is found at a use of it
abbrev pub Tells : Pool → Want → Option Text → Type 0
Tells kept_pool w None = utf8_at kept_pool w.index ≡ Some w.text
Tells kept_pool w (Some t) = (t ≡ w.text) × (bytes_eq (text_at kept_pool w.index) w.text ≡ false)

tells_some : (kept_pool : Pool) (i : ℕ) (s t : Text) (b : Bool) → utf8_at kept_pool i ≡ Some s → bytes_eq s t ≡ b → Tells kept_pool (record { index = i; text = t }) (cond b None (Some t))
tells_some kept_pool i s t true h e = h ∙ ap (λ (u : Text). Some u) ((bytes_eq-Decides s t).0 e)
tells_some kept_pool i s t false h e = (refl, ap (λ (u : Text). bytes_eq u t) (text_at-utf8 kept_pool i ∙ ap (λ (o : Option Text). unwrap_or o []) h) ∙ e)

tells_image : (kept_pool : Pool) (i : ℕ) (own s : Text) (image : Option (Bor Text)) → utf8_at kept_pool i ≡ Some s → (image ≡ None → s ≡ own) → Tells kept_pool (record { index = i; text = image_or own image }) (unless_kept (Some s) (option_copied image))
tells_image kept_pool i own s None h f = h ∙ ap (λ (u : Text). Some u) (f refl)
tells_image kept_pool i own s (Some t) h f = tells_some kept_pool i s t.now (bytes_eq s t.now) h refl

pub tells : (pool : Pool) (ws : List WantedText) (texts : List (Option (Bor Text))) (k : ℕ) (d : WantedText) → TextsAre (kept (wants_of pool ws) 1 pool) texts → k < length ws → IsWanted pool (get_or ws k d)
    → Tells (kept (wants_of pool ws) 1 pool) (want_of pool (get_or ws k d)) (not_kept texts (get_or ws k d))
tells pool ws texts k d are lt is =
    let w : WantedText = get_or ws k d in
    let kept_pool : Pool = kept (wants_of pool ws) 1 pool in
    let own : Text = is.names.0 in
    let s : Text = keep own (wanted w.used.index (wants_of pool ws)) in
    let own_is : text_at pool w.used.index ≡ own = text_at-utf8 pool w.used.index ∙ ap (λ (o : Option Text). unwrap_or o []) is.names.1 in
    let keeps : utf8_at kept_pool w.used.index ≡ Some s = kept_text_at (wants_of pool ws) pool w.used.index ∙ ap (option_map (λ t. keep t (wanted w.used.index (wants_of pool ws)))) is.names.1 in
    let wants : holds (wanted w.used.index (wants_of pool ws)) (image_or (text_at pool w.used.index) w.image) ≡ true = holds_want (wants_of pool ws) (want_of pool w) (is_want_at pool ws k d lt) in
    let stays : w.image ≡ None → s ≡ text_at pool w.used.index = λ none.
    keep_own own (wanted w.used.index (wants_of pool ws)) (ap (holds (wanted w.used.index (wants_of pool ws))) (sym (ap (image_or (text_at pool w.used.index)) none ∙ own_is)) ∙ wants) ∙ sym own_is in
    subst (λ (o : Option Text). Tells kept_pool (want_of pool w) (unless_kept o (option_copied w.image))) (sym (are.each w.used.index ∙ keeps)) (tells_image kept_pool w.used.index (text_at pool w.used.index) s w.image keeps stays)

-- ---- the least index of a text

slice_text : (t : Text) (x : Option (Bor Text)) (slot : Option Entry) → option_copied x ≡ utf8_in slot → is_slice t x ≡ is_text t slot
slice_text t None None h = refl
slice_text t None (Some (utf8 s)) h = absurd cc
slice_text t None (Some _) h = refl
slice_text t (Some u) None h = absurd cc
slice_text t (Some u) (Some (utf8 s)) h = let e : u.now ≡ s = cc in ap (λ (v : Text). bytes_eq v t) e
slice_text t (Some u) (Some _) h = absurd cc

-- the least index of a text that a pool has from an index on
abbrev found : ℕ → Pool → Text → Option ℕ
found i pool t = cond (has_text t pool) (Some (i + place_of t pool)) None

found_by : (b c : Bool) (i n : ℕ) → cond b (Some i) (cond c (Some (suc i + n)) None) ≡ cond (b || c) (Some (i + cond b 0 (suc n))) None
found_by true c i n = ap (λ (m : ℕ). Some m) (omega arith)
found_by false true i n = ap (λ (m : ℕ). Some m) (omega arith)
found_by false false i n = refl

least_slots : (i : ℕ) (xs : List (Option (Bor Text))) (pool : Pool) (t : Text) → length xs ≡ length pool → ((j : ℕ) → option_copied (get_or xs j None) ≡ utf8_in (get_or pool j None)) → least i xs t ≡ found i pool t
least_slots i [] [] t n h = refl
least_slots i [] (slot ∷ pool) t n h = absurd (omega arith)
least_slots i (x ∷ xs) [] t n h = absurd (omega arith)
least_slots i (x ∷ xs) (slot ∷ pool) t n h =
    ap (λ (b : Bool). cond b (Some i) (least (suc i) xs t)) (slice_text t x slot (h 0))
    ∙ ap (λ (o : Option ℕ). cond (is_text t slot) (Some i) o) (least_slots (suc i) xs pool t (omega arith) (λ j. h (suc j)))
    ∙ found_by (is_text t slot) (has_text t pool) i (place_of t pool)

at_none : (t : Text) (x : Option (Bor Text)) (o : Option ℕ) → option_copied x ≡ None → cond (is_slice t x) (Some 0) o ≡ o
at_none t None o h = refl
at_none t (Some u) o h = absurd cc

least_all : (pool : Pool) (xs : List (Option (Bor Text))) (t : Text) → length xs ≡ suc (length pool) → ((i : ℕ) → option_copied (get_or xs i None) ≡ utf8_at pool i) → least 0 xs t ≡ found 1 pool t
least_all pool [] t n h = absurd (omega arith)
least_all pool (x ∷ xs) t n h = at_none t x (least 1 xs t) (h 0) ∙ least_slots 1 xs pool t (omega arith) (λ j. h (suc j))

pub least_is : (pool : Pool) (xs : List (Option (Bor Text))) (t : Text) → TextsAre pool xs → least 0 xs t ≡ found 1 pool t
least_is pool xs t are = least_all pool xs t are.count are.each

-- ---- the missing texts

is_some_found : (b : Bool) (n : ℕ) → is_some (cond b (Some n) None) ≡ b
is_some_found true n = refl
is_some_found false n = refl

missing_step : (kept_pool : Pool) (texts : List (Option (Bor Text))) (w : Want) (o : Option Text) (ms : List Text) → TextsAre kept_pool texts → Tells kept_pool w o → with_missing texts o ms ≡ cond (has_text w.text kept_pool) ms (add w.text ms)
missing_step kept_pool texts w None ms are h = sym (ap (λ (b : Bool). cond b ms (add w.text ms)) (has_named w.text kept_pool w.index (entry_of_text kept_pool w.index w.text h)))
missing_step kept_pool texts w (Some t) ms are h =
    ap (λ (o : Option ℕ). cond (is_some o) ms (add t ms)) (least_is kept_pool texts t are)
    ∙ ap (λ (b : Bool). cond b ms (add t ms)) (is_some_found (has_text t kept_pool) (1 + place_of t kept_pool))
    ∙ ap (λ (u : Text). cond (has_text u kept_pool) ms (add u ms)) h.0

pub missing_is : (pool kept_pool : Pool) (texts : List (Option (Bor Text))) (vs : List WantedText) → TextsAre kept_pool texts → All (λ (w : WantedText). Tells kept_pool (want_of pool w) (not_kept texts w)) vs → missing_among texts vs ≡ missing kept_pool (wants_of pool vs)
missing_is pool kept_pool texts [] are h = refl
missing_is pool kept_pool texts (v ∷ vs) are h =
    ap (with_missing texts (not_kept texts v)) (missing_is pool kept_pool texts vs are (All-tail (λ (w : WantedText). Tells kept_pool (want_of pool w) (not_kept texts w)) v vs h))
    ∙ missing_step kept_pool texts (want_of pool v) (not_kept texts v) (missing kept_pool (wants_of pool vs)) are (All-head (λ (w : WantedText). Tells kept_pool (want_of pool w) (not_kept texts w)) v vs h)

-- ---- the texts of the new pool

get_map : {A B : Type 0} (f : A → B) (xs : List A) (i : ℕ) (d : A) → get_or (map f xs) i (f d) ≡ f (get_or xs i d)
get_map f [] i d = refl
get_map f (x ∷ xs) zero d = refl
get_map f (x ∷ xs) (suc i) d = get_map f xs i d

listed_at : (pool : Pool) (i : ℕ) → get_or (None ∷ map utf8_in pool) i None ≡ utf8_at pool i
listed_at pool zero = refl
listed_at pool (suc i) = get_map utf8_in pool i None

pub listed : (pool : Pool) (xs : List (Option (Bor Text))) → TextsAre pool xs → map option_copied xs ≡ None ∷ map utf8_in pool
listed pool xs are = ext_get_or None (map option_copied xs) (None ∷ map utf8_in pool)
    (length-map xs option_copied ∙ are.count ∙ ap (λ (n : ℕ). suc n) (sym (length-map pool utf8_in)))
    (λ i lt. get_map option_copied xs i None ∙ are.each i ∙ sym (listed_at pool i))

texts_listed : (pool : Pool) (xs : List (Option (Bor Text))) → map option_copied xs ≡ None ∷ map utf8_in pool → TextsAre pool xs
texts_listed pool xs h = record {
  count = sym (length-map xs option_copied) ∙ ap length h ∙ ap (λ (n : ℕ). suc n) (length-map pool utf8_in);
  each = λ i. sym (get_map option_copied xs i None) ∙ ap (λ (l : List (Option Text)). get_or l i None) h ∙ listed_at pool i;
}

added_texts : (ks : List (Bor Text)) → map option_copied (map Some ks) ≡ map utf8_in (map entry_of (map (λ t. t.now) ks))
added_texts [] = refl
added_texts (k ∷ ks) = ap (λ (l : List (Option Text)). Some k.now ∷ l) (added_texts ks)

pub texts_added : (kept_pool : Pool) (old all : List (Option (Bor Text))) (ms : List Text) → TextsAre kept_pool old → Adds old ms all → TextsAre (kept_pool ++ map entry_of ms) all
texts_added kept_pool old all ms are adds = texts_listed (kept_pool ++ map entry_of ms) all
    (ap (map option_copied) adds.whole ∙ map-append option_copied old (map Some adds.added)
    ∙ ap (λ (l : List (Option Text)). l ++ map option_copied (map Some adds.added)) (listed kept_pool old are)
    ∙ ap (λ (l : List (Option Text)). (None ∷ map utf8_in kept_pool) ++ l) (added_texts adds.added ∙ ap (λ (l : List Text). map utf8_in (map entry_of l)) adds.same)
    ∙ ap (λ (l : List (Option Text)). None ∷ l) (sym (map-append utf8_in kept_pool (map entry_of ms))))

-- ---- the indices

pub entry_left : (a b : Pool) (i : ℕ) → i ≤ length a → entry_at (a ++ b) i ≡ entry_at a i
entry_left a b zero h = refl
entry_left a b (suc i) h = get_or_append_left a b None i (omega arith)

index_kept : (new : Pool) (w : Want) (b : Bool) → bytes_eq (text_at new w.index) w.text ≡ b → text_at new w.index ≡ w.text → w.index ≡ cond b w.index (suc (place_of w.text new))
index_kept new w true e h = refl
index_kept new w false e h = absurd (let yes : bytes_eq (text_at new w.index) w.text ≡ true = (bytes_eq-Decides (text_at new w.index) w.text).1 h in cc)

pub chosen_is : (kept_pool : Pool) (ms : List Text) (all : List (Option (Bor Text))) (w : Want) (o : Option Text) → TextsAre (kept_pool ++ map entry_of ms) all → Tells kept_pool w o → w.index ≤ length kept_pool → has_text w.text (kept_pool ++ map entry_of ms) ≡ true
    → index_by (least 0 all) w.index o ≡ chosen (kept_pool ++ map entry_of ms) w
chosen_is kept_pool ms all w None are h le has =
    let new : Pool = kept_pool ++ map entry_of ms in
    let is : text_at new w.index ≡ w.text = ap text_in (entry_left kept_pool (map entry_of ms) w.index le ∙ entry_of_text kept_pool w.index w.text h) in
    index_kept new w (bytes_eq (text_at new w.index) w.text) refl is
chosen_is kept_pool ms all w (Some t) are h le has =
    let new : Pool = kept_pool ++ map entry_of ms in
    let other : bytes_eq (text_at new w.index) w.text ≡ false = ap (λ (o : Option Entry). bytes_eq (text_in o) w.text) (entry_left kept_pool (map entry_of ms) w.index le) ∙ h.1 in
    ap (λ (u : Text). unwrap_or (least 0 all u) w.index) h.0 ∙ ap (λ (o : Option ℕ). unwrap_or o w.index) (least_is new all w.text are ∙ ap (λ (b : Bool). cond b (Some (1 + place_of w.text new)) None) has)
    ∙ one-add (place_of w.text new) ∙ sym (ap (λ (b : Bool). cond b w.index (suc (place_of w.text new))) other)

-- ---- the whole

pub record IsSplit (pool : Pool) (ws : List WantedText) (new : NewTexts) : Type 0 where
  pub texts : TextsAre (split (wants_of pool ws) pool) new.texts.items
  pub indices : new.indices.items ≡ map (chosen (split (wants_of pool ws) pool)) (wants_of pool ws)

pub missed : (pool : Pool) (ws : List WantedText) (old : List (Option (Bor Text))) → All (IsWanted pool) ws → TextsAre (kept (wants_of pool ws) 1 pool) old → missing_among old ws ≡ missing_texts (wants_of pool ws) pool
missed pool ws old wants are = missing_is pool (kept (wants_of pool ws) 1 pool) old ws are (λ k d lt. tells pool ws old k d are lt (wants k d lt))

pub is_split : (pool : Pool) (ws : List WantedText) (old : List (Option (Bor Text))) (new : NewTexts) → All (IsWanted pool) ws → TextsAre (kept (wants_of pool ws) 1 pool) old → Splits old ws new → IsSplit pool ws new
is_split pool ws old new wants are splits =
    let kept_pool : Pool = kept (wants_of pool ws) 1 pool in
    let adds : Adds old (missing_texts (wants_of pool ws) pool) new.texts.items = subst (λ (ms : List Text). Adds old ms new.texts.items) (missed pool ws old wants are) splits.adds in
    let whole : TextsAre (split (wants_of pool ws) pool) new.texts.items = texts_added kept_pool old new.texts.items (missing_texts (wants_of pool ws) pool) are adds in
    let same : map (new_index old new.texts.items) ws ≡ map (λ (w : WantedText). chosen (split (wants_of pool ws) pool) (want_of pool w)) ws =
    map_same (new_index old new.texts.items) (λ (w : WantedText). chosen (split (wants_of pool ws) pool) (want_of pool w)) ws
    (λ k d lt. chosen_is kept_pool (missing_texts (wants_of pool ws) pool) new.texts.items (want_of pool (get_or ws k d)) (not_kept old (get_or ws k d)) whole (tells pool ws old k d are lt (wants k d lt))
    (subst (λ (n : ℕ). (get_or ws k d).used.index ≤ n) (sym (length-kept (wants_of pool ws) 1 pool)) (text_in_range pool (get_or ws k d).used.index (wants k d lt).names.0 (wants k d lt).names.1))
    (split_has (wants_of pool ws) pool (want_of pool (get_or ws k d)) (is_want_at pool ws k d lt))) in
    record { texts = whole; indices = splits.indices ∙ same ∙ sym (map_map ws) } where
      map_map : (vs : List WantedText) → map (chosen (split (wants_of pool ws) pool)) (wants_of pool vs) ≡ map (λ (w : WantedText). chosen (split (wants_of pool ws) pool) (want_of pool w)) vs
      map_map [] = refl
      map_map (v ∷ vs) = ap (λ (l : List ℕ). chosen (split (wants_of pool ws) pool) (want_of pool v) ∷ l) (map_map vs)
