-- The texts of a pool, index by index.
use Rattle.std.proofs.Common.{◌≡◌, ℕ, zero, suc, ◌+◌, ◌<◌, ◌≤◌, Bool, true, false, List, [], ◌∷◌, ◌++◌, length, get_or, Option, Some, None, option_map, unwrap_or, refl, ap, sym, ◌∙◌, subst, below_more, ltb, arith}
use denote.Ref.{Bor}
use Rattle.std.specs.Option.{option_copied}
use Rattle.std.proofs.lemmas.List.{get_or_append_left, get_or_push, get_or_past}
use Rattle.std.proofs.lemmas.Bool.{ltb-true, ltb-false}
use Rattle.desk_base.specs.Names.{Text}
use Rattle.desk_base.specs.Entries.{Entry, utf8, Pool, entry_at, utf8_at, utf8_in, text_at, text_in}
use Rattle.desk_format.specs.Split.{Want, wanted, holds, keep, kept}
use Rattle.desk_laws.proofs.Slots.{length-kept, in_range}
use Rattle.desk_new_pool.specs.Keeps.{Keeps, TextsAre}
use Rattle.desk_new_pool.specs.declared.keeps.Keep.{Keep}
use Rattle.desk_new_pool.proofs.Wanted.{kept_text_at}

-- ---- what a state says of the text that is kept

own_first : (own : Text) (ts : List Text) → holds ts own ≡ true → keep own ts ≡ own
own_first own [] h = absurd cc
own_first own (t ∷ ts) h = rw h refl

pub keep_own : (own : Text) (ts : List Text) → holds ts own ≡ true → keep own ts ≡ own
keep_own own ts h = own_first own ts h

in_entry : (o : Option Entry) → text_in o ≡ unwrap_or (utf8_in o) []
in_entry None = refl
in_entry (Some (utf8 t)) = refl
in_entry (Some _) = refl

pub text_at-utf8 : (pool : Pool) (i : ℕ) → text_at pool i ≡ unwrap_or (utf8_at pool i) []
text_at-utf8 pool i = in_entry (entry_at pool i)

-- ---- index by index

pub each_push : (f : ℕ → Option Text) (xs : List (Option (Bor Text))) (x : Option (Bor Text)) (n : ℕ) → length xs ≡ n → ((i : ℕ) → i < n → option_copied (get_or xs i None) ≡ f i) → option_copied x ≡ f n
    → (i : ℕ) → i < n + 1 → option_copied (get_or (xs ++ x ∷ []) i None) ≡ f i
each_push f xs x n e h here = below_more (λ i. option_copied (get_or (xs ++ x ∷ []) i None) ≡ f i) n
    (λ i lt. ap option_copied (get_or_append_left xs (x ∷ []) None i (omega arith)) ∙ h i lt)
    (ap option_copied (get_or_push xs x None n e) ∙ here)

entry_past : (pool : Pool) (i : ℕ) → length pool < i → entry_at pool i ≡ None
entry_past pool zero h = refl
entry_past pool (suc i) h = get_or_past pool i None (omega arith)

either : (f : ℕ → Option Text) (xs : List (Option (Bor Text))) (n i : ℕ) → length xs ≡ n → ((i : ℕ) → i < n → option_copied (get_or xs i None) ≡ f i) → ((i : ℕ) → n ≤ i → f i ≡ None) → (b : Bool) → ltb i n ≡ b → option_copied (get_or xs i None) ≡ f i
either f xs n i e h past true p = h i (ltb-true i n p)
either f xs n i e h past false p = let far : n ≤ i = ltb-false i n p in ap option_copied (get_or_past xs i None (omega arith)) ∙ sym (past i far)

pub texts_are : (ws : List Want) (pool : Pool) (xs : List (Option (Bor Text))) (n : ℕ) → n ≡ suc (length pool) → length xs ≡ n → ((i : ℕ) → i < n → option_copied (get_or xs i None) ≡ utf8_at (kept ws 1 pool) i) → TextsAre (kept ws 1 pool) xs
texts_are ws pool xs n is e h = record {
  count = e ∙ is ∙ ap (λ (m : ℕ). suc m) (sym (length-kept ws 1 pool));
  each = λ i. either (utf8_at (kept ws 1 pool)) xs n i e h (λ j far. ap utf8_in (entry_past (kept ws 1 pool) j (let l : length (kept ws 1 pool) ≡ length pool = length-kept ws 1 pool in omega arith))) (ltb i n) refl;
}

-- ---- the step of the code

pub kept_at_index : (ws : List Want) (pool : Pool) (i : ℕ) (own : Option Text) (k : Keep) (o : Option Text) → own ≡ utf8_at pool i → Keeps (text_at pool i) (wanted i ws) k
    → ((ts : List Text) → Keeps (unwrap_or own []) ts k → o ≡ option_map (λ t. keep t ts) own) → o ≡ utf8_at (kept ws 1 pool) i
kept_at_index ws pool i own k o is h f =
    let now : Keeps (unwrap_or own []) (wanted i ws) k = subst (λ (t : Text). Keeps t (wanted i ws) k) (text_at-utf8 pool i ∙ ap (λ (x : Option Text). unwrap_or x []) (sym is)) h in
    f (wanted i ws) now ∙ ap (option_map (λ t. keep t (wanted i ws))) is ∙ sym (kept_text_at ws pool i)

-- ---- indices that name a text are in range

utf8_entry : (o : Option Entry) (t : Text) → utf8_in o ≡ Some t → o ≡ Some (utf8 t)
utf8_entry None t e = absurd cc
utf8_entry (Some (utf8 s)) t e = let same : s ≡ t = cc in ap (λ (u : Text). Some (utf8 u)) same
utf8_entry (Some _) t e = absurd cc

pub entry_of_text : (pool : Pool) (i : ℕ) (t : Text) → utf8_at pool i ≡ Some t → entry_at pool i ≡ Some (utf8 t)
entry_of_text pool i t e = utf8_entry (entry_at pool i) t e

pub text_in_range : (pool : Pool) (i : ℕ) (t : Text) → utf8_at pool i ≡ Some t → i ≤ length pool
text_in_range pool i t e = in_range pool i (utf8 t) (entry_of_text pool i t e)
