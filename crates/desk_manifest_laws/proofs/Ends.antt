-- How texts begin and end: with blanks, or with quotes.
use Rattle.std.proofs.Common.{◌≡◌, ℕ, ◌-◌, ◌+◌, Bool, true, false, cond, not, ◌&&◌, ◌==◌, [], ◌∷◌, ◌++◌, length, take, refl, ap, sym, ◌∙◌, append-nil, arith, length-append}
use Rattle.std.specs.List.{list_all, ends_with}
use Rattle.std.proofs.lemmas.Bool.{and_parts, not-true, eqb-true}
use Rattle.std.proofs.lemmas.List.{take_at}
use Rattle.std.proofs.lemmas.Slice.Eq.{ends_is}
use Rattle.std.proofs.lemmas.Bool.Decides.{Decides-eqb}
use Rattle.desk_base.specs.Names.{Text, is_empty}
use Rattle.desk_lines.specs.Lines.{rest}
use Rattle.desk_lines.specs.Cuts.{stops}
use Rattle.desk_lines.specs.Blanks.{is_blank, not_blank, trimmed_end}
use Rattle.desk_clauses.specs.Grammar.{ends_in_quote, is_quoted, unquoted, quoted}
use Rattle.desk_manifest_laws.proofs.Plain.{is_plain}

-- whether a text begins, or ends, with a byte that passes
abbrev pub starts : (ℕ → Bool) → Text → Bool
starts p [] = false
starts p (b ∷ t) = p b

abbrev pub ends : (ℕ → Bool) → Text → Bool
ends p [] = false
ends p (b ∷ []) = p b
ends p (b ∷ c ∷ t) = ends p (c ∷ t)

pub ends-append : (p : ℕ → Bool) (x : Text) (c : ℕ) (u : Text) → ends p (x ++ c ∷ u) ≡ ends p (c ∷ u)
ends-append p [] c u = refl
ends-append p (b ∷ []) c u = refl
ends-append p (b ∷ d ∷ x) c u = ends-append p (d ∷ x) c u

pub ends_behind : (p : ℕ → Bool) (b : ℕ) (u v : Text) → is_empty v ≡ is_empty u → ends p v ≡ ends p u → ends p (b ∷ u) ≡ ends p (b ∷ v)
ends_behind p b [] [] f e = refl
ends_behind p b [] (d ∷ v) f e = absurd cc
ends_behind p b (c ∷ u) [] f e = absurd cc
ends_behind p b (c ∷ u) (d ∷ v) f e = sym e

-- two texts that begin and end alike
pub record Alike (p : ℕ → Bool) (x y : Text) : Type 0 where
  pub filled : is_empty y ≡ is_empty x
  pub begin_same : starts p y ≡ starts p x
  pub end_same : ends p y ≡ ends p x

pub alike_same : (p : ℕ → Bool) (x : Text) → Alike p x x
alike_same p x = record { filled = refl; begin_same = refl; end_same = refl }

marked_filled : (x u : Text) → is_empty (x ++ 44 ∷ u) ≡ false
marked_filled [] u = refl
marked_filled (b ∷ x) u = refl

marked_starts : (p : ℕ → Bool) (x y u v : Text) → is_empty y ≡ is_empty x → starts p y ≡ starts p x → starts p (y ++ 44 ∷ v) ≡ starts p (x ++ 44 ∷ u)
marked_starts p [] [] u v f s = refl
marked_starts p [] (c ∷ y) u v f s = absurd cc
marked_starts p (b ∷ x) [] u v f s = absurd cc
marked_starts p (b ∷ x) (c ∷ y) u v f s = s

pub alike_marks : (p : ℕ → Bool) (x y u v : Text) → Alike p x y → Alike p u v → Alike p (x ++ 44 ∷ u) (y ++ 44 ∷ v)
alike_marks p x y u v a b = record {
  filled = marked_filled y v ∙ sym (marked_filled x u);
  begin_same = marked_starts p x y u v a.filled a.begin_same;
  end_same = ends-append p y 44 v ∙ sym (ends_behind p 44 u v b.filled b.end_same) ∙ sym (ends-append p x 44 u);
}

plain_ends : (p : ℕ → Bool) → ((b : ℕ) → is_plain b ≡ true → p b ≡ false) → (t : Text) → list_all is_plain t ≡ true → ends p t ≡ false
plain_ends p off [] h = refl
plain_ends p off (b ∷ []) h = off b (and_parts _ _ h).0
plain_ends p off (b ∷ c ∷ t) h = plain_ends p off (c ∷ t) (and_parts _ _ h).1

front_alike : (p : ℕ → Bool) (lead n m r : Text) → starts p (n ++ r) ≡ false → starts p (m ++ r) ≡ false → starts p (lead ++ (m ++ r)) ≡ starts p (lead ++ (n ++ r))
front_alike p [] n m r h g = g ∙ sym h
front_alike p (b ∷ lead) n m r h g = refl

back_ends : (p : ℕ → Bool) → ((b : ℕ) → is_plain b ≡ true → p b ≡ false) → (lead : Text) (b : ℕ) (n : Text) → list_all is_plain (b ∷ n) ≡ true → ends p (lead ++ ((b ∷ n) ++ [])) ≡ false
back_ends p off lead b n h =
    ends-append p lead b (n ++ []) ∙ ap (ends p) (append-nil (b ∷ n)) ∙ plain_ends p off (b ∷ n) h

back_alike : (p : ℕ → Bool) → ((b : ℕ) → is_plain b ≡ true → p b ≡ false) → (lead trail : Text) (b c : ℕ) (n m : Text) → list_all is_plain (b ∷ n) ≡ true → list_all is_plain (c ∷ m) ≡ true → ends p (lead ++ ((c ∷ m) ++ trail)) ≡ ends p (lead ++ ((b ∷ n) ++ trail))
back_alike p off lead [] b c n m h g = back_ends p off lead c m g ∙ sym (back_ends p off lead b n h)
back_alike p off lead (d ∷ trail) b c n m h g =
    ends-append p lead c (m ++ d ∷ trail) ∙ ends-append p (c ∷ m) d trail ∙ sym (ends-append p (b ∷ n) d trail) ∙ sym (ends-append p lead b (n ++ d ∷ trail))

three_filled : (lead n trail : Text) → is_empty n ≡ false → is_empty (lead ++ (n ++ trail)) ≡ false
three_filled [] [] trail h = absurd cc
three_filled [] (b ∷ n) trail h = refl
three_filled (a ∷ lead) n trail h = refl

-- a plain text in place of another
pub three_alike : (p : ℕ → Bool) → ((b : ℕ) → is_plain b ≡ true → p b ≡ false) → (lead trail n m : Text) → is_empty n ≡ false → is_empty m ≡ false → list_all is_plain n ≡ true → list_all is_plain m ≡ true → Alike p (lead ++ (n ++ trail)) (lead ++ (m ++ trail))
three_alike p off lead trail [] m e f h g = absurd cc
three_alike p off lead trail (b ∷ n) [] e f h g = absurd cc
three_alike p off lead trail (b ∷ n) (c ∷ m) e f h g = record {
  filled = three_filled lead (c ∷ m) trail refl ∙ sym (three_filled lead (b ∷ n) trail refl);
  begin_same = front_alike p lead (b ∷ n) (c ∷ m) trail (off b (and_parts _ _ h).0) (off c (and_parts _ _ g).0);
  end_same = back_alike p off lead trail b c n m h g;
}

abbrev pub is_quote : ℕ → Bool
is_quote b = b == 34

pub plain_off_blank : (b : ℕ) → is_plain b ≡ true → is_blank b ≡ false
plain_off_blank b h = not-true (is_blank b) (and_parts _ _ h).1

pub plain_off_quote : (b : ℕ) → is_plain b ≡ true → is_quote b ≡ false
plain_off_quote b h = not-true (is_quote b) (and_parts _ _ (and_parts _ _ h).0).0

-- ---- blanks

pub stops_starts : (t : Text) → stops not_blank t ≡ not (starts is_blank t)
stops_starts [] = refl
stops_starts (b ∷ t) = refl

pub ends_trimmed : (t : Text) → ends is_blank t ≡ false → trimmed_end t ≡ t
ends_trimmed [] h = refl
ends_trimmed (b ∷ []) h = ap (λ (c : Bool). cond (c && true) [] (b ∷ [])) h
ends_trimmed (b ∷ c ∷ t) h = ap (λ (s : Text). cond (is_blank b && is_empty s) [] (b ∷ s)) (ends_trimmed (c ∷ t) h) ∙ either (is_blank b)
  where
    either : (k : Bool) → cond (k && false) [] (b ∷ c ∷ t) ≡ b ∷ c ∷ t
    either true = refl
    either false = refl

pub trimmed_ends : (t : Text) → trimmed_end t ≡ t → ends is_blank t ≡ false
trimmed_ends [] h = refl
trimmed_ends (b ∷ []) h = elim (is_blank b) as (λ (k : Bool). cond (k && true) [] (b ∷ []) ≡ b ∷ [] → k ≡ false) [
  | true ↦ λ e. absurd cc
  | false ↦ λ e. refl
] h
trimmed_ends (b ∷ c ∷ t) h = trimmed_ends (c ∷ t) (tail (is_blank b && is_empty (trimmed_end (c ∷ t))) h)
  where
    tail : (k : Bool) → cond k [] (b ∷ trimmed_end (c ∷ t)) ≡ b ∷ c ∷ t → trimmed_end (c ∷ t) ≡ c ∷ t
    tail true e = absurd cc
    tail false e = ap rest e

-- ---- quotes

pub quote_to : (t : Text) → ends_in_quote t ≡ true → ends is_quote t ≡ true
quote_to t h =
    let front : Text = take (length t - 1) t in
    ap (ends is_quote) ((ends_is Decides-eqb t (34 ∷ []) (ends_with ◌==◌ t (34 ∷ [])) refl).0 h) ∙ ends-append is_quote front 34 []

last_quote : (t : Text) → ends is_quote t ≡ true → (front : Text) × (t ≡ front ++ 34 ∷ [])
last_quote [] h = absurd cc
last_quote (b ∷ []) h = ([], ap (λ (c : ℕ). c ∷ []) (eqb-true b 34 h))
last_quote (b ∷ c ∷ t) h = let more = last_quote (c ∷ t) h in (b ∷ more.0, ap (λ (s : Text). b ∷ s) more.1)

pub quote_from : (t : Text) → ends is_quote t ≡ true → ends_in_quote t ≡ true
quote_from t h = let last = last_quote t h in (ends_is Decides-eqb t (34 ∷ []) (ends_with ◌==◌ t (34 ∷ [])) refl).1 last.0 last.1

pub quoted_start : (t : Text) → is_quoted t ≡ true → starts is_quote t ≡ true
quoted_start [] h = absurd cc
quoted_start (b ∷ t) h = (and_parts _ _ h).0

pub quoted_end : (t : Text) → is_quoted t ≡ true → ends_in_quote (rest t) ≡ true
quoted_end [] h = absurd cc
quoted_end (b ∷ t) h = (and_parts _ _ h).1

pub quoted_is : (t : Text) → is_quoted (quoted t) ≡ true
quoted_is t = quote_from (t ++ 34 ∷ []) (ends-append is_quote t 34 [])

pub quoted_trimmed : (t : Text) → (stops not_blank (quoted t) ≡ true) × (trimmed_end (quoted t) ≡ quoted t)
quoted_trimmed t = (refl, ends_trimmed (quoted t) (ends-append is_blank (34 ∷ t) 34 []))

pub unquoted_quoted : (t : Text) → unquoted (quoted t) ≡ t
unquoted_quoted t =
    let size : length (quoted t) - 2 ≡ length t = let more : length (t ++ 34 ∷ []) ≡ length t + 1 = length-append t (34 ∷ []) in omega (arith, more) in
    ap (λ (n : ℕ). take n (t ++ 34 ∷ [])) size ∙ take_at t (34 ∷ []) (length t) refl

pub quoted_unquoted : (t : Text) → is_quoted t ≡ true → quoted (unquoted t) ≡ t
quoted_unquoted [] h = absurd cc
quoted_unquoted (b ∷ t) h =
    let less : length (b ∷ t) - 2 ≡ length t - 1 = omega arith in
    let quote : b ≡ 34 = eqb-true b 34 (and_parts _ _ h).0 in
    ap (λ (n : ℕ). 34 ∷ (take n t ++ 34 ∷ [])) less
    ∙ ap (λ (s : Text). 34 ∷ s) (sym ((ends_is Decides-eqb t (34 ∷ []) (ends_with ◌==◌ t (34 ∷ [])) refl).0 (and_parts _ _ h).1))
    ∙ ap (λ (c : ℕ). c ∷ t) (sym quote)
