-- What a folded header says when it is read.
use Rattle.std.proofs.Common.{◌≡◌, ℕ, zero, suc, ◌+◌, ◌-◌, ◌≤◌, Bool, true, false, cond, not, ◌&&◌, ◌==◌, nat_le, List, [], ◌∷◌, ◌++◌, length, take, drop, refl, ap, sym, subst, ◌∙◌, append-nil, ◌⊎◌, inl, inr, arith, take-append-drop, replicate, add-one}
use Rattle.std.specs.List.{list_all}
use Rattle.std.proofs.Math.Seq.{take-append-add, drop-append-add}
use Rattle.std.proofs.lemmas.Bool.{and_parts, and_from, not-true, both_ways, cases_lt}
use Rattle.std.proofs.lemmas.List.Folds.{list_all-append}
use Rattle.desk_base.specs.Names.{Text, is_empty}
use Rattle.desk_lines.specs.declared.lines.LineEnd.{LineEnd}
use Rattle.desk_lines.specs.declared.lines.LineEnd.TheVariants as ends
use Rattle.desk_lines.specs.Lines.{Line, line, is_one_line, begins_lf, ends_well, are_well_ended}
use Rattle.desk_lines.specs.Cuts.{until, onward}
use Rattle.desk_lines.proofs.Cuts.{fails, until-append, onward-append}
use Rattle.desk_sections.specs.Folding.{begins_character, last_start, cut_place, pieces, further_lines, folded_lines, folded}
use Rattle.desk_sections.specs.Sections.{is_colon, is_continuation, is_colon_and_space, is_header_line, name_of, unfolded, value_of}

abbrev pub glued : List Text → Text
glued [] = []
glued (p ∷ ps) = p ++ glued ps

-- pieces are those of their text
pub glued-pieces : (count limit : ℕ) (t : Text) → glued (pieces count limit t) ≡ t
glued-pieces zero limit t = append-nil t
glued-pieces (suc count) limit t = elim (nat_le (length t) limit) as (λ (c : Bool). glued (cond c (t ∷ []) (take (cut_place limit t) t ∷ pieces count 71 (drop (cut_place limit t) t))) ≡ t) [
  | true ↦ append-nil t
  | false ↦ ap (λ (s : Text). take (cut_place limit t) t ++ s) (glued-pieces count 71 (drop (cut_place limit t) t)) ∙ take-append-drop (cut_place limit t) t
]

below_or_at : (m limit : ℕ) → m ≤ suc limit → (m ≤ limit) ⊎ (m ≡ suc limit)
below_or_at m limit g = elim (cases_lt limit m) [
  | inl later ↦ inr (omega (arith, later, g))
  | inr sooner ↦ inl (omega (arith, sooner))
]

smaller : (limit m : ℕ) (t : Text) → begins_character (drop m t) ≡ true → m ≤ suc limit → begins_character (drop (suc limit) t) ≡ false → m ≤ limit
smaller limit m t h g e = elim (below_or_at m limit g) [
  | inl k ↦ k
  | inr k ↦ absurd (both_ways (begins_character (drop (suc limit) t)) e (ap (λ (i : ℕ). begins_character (drop i t)) (sym k) ∙ h))
]

last_start_from : (limit m : ℕ) (t : Text) → begins_character (drop m t) ≡ true → m ≤ limit → m ≤ last_start limit t
last_start_from zero m t h g = g
last_start_from (suc limit) m t h g = elim (begins_character (drop (suc limit) t)) as (λ (c : Bool). begins_character (drop (suc limit) t) ≡ c → m ≤ cond c (suc limit) (last_start limit t)) [
  | true ↦ λ e. g
  | false ↦ λ e. last_start_from limit m t h (smaller limit m t h g e)
] refl

cut_from : (limit m : ℕ) (t : Text) → begins_character (drop (suc m) t) ≡ true → suc m ≤ limit → suc m ≤ cut_place limit t
cut_from limit m t h g = elim (last_start limit t == 0) as (λ (c : Bool). suc m ≤ cond c limit (last_start limit t)) [
  | true ↦ g
  | false ↦ last_start_from limit (suc m) t h g
]

unfolded_further : (between last : LineEnd) (ps : List Text) → unfolded (further_lines between last ps) ≡ glued ps
unfolded_further between last [] = refl
unfolded_further between last (p ∷ []) = refl
unfolded_further between last (p ∷ q ∷ ps) = ap (λ (s : Text). p ++ s) (unfolded_further between last (q ∷ ps))

value_lines : (between last : LineEnd) (p : Text) (ps : List Text) → value_of (folded_lines between last (p ∷ ps)) ≡ drop 2 (onward is_colon p) ++ glued ps
value_lines between last p [] = refl
value_lines between last p (q ∷ ps) = ap (λ (s : Text). drop 2 (onward is_colon p) ++ s) (unfolded_further between last (q ∷ ps))

name_lines : (between last : LineEnd) (p : Text) (ps : List Text) → name_of (folded_lines between last (p ∷ ps)) ≡ until is_colon p
name_lines between last p [] = refl
name_lines between last p (q ∷ ps) = refl

-- a front of a header that holds its colon
record Front (n v front rest : Text) : Type 0 where
  named : until is_colon front ≡ n
  valued : (drop 2 (onward is_colon front) ++ rest ≡ v) ⊎ ((drop 2 (onward is_colon front) ++ rest ≡ 32 ∷ v) × (begins_character v ≡ false))
  headed : is_colon_and_space (onward is_colon front) ≡ true

early : (v : Text) → (begins_character v ≡ true → 1 ≤ 0) → begins_character v ≡ false
early v late = elim (begins_character v) as (λ (c : Bool). begins_character v ≡ c → begins_character v ≡ false) [
  | true ↦ λ e. absurd (omega (arith, late e))
  | false ↦ λ e. e
] refl

front_at : (n v : Text) (j : ℕ) → fails is_colon n ≡ true → (begins_character v ≡ true → 1 ≤ j) → Front n v (n ++ (58 ∷ take j (32 ∷ v))) (drop j (32 ∷ v))
front_at n v zero h late =
    let o : onward is_colon (n ++ (58 ∷ [])) ≡ 58 ∷ [] = onward-append is_colon n (58 ∷ []) h refl in
    record {
      named = until-append is_colon n (58 ∷ []) h refl;
      valued = inr (ap (λ (s : Text). drop 2 s ++ (32 ∷ v)) o, early v late);
      headed = ap is_colon_and_space o;
    }
front_at n v (suc j) h late =
    let o : onward is_colon (n ++ (58 ∷ 32 ∷ take j v)) ≡ 58 ∷ 32 ∷ take j v = onward-append is_colon n (58 ∷ 32 ∷ take j v) h refl in
    record {
      named = until-append is_colon n (58 ∷ 32 ∷ take j v) h refl;
      valued = inl (ap (λ (s : Text). drop 2 s ++ drop j v) o ∙ take-append-drop j v);
      headed = ap is_colon_and_space o;
    }

front_whole : (n v : Text) → fails is_colon n ≡ true → Front n v (n ++ (58 ∷ 32 ∷ v)) []
front_whole n v h =
    let o : onward is_colon (n ++ (58 ∷ 32 ∷ v)) ≡ 58 ∷ 32 ∷ v = onward-append is_colon n (58 ∷ 32 ∷ v) h refl in
    record {
      named = until-append is_colon n (58 ∷ 32 ∷ v) h refl;
      valued = inl (ap (λ (s : Text). drop 2 s ++ []) o ∙ append-nil v);
      headed = ap is_colon_and_space o;
    }

front_cut : (n v : Text) (k j : ℕ) → fails is_colon n ≡ true → (begins_character v ≡ true → 1 ≤ j) → k ≡ length n + suc j → Front n v (take k (n ++ (58 ∷ 32 ∷ v))) (drop k (n ++ (58 ∷ 32 ∷ v)))
front_cut n v k j h late e =
    subst (λ (i : ℕ). Front n v (take i (n ++ (58 ∷ 32 ∷ v))) (drop i (n ++ (58 ∷ 32 ∷ v)))) (sym e)
    (subst (λ (a : Text). Front n v a (drop (length n + suc j) (n ++ (58 ∷ 32 ∷ v)))) (sym (take-append-add n (58 ∷ 32 ∷ v) (suc j)))
    (subst (λ (b : Text). Front n v (n ++ (58 ∷ take j (32 ∷ v))) b) (sym (drop-append-add n (58 ∷ 32 ∷ v) (suc j)))
    (front_at n v j h late)))

-- a place behind the colon is a number of bytes behind the name
past : (m k : ℕ) → suc m ≤ k → k ≡ m + suc (k - suc m)
past m k h = omega (arith, h)

one_past : (m k : ℕ) → suc (suc m) ≤ k → 1 ≤ k - suc m
one_past m k h = omega (arith, h)

-- the first place in the value
value_place : (n v : Text) → begins_character v ≡ true → begins_character (drop (suc (suc (length n))) (n ++ (58 ∷ 32 ∷ v))) ≡ true
value_place n v e = ap begins_character (ap (λ (i : ℕ). drop i (n ++ (58 ∷ 32 ∷ v))) (two_more (length n)) ∙ drop-append-add n (58 ∷ 32 ∷ v) 2) ∙ e
  where
    two_more : (m : ℕ) → suc (suc m) ≡ m + 2
    two_more m = omega arith

-- the colon is followed by a space, at which a character begins
colon_place : (n v : Text) → begins_character (drop (suc (length n)) (n ++ (58 ∷ 32 ∷ v))) ≡ true
colon_place n v = ap begins_character (ap (λ (i : ℕ). drop i (n ++ (58 ∷ 32 ∷ v))) (sym (add-one (length n))) ∙ drop-append-add n (58 ∷ 32 ∷ v) 1)

abbrev pub is_header : List Line → Bool
is_header [] = false
is_header (l ∷ ls) = is_header_line l.content && list_all (λ m. is_continuation m.content) ls

further_all : (between last : LineEnd) (ps : List Text) → list_all (λ m. is_continuation m.content) (further_lines between last ps) ≡ true
further_all between last [] = refl
further_all between last (p ∷ []) = refl
further_all between last (p ∷ q ∷ ps) = further_all between last (q ∷ ps)

header_lines : (between last : LineEnd) (p : Text) (ps : List Text) → is_header_line p ≡ true → is_header (folded_lines between last (p ∷ ps)) ≡ true
header_lines between last p [] h = and_from _ _ h refl
header_lines between last p (q ∷ ps) h = and_from _ _ h (further_all between last (q ∷ ps))

-- what is read of a folded header
pub record Read (n v : Text) (ls : List Line) : Type 0 where
  pub named : name_of ls ≡ n
  pub valued : (value_of ls ≡ v) ⊎ ((value_of ls ≡ 32 ∷ v) × (begins_character v ≡ false))
  pub headed : is_header ls ≡ true

-- whether a name begins a line of its own: not empty, no space first, and no colon
abbrev pub is_proper : Text → Bool
is_proper n = not (is_empty n) && (not (is_continuation n) && fails is_colon n)

no_space : (n : Text) (w : Text) → is_empty n ≡ false → is_continuation (n ++ w) ≡ is_continuation n
no_space [] w h = absurd cc
no_space (b ∷ n) w h = refl

front_proper : (n v front rest : Text) → Front n v front rest → is_proper n ≡ true → is_continuation front ≡ is_continuation n → is_header_line front ≡ true
front_proper n v front rest f h e =
    and_from _ _ (ap not e ∙ (and_parts _ _ (and_parts _ _ h).1).0) (and_from _ _ (ap (λ (s : Text). not (is_empty s)) f.named ∙ (and_parts _ _ h).0) f.headed)

read_front : (between last : LineEnd) (n v p rest : Text) (ps : List Text) → is_proper n ≡ true → is_continuation p ≡ is_continuation n → Front n v p rest → glued ps ≡ rest → Read n v (folded_lines between last (p ∷ ps))
read_front between last n v p rest ps h e f g = record {
  named = name_lines between last p ps ∙ f.named;
  valued = elim f.valued [
    | inl k ↦ inl (value_lines between last p ps ∙ ap (λ (s : Text). drop 2 (onward is_colon p) ++ s) g ∙ k)
    | inr k ↦ inr (value_lines between last p ps ∙ ap (λ (s : Text). drop 2 (onward is_colon p) ++ s) g ∙ k.0, k.1)
  ];
  headed = header_lines between last p ps (front_proper n v p rest f h e);
}

take_space : (k : ℕ) (n w : Text) → is_empty n ≡ false → is_continuation (take (suc k) (n ++ w)) ≡ is_continuation n
take_space k [] w h = absurd cc
take_space k (b ∷ n) w h = refl

read_cut : (between last : LineEnd) (n v : Text) (count limit k : ℕ) → is_proper n ≡ true → suc (length n) ≤ k → (begins_character v ≡ true → suc (suc (length n)) ≤ k) → Read n v (folded_lines between last (take k (n ++ (58 ∷ 32 ∷ v)) ∷ pieces count 71 (drop k (n ++ (58 ∷ 32 ∷ v)))))
read_cut between last n v count limit zero h g late = absurd (omega (arith, g))
read_cut between last n v count limit (suc k) h g late =
    read_front between last n v (take (suc k) (n ++ (58 ∷ 32 ∷ v))) (drop (suc k) (n ++ (58 ∷ 32 ∷ v))) (pieces count 71 (drop (suc k) (n ++ (58 ∷ 32 ∷ v)))) h
    (take_space k n (58 ∷ 32 ∷ v) (not-true _ (and_parts _ _ h).0))
    (front_cut n v (suc k) (suc k - suc (length n)) (and_parts _ _ (and_parts _ _ h).1).1 (λ e. one_past (length n) (suc k) (late e)) (past (length n) (suc k) g))
    (glued-pieces count 71 (drop (suc k) (n ++ (58 ∷ 32 ∷ v))))

read_whole : (between last : LineEnd) (n v : Text) → is_proper n ≡ true → Read n v (folded_lines between last ((n ++ (58 ∷ 32 ∷ v)) ∷ []))
read_whole between last n v h =
    read_front between last n v (n ++ (58 ∷ 32 ∷ v)) [] [] h (no_space n (58 ∷ 32 ∷ v) (not-true _ (and_parts _ _ h).0)) (front_whole n v (and_parts _ _ (and_parts _ _ h).1).1) refl

read_pieces : (between last : LineEnd) (n v : Text) (count : ℕ) → is_proper n ≡ true → suc (suc (length n)) ≤ 72 → Read n v (folded_lines between last (pieces count 72 (n ++ (58 ∷ 32 ∷ v))))
read_pieces between last n v zero h g = read_whole between last n v h
read_pieces between last n v (suc count) h g =
    elim (nat_le (length (n ++ (58 ∷ 32 ∷ v))) 72) as (λ (c : Bool). Read n v (folded_lines between last (cond c ((n ++ (58 ∷ 32 ∷ v)) ∷ []) (take (cut_place 72 (n ++ (58 ∷ 32 ∷ v))) (n ++ (58 ∷ 32 ∷ v)) ∷ pieces count 71 (drop (cut_place 72 (n ++ (58 ∷ 32 ∷ v))) (n ++ (58 ∷ 32 ∷ v))))))) [
      | true ↦ read_whole between last n v h
      | false ↦ read_cut between last n v count 72 (cut_place 72 (n ++ (58 ∷ 32 ∷ v))) h (cut_from 72 (length n) (n ++ (58 ∷ 32 ∷ v)) (colon_place n v) (omega (arith, g))) (λ e. cut_from 72 (suc (length n)) (n ++ (58 ∷ 32 ∷ v)) (value_place n v e) g)
    ]

-- a folded header says its name and its value; only where no character begins at the value's front can a space more stand before it
pub read-folded : (between last : LineEnd) (n v : Text) → is_proper n ≡ true → length n ≤ 70 → Read n v (folded between last (n ++ (58 ∷ 32 ∷ v)))
read-folded between last n v h g = read_pieces between last n v (length (n ++ (58 ∷ 32 ∷ v))) h (omega (arith, g))

-- the lines of a folded header stand well before others

all_split : (p : ℕ → Bool) (k : ℕ) (t : Text) → list_all p t ≡ true → (list_all p (take k t) ≡ true) × (list_all p (drop k t) ≡ true)
all_split p k t h = and_parts _ _ (sym (list_all-append p (take k t) (drop k t)) ∙ ap (list_all p) (take-append-drop k t) ∙ h)

pub pieces_flat : (count limit : ℕ) (t : Text) → is_one_line t ≡ true → list_all is_one_line (pieces count limit t) ≡ true
pieces_flat zero limit t h = and_from _ _ h refl
pieces_flat (suc count) limit t h =
    let s : (is_one_line (take (cut_place limit t) t) ≡ true) × (is_one_line (drop (cut_place limit t) t) ≡ true) = all_split (λ b. not (b == 10) && not (b == 13)) (cut_place limit t) t h in
    elim (nat_le (length t) limit) as (λ (c : Bool). list_all is_one_line (cond c (t ∷ []) (take (cut_place limit t) t ∷ pieces count 71 (drop (cut_place limit t) t))) ≡ true) [
      | true ↦ and_from _ _ h refl
      | false ↦ and_from _ _ s.0 (pieces_flat count 71 (drop (cut_place limit t) t) s.1)
    ]

-- whether an end is one
abbrev pub is_ended : LineEnd → Bool
is_ended ends.EndOfText = false
is_ended ends.Lf = true
is_ended ends.Cr = true
is_ended ends.CrLf = true

pub ends_other : (old new : Text) (end : LineEnd) (before after : List Line) → is_empty new ≡ false → begins_lf after ≡ begins_lf before → is_empty after ≡ is_empty before → ends_well old end before ≡ true → ends_well new end after ≡ true
ends_other old new ends.EndOfText before after e b n h = and_from _ _ (ap not e) (n ∙ (and_parts _ _ h).1)
ends_other old new ends.Lf before after e b n h = refl
ends_other old new ends.Cr before after e b n h = ap not b ∙ h
ends_other old new ends.CrLf before after e b n h = refl

ends_inside : (content next : Text) (end nexts : LineEnd) (ls : List Line) → is_ended end ≡ true → is_empty next ≡ false → ends_well content end (line next nexts ∷ ls) ≡ true
ends_inside content next ends.EndOfText nexts ls h e = absurd cc
ends_inside content next ends.Lf nexts ls h e = refl
ends_inside content [] ends.Cr nexts ls h e = absurd cc
ends_inside content (b ∷ next) ends.Cr nexts ls h e = refl
ends_inside content next ends.CrLf nexts ls h e = refl

formed_before : (c p : Text) (q : Text) (ps : List Text) (between last : LineEnd) (more : List Line) → is_ended between ≡ true → is_one_line c ≡ true → are_well_ended (further_lines between last (q ∷ ps) ++ more) ≡ true → are_well_ended (line c between ∷ (further_lines between last (q ∷ ps) ++ more)) ≡ true
formed_before c p q [] between last more b f h = and_from _ _ f (and_from _ _ (ends_inside c (32 ∷ q) between last more b refl) h)
formed_before c p q (r ∷ ps) between last more b f h = and_from _ _ f (and_from _ _ (ends_inside c (32 ∷ q) between between (further_lines between last (r ∷ ps) ++ more) b refl) h)

formed_further : (between last : LineEnd) (ps : List Text) (more : List Line) → is_ended between ≡ true → list_all is_one_line ps ≡ true → ends_well (32 ∷ []) last more ≡ true → are_well_ended more ≡ true → are_well_ended (further_lines between last ps ++ more) ≡ true
formed_further between last [] more b f e m = m
formed_further between last (p ∷ []) more b f e m = and_from _ _ (and_parts _ _ f).0 (and_from _ _ (ends_other (32 ∷ []) (32 ∷ p) last more more refl refl refl e) m)
formed_further between last (p ∷ q ∷ ps) more b f e m = formed_before (32 ∷ p) p q ps between last more b (and_parts _ _ f).0 (formed_further between last (q ∷ ps) more b (and_parts _ _ f).1 e m)

pub formed_folded : (between last : LineEnd) (p : Text) (ps : List Text) (more : List Line) → is_empty p ≡ false → is_ended between ≡ true → list_all is_one_line (p ∷ ps) ≡ true → ends_well (32 ∷ []) last more ≡ true → are_well_ended more ≡ true → are_well_ended (folded_lines between last (p ∷ ps) ++ more) ≡ true
formed_folded between last p [] more g b f e m = and_from _ _ (and_parts _ _ f).0 (and_from _ _ (ends_other (32 ∷ []) p last more more g refl refl e) m)
formed_folded between last p (q ∷ ps) more g b f e m = formed_before p p q ps between last more b (and_parts _ _ f).0 (formed_further between last (q ∷ ps) more b (and_parts _ _ f).1 e m)

-- the one case with a space more: 80 bytes that begin no character
example : value_of (folded ends.CrLf ends.Lf ((78 ∷ 97 ∷ 109 ∷ 101 ∷ []) ++ (58 ∷ 32 ∷ replicate 80 128))) ≡ 32 ∷ replicate 80 128
example = refl
