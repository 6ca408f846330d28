-- A header's lines, as they are grouped, counted and joined.
use mathlib.Core.Bool.{and-false}
use Rattle.std.proofs.Common.{◌≡◌, ◌≤◌, ◌+◌, ℕ, Bool, true, false, cond, not, ◌&&◌, List, [], ◌∷◌, ◌++◌, length, drop, Option, Some, None, refl, sym, ap, ap₂, ◌∙◌, arith, append_assoc, append-nil, length-append}
use Rattle.std.specs.List.{list_all}
use Rattle.std.proofs.lemmas.Bool.{and_parts, and_from, not-true}
use Rattle.desk_base.specs.Names.{Text, is_empty}
use Rattle.desk_lines.specs.declared.lines.LineEnd.{LineEnd}
use Rattle.desk_lines.specs.Lines.{Line, line, end_bytes, joined}
use Rattle.desk_sections.specs.Sections.{is_continuation, is_header_line, Item, section_end, header, Grouped, put, grouped, item_lines, is_bad_line, first_bad_line, last_end}
use Rattle.desk_sections.specs.Folding.{further_lines, folded_lines, folded_bytes}
use Rattle.desk_sections.specs.Reading.{begins_anew, end_behind}
use Rattle.desk_manifest_laws.proofs.Grouping.{filled_header, filled_further}

no_further : (content : Text) → is_header_line content ≡ true → is_continuation content ≡ false
no_further content h = not-true _ (and_parts _ _ h).0

-- a line that continues
pub put_further : (l : Line) (g : Grouped) → is_continuation l.content ≡ true → put l g ≡ record { further = l ∷ g.further; items = g.items }
put_further l g h =
    ap (λ (b : Bool). cond b (record { further = []; items = section_end l.end ∷ g.items }) (cond (is_continuation l.content) (record { further = l ∷ g.further; items = g.items }) (record { further = []; items = header (l ∷ g.further) ∷ g.items }))) (filled_further l.content h)
    ∙ ap (λ (b : Bool). cond b (record { further = l ∷ g.further; items = g.items }) (record { further = []; items = header (l ∷ g.further) ∷ g.items })) h

-- an empty line
pub put_empty : (l : Line) (g : Grouped) → is_empty l.content ≡ true → put l g ≡ record { further = []; items = section_end l.end ∷ g.items }
put_empty l g h = ap (λ (b : Bool). cond b (record { further = []; items = section_end l.end ∷ g.items }) (cond (is_continuation l.content) (record { further = l ∷ g.further; items = g.items }) (record { further = []; items = header (l ∷ g.further) ∷ g.items }))) h

-- any other line
pub put_header : (l : Line) (g : Grouped) → is_empty l.content ≡ false → is_continuation l.content ≡ false → put l g ≡ record { further = []; items = header (l ∷ g.further) ∷ g.items }
put_header l g e h =
    ap (λ (b : Bool). cond b (record { further = []; items = section_end l.end ∷ g.items }) (cond (is_continuation l.content) (record { further = l ∷ g.further; items = g.items }) (record { further = []; items = header (l ∷ g.further) ∷ g.items }))) e
    ∙ ap (λ (b : Bool). cond b (record { further = l ∷ g.further; items = g.items }) (record { further = []; items = header (l ∷ g.further) ∷ g.items })) h

pub anew_none : (ls : List Line) → begins_anew ls ≡ true → (grouped ls).further ≡ []
anew_none [] h = refl
anew_none (l ∷ ls) h = elim (is_empty l.content) as (λ (b : Bool). is_empty l.content ≡ b → (put l (grouped ls)).further ≡ []) [
  | true ↦ λ e. ap (λ (g : Grouped). g.further) (put_empty l (grouped ls) e)
  | false ↦ λ e. ap (λ (g : Grouped). g.further) (put_header l (grouped ls) e (not-true _ h))
] refl

-- continuation lines before lines that begin anew
pub grouped_further : (f ls : List Line) → list_all (λ l. is_continuation l.content) f ≡ true → begins_anew ls ≡ true → ((grouped (f ++ ls)).further ≡ f) × ((grouped (f ++ ls)).items ≡ (grouped ls).items)
grouped_further [] ls h g = (anew_none ls g, refl)
grouped_further (l ∷ f) ls h g =
    let more = grouped_further f ls (and_parts _ _ h).1 g in
    let step = put_further l (grouped (f ++ ls)) (and_parts _ _ h).0 in (
      ap (λ (r : Grouped). r.further) step ∙ ap (λ (r : List Line). l ∷ r) more.0,
      ap (λ (r : Grouped). r.items) step ∙ more.1,
    )

-- where the lines of a header lead
pub bad_further : (at : ℕ) (f ls : List Line) → list_all (λ l. is_continuation l.content) f ≡ true → first_bad_line true at (f ++ ls) ≡ first_bad_line true (at + length (joined f)) ls
bad_further at [] ls h = let e : at + 0 ≡ at = omega arith in ap (λ (n : ℕ). first_bad_line true n ls) (sym e)
bad_further at (l ∷ f) ls h =
    let c : is_continuation l.content ≡ true = (and_parts _ _ h).0 in
    let e : is_empty l.content ≡ false = filled_further l.content c in
    let here : is_bad_line true l.content ≡ false = ap₂ (λ (x y : Bool). not x && not (cond y true (is_header_line l.content))) e c in
    let size : length (l.content ++ (end_bytes l.end ++ joined f)) ≡ length (l.content ++ end_bytes l.end) + length (joined f) =
    ap length (sym (append_assoc l.content (end_bytes l.end) (joined f))) ∙ length-append (l.content ++ end_bytes l.end) (joined f) in
    let next : (at + length (l.content ++ end_bytes l.end)) + length (joined f) ≡ at + length (l.content ++ (end_bytes l.end ++ joined f)) = omega (arith, size) in
    ap₂ (λ (x y : Bool). cond x (Some at) (first_bad_line (not y) (at + length (l.content ++ end_bytes l.end)) (f ++ ls))) here e
    ∙ bad_further (at + length (l.content ++ end_bytes l.end)) f ls (and_parts _ _ h).1
    ∙ ap (λ (n : ℕ). first_bad_line true n ls) next

same_anew : (content : Text) → is_continuation content ≡ false → is_bad_line true content ≡ is_bad_line false content
same_anew content h = ap (λ (b : Bool). not (is_empty content) && not (cond b true (is_header_line content))) h ∙ sym (ap (λ (b : Bool). not (is_empty content) && not (cond b false (is_header_line content))) h)

pub bad_anew : (at : ℕ) (ls : List Line) → begins_anew ls ≡ true → first_bad_line true at ls ≡ first_bad_line false at ls
bad_anew at [] h = refl
bad_anew at (l ∷ ls) h = ap (λ (b : Bool). cond b (Some at) (first_bad_line (not (is_empty l.content)) (at + length (l.content ++ end_bytes l.end)) ls)) (same_anew l.content (not-true _ h))

-- a header line is not bad, and neither is an empty one
pub bad_header : (at : ℕ) (l : Line) (ls : List Line) → is_header_line l.content ≡ true → first_bad_line false at (l ∷ ls) ≡ first_bad_line true (at + length (l.content ++ end_bytes l.end)) ls
bad_header at l ls h =
    let e : is_empty l.content ≡ false = filled_header l.content h in
    let here : is_bad_line false l.content ≡ false = ap₂ (λ (x y : Bool). not (is_empty l.content) && not (cond x false y)) (no_further l.content h) h ∙ and-false (not (is_empty l.content)) in
    ap₂ (λ (x y : Bool). cond x (Some at) (first_bad_line (not y) (at + length (l.content ++ end_bytes l.end)) ls)) here e

pub bad_empty : (at : ℕ) (l : Line) (ls : List Line) → is_empty l.content ≡ true → first_bad_line false at (l ∷ ls) ≡ first_bad_line false (at + length (l.content ++ end_bytes l.end)) ls
bad_empty at l ls h = ap (λ (b : Bool). cond (not b && not (cond (is_continuation l.content) false (is_header_line l.content))) (Some at) (first_bad_line (not b) (at + length (l.content ++ end_bytes l.end)) ls)) h

-- a line that is neither is bad
pub bad_other : (at : ℕ) (l : Line) (ls : List Line) → is_empty l.content ≡ false → is_header_line l.content ≡ false → first_bad_line false at (l ∷ ls) ≡ Some at
bad_other at l ls e h =
    let none : cond (is_continuation l.content) false (is_header_line l.content) ≡ false = ap (λ (b : Bool). cond (is_continuation l.content) false b) h ∙ neither (is_continuation l.content) in
    ap₂ (λ (x y : Bool). cond (not x && not y) (Some at) (first_bad_line (not (is_empty l.content)) (at + length (l.content ++ end_bytes l.end)) ls)) e none
  where
    neither : (b : Bool) → cond b false false ≡ false
    neither true = refl
    neither false = refl

pub last_is : (l : Line) (f : List Line) → last_end (l ∷ f) ≡ end_behind l.end f
last_is l [] = refl
last_is l (m ∷ f) = last_is m f

-- the bytes of folded lines
joined_further : (between last : LineEnd) (p : Text) (ps : List Text) → joined (further_lines between last (p ∷ ps)) ≡ 32 ∷ folded_bytes (end_bytes between) (end_bytes last) (p ∷ ps)
joined_further between last p [] = ap (λ (t : Text). 32 ∷ (p ++ t)) (append-nil (end_bytes last))
joined_further between last p (q ∷ ps) = ap (λ (t : Text). 32 ∷ (p ++ (end_bytes between ++ t))) (joined_further between last q ps)

pub joined_folded : (between last : LineEnd) (ps : List Text) → joined (folded_lines between last ps) ≡ folded_bytes (end_bytes between) (end_bytes last) ps
joined_folded between last [] = refl
joined_folded between last (p ∷ []) = ap (λ (t : Text). p ++ t) (append-nil (end_bytes last))
joined_folded between last (p ∷ q ∷ ps) = ap (λ (t : Text). p ++ (end_bytes between ++ t)) (joined_further between last q ps)
