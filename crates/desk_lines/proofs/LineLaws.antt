-- A text is its lines joined, and well ended lines are those of their text.
use Rattle.std.proofs.Common.{◌≡◌, ℕ, Bool, true, false, cond, not, ◌&&◌, ◌==◌, List, [], ◌∷◌, ◌++◌, refl, ap, ◌∙◌, append-nil}
use Rattle.std.proofs.lemmas.Bool.{and_parts, and_from, not-true, eqb-true}
use Rattle.desk_base.specs.Names.{Text, is_empty}
use Rattle.desk_lines.specs.declared.lines.LineEnd.{LineEnd}
use Rattle.desk_lines.specs.declared.lines.LineEnd.TheVariants as ends
use Rattle.desk_lines.specs.Lines.{Line, line, end_bytes, joined, is_lf, begins_lf, rest, behind_byte, behind_cr, behind, lines, is_one_line, ends_well, are_well_ended}

lone_lf : (content : Text) (end : LineEnd) (ls : List Line) → (is_empty content && is_lf end) ≡ true → content ++ (end_bytes end ++ joined ls) ≡ 10 ∷ joined ls
lone_lf [] ends.EndOfText ls h = absurd cc
lone_lf [] ends.Lf ls h = refl
lone_lf [] ends.Cr ls h = absurd cc
lone_lf [] ends.CrLf ls h = absurd cc
lone_lf (b ∷ content) end ls h = absurd cc

pub joined_lf : (ls : List Line) → begins_lf ls ≡ true → joined ls ≡ 10 ∷ joined (rest ls)
joined_lf [] h = absurd cc
joined_lf (l ∷ ls) h = lone_lf l.content l.end ls h

joined_cr : (ls : List Line) (t : Bool) → begins_lf ls ≡ t → joined (cond t (line [] ends.CrLf ∷ rest ls) (line [] ends.Cr ∷ ls)) ≡ 13 ∷ joined ls
joined_cr ls true h = ap (λ (s : Text). 13 ∷ s) (rw (joined_lf ls h) refl)
joined_cr ls false h = refl

joined_byte : (b : ℕ) (ls : List Line) → joined (behind_byte b ls) ≡ b ∷ joined ls
joined_byte b [] = refl
joined_byte b (l ∷ ls) = refl

joined_behind : (b : ℕ) (ls : List Line) → joined (behind b ls) ≡ b ∷ joined ls
joined_behind b ls = elim (b == 10) as (λ (t : Bool). (b == 10) ≡ t → joined (cond t (line [] ends.Lf ∷ ls) (cond (b == 13) (behind_cr ls) (behind_byte b ls))) ≡ b ∷ joined ls) [
  | true ↦ λ h. rw (eqb-true b 10 h) refl
  | false ↦ λ g. elim (b == 13) as (λ (t : Bool). (b == 13) ≡ t → joined (cond t (behind_cr ls) (behind_byte b ls)) ≡ b ∷ joined ls) [
    | true ↦ λ h. rw (eqb-true b 13 h) (joined_cr ls (begins_lf ls) refl)
    | false ↦ λ h. joined_byte b ls
  ] refl
] refl

-- a text is its lines joined
pub joined-lines : (t : Text) → joined (lines t) ≡ t
joined-lines [] = refl
joined-lines (b ∷ t) = joined_behind b (lines t) ∙ ap (λ (s : Text). b ∷ s) (joined-lines t)

formed_cr : (ls : List Line) (t : Bool) → begins_lf ls ≡ t → are_well_ended ls ≡ true → are_well_ended (cond t (line [] ends.CrLf ∷ rest ls) (line [] ends.Cr ∷ ls)) ≡ true
formed_cr [] true g h = absurd cc
formed_cr (l ∷ ls) true g h = (and_parts _ _ (and_parts _ _ h).1).1
formed_cr ls false g h = and_from _ _ (ap not g) h

ends_longer : (b : ℕ) (content : Text) (end : LineEnd) (ls : List Line) → ends_well content end ls ≡ true → ends_well (b ∷ content) end ls ≡ true
ends_longer b content ends.EndOfText ls h = (and_parts _ _ h).1
ends_longer b content ends.Lf ls h = refl
ends_longer b content ends.Cr ls h = h
ends_longer b content ends.CrLf ls h = refl

formed_byte : (b : ℕ) (ls : List Line) → (not (b == 10) && not (b == 13)) ≡ true → are_well_ended ls ≡ true → are_well_ended (behind_byte b ls) ≡ true
formed_byte b [] g h = and_from _ _ (and_from _ _ g refl) refl
formed_byte b (l ∷ ls) g h = and_from _ _ (and_from _ _ g (and_parts _ _ h).0) (and_from _ _ (ends_longer b l.content l.end ls (and_parts _ _ (and_parts _ _ h).1).0) (and_parts _ _ (and_parts _ _ h).1).1)

formed_behind : (b : ℕ) (ls : List Line) → are_well_ended ls ≡ true → are_well_ended (behind b ls) ≡ true
formed_behind b ls k = elim (b == 10) as (λ (t : Bool). (b == 10) ≡ t → are_well_ended (cond t (line [] ends.Lf ∷ ls) (cond (b == 13) (behind_cr ls) (behind_byte b ls))) ≡ true) [
  | true ↦ λ h. k
  | false ↦ λ g. elim (b == 13) as (λ (t : Bool). (b == 13) ≡ t → are_well_ended (cond t (behind_cr ls) (behind_byte b ls)) ≡ true) [
    | true ↦ λ h. formed_cr ls (begins_lf ls) refl k
    | false ↦ λ h. formed_byte b ls (and_from _ _ (ap not g) (ap not h)) k
  ] refl
] refl

pub formed-lines : (t : Text) → are_well_ended (lines t) ≡ true
formed-lines [] = refl
formed-lines (b ∷ t) = formed_behind b (lines t) (formed-lines t)

behind_flat : (b : ℕ) (ls : List Line) → (not (b == 10) && not (b == 13)) ≡ true → behind b ls ≡ behind_byte b ls
behind_flat b ls h =
    let e : (b == 10) ≡ false = not-true _ (and_parts _ _ h).0 in
    let g : (b == 13) ≡ false = not-true _ (and_parts _ _ h).1 in
    ap (λ (t : Bool). cond t (line [] ends.Lf ∷ ls) (cond (b == 13) (behind_cr ls) (behind_byte b ls))) e
    ∙ ap (λ (t : Bool). cond t (behind_cr ls) (behind_byte b ls)) g

pub lines_content : (content : Text) (more : Text) (end : LineEnd) (ls : List Line) → is_one_line content ≡ true → lines more ≡ line [] end ∷ ls → lines (content ++ more) ≡ line content end ∷ ls
lines_content [] more end ls h k = k
lines_content (b ∷ content) more end ls h k = behind_flat b (lines (content ++ more)) (and_parts _ _ h).0 ∙ ap (behind_byte b) (lines_content content more end ls (and_parts _ _ h).1 k)

pub lines_unended : (b : ℕ) (content : Text) → is_one_line (b ∷ content) ≡ true → lines (b ∷ content) ≡ line (b ∷ content) ends.EndOfText ∷ []
lines_unended b [] h = behind_flat b [] (and_parts _ _ h).0
lines_unended b (c ∷ content) h = behind_flat b (lines (c ∷ content)) (and_parts _ _ h).0 ∙ ap (behind_byte b) (lines_unended c content (and_parts _ _ h).1)

lines_line : (content : Text) (end : LineEnd) (ls : List Line) → is_one_line content ≡ true → ends_well content end ls ≡ true → lines (joined ls) ≡ ls → lines (content ++ (end_bytes end ++ joined ls)) ≡ line content end ∷ ls
lines_line [] ends.EndOfText ls h g k = absurd cc
lines_line (b ∷ content) ends.EndOfText [] h g k = ap (λ (t : Text). lines (b ∷ t)) (append-nil content) ∙ lines_unended b content h
lines_line (b ∷ content) ends.EndOfText (l ∷ ls) h g k = absurd cc
lines_line content ends.Lf ls h g k = lines_content content (10 ∷ joined ls) ends.Lf ls h (ap (λ (r : List Line). line [] ends.Lf ∷ r) k)
lines_line content ends.Cr ls h g k = lines_content content (13 ∷ joined ls) ends.Cr ls h (ap behind_cr k ∙ ap (λ (t : Bool). cond t (line [] ends.CrLf ∷ rest ls) (line [] ends.Cr ∷ ls)) (not-true (begins_lf ls) g))
lines_line content ends.CrLf ls h g k = lines_content content (13 ∷ 10 ∷ joined ls) ends.CrLf ls h (ap (λ (r : List Line). line [] ends.CrLf ∷ r) k)

-- well ended lines are those of their text
pub lines-joined : (ls : List Line) → are_well_ended ls ≡ true → lines (joined ls) ≡ ls
lines-joined [] h = refl
lines-joined (l ∷ ls) h = lines_line l.content l.end ls (and_parts _ _ h).0 (and_parts _ _ (and_parts _ _ h).1).0 (lines-joined ls (and_parts _ _ (and_parts _ _ h).1).1)
