-- The first line of a text, by the first byte that is CR or LF.
use Rattle.std.proofs.Common.{◌≡◌, ℕ, zero, suc, ◌+◌, ◌<◌, ◌≤◌, Bool, true, false, cond, not, ◌&&◌, ◌||◌, ◌==◌, [], ◌∷◌, ◌++◌, length, take, drop, slice_index, refl, ap, sym, ◌∙◌, arith, take-append-drop, drop_of_length-le, le_refl, add-zero}
use Rattle.std.proofs.lemmas.List.{drop_more}
use Rattle.std.proofs.Math.Seq.{take-length}
use Rattle.std.proofs.lemmas.Bool.{and_from, and_parts, both_ways, eqb-true}
use Rattle.memchr.specs.Find.{is_byte2, Nowhere, Passes}
use Rattle.desk_base.specs.Names.{Text}
use Rattle.desk_lines.specs.declared.lines.LineEnd.{LineEnd}
use Rattle.desk_lines.specs.declared.lines.LineEnd.TheVariants as ends
use Rattle.desk_lines.specs.Lines.{line, end_bytes, joined, is_one_line, begins_lf, lines, rest, are_well_ended}
use Rattle.desk_lines.specs.FirstEnd.{IsFirstEnd}
use Rattle.desk_lines.proofs.LineLaws.{joined_lf, joined-lines, formed-lines, lines_content, lines_unended}

flat_byte : (b : ℕ) → ¬ (is_byte2 10 13 b ≡ true) → (not (b == 10) && not (b == 13)) ≡ true
flat_byte b h = elim (b == 10) as (λ (c : Bool). ¬ ((c || b == 13) ≡ true) → (not c && not (b == 13)) ≡ true) [
  | true ↦ λ g. absurd (g refl)
  | false ↦ λ g. elim (b == 13) as (λ (c : Bool). ¬ (c ≡ true) → not c ≡ true) [
    | true ↦ λ k. absurd (k refl)
    | false ↦ λ k. refl
  ] g
] h

pub flat_before : (t : Text) (i : ℕ) → Nowhere (Passes (is_byte2 10 13) t) 0 i → is_one_line (take i t) ≡ true
flat_before t zero h = refl
flat_before [] (suc i) h = refl
flat_before (b ∷ t) (suc i) h = and_from _ _ (flat_byte b (h 0 (omega arith) (omega arith))) (flat_before t i (λ k l u. h (suc k) (omega arith) (omega (arith, u))))

split_at : (t : Text) (i b : ℕ) → i < length t → slice_index t i ≡ b → t ≡ take i t ++ (b ∷ drop (i + 1) t)
split_at t i b h e = sym (take-append-drop i t) ∙ ap (λ (s : Text). take i t ++ s) (drop_more t i 0 h ∙ ap (λ (c : ℕ). c ∷ drop (i + 1) t) e)

pub first_lf : (t : Text) (i : ℕ) → i < length t → is_one_line (take i t) ≡ true → slice_index t i ≡ 10 → IsFirstEnd t i ends.Lf
first_lf t i h f e = record {
  inside = omega arith;
  further = omega arith;
  same = ap lines (split_at t i 10 h e) ∙ lines_content (take i t) (10 ∷ drop (i + 1) t) ends.Lf (lines (drop (i + 1) t)) f refl;
}

abbrev pub begins_10 : Text → Bool
begins_10 [] = false
begins_10 (b ∷ t) = b == 10

no_lf : (more : Text) → begins_10 more ≡ false → begins_lf (lines more) ≡ false
no_lf more h = elim (begins_lf (lines more)) as (λ (c : Bool). begins_lf (lines more) ≡ c → c ≡ false) [
  | true ↦ λ e. absurd (both_ways (begins_10 more) h (ap begins_10 (sym (joined-lines more) ∙ joined_lf (lines more) e)))
  | false ↦ λ e. refl
] refl

first_cr_at : (t : Text) (i : ℕ) → i < length t → is_one_line (take i t) ≡ true → slice_index t i ≡ 13 → begins_10 (drop (i + 1) t) ≡ false → IsFirstEnd t i ends.Cr
first_cr_at t i h f e n = record {
  inside = omega arith;
  further = omega arith;
  same = ap lines (split_at t i 13 h e)
      ∙ lines_content (take i t) (13 ∷ drop (i + 1) t) ends.Cr (lines (drop (i + 1) t)) f
      (ap (λ (c : Bool). cond c (line [] ends.CrLf ∷ rest (lines (drop (i + 1) t))) (line [] ends.Cr ∷ lines (drop (i + 1) t))) (no_lf (drop (i + 1) t) n));
}

pub first_crlf : (t : Text) (i : ℕ) → i + 1 < length t → is_one_line (take i t) ≡ true → slice_index t i ≡ 13 → slice_index t (i + 1) ≡ 10 → IsFirstEnd t i ends.CrLf
first_crlf t i h f e g =
    let next : drop (i + 1) t ≡ 10 ∷ drop (i + 2) t =
    drop_more t (i + 1) 0 h ∙ ap (λ (c : ℕ). c ∷ drop ((i + 1) + 1) t) g ∙ ap (λ (k : ℕ). 10 ∷ drop k t) (two i) in
    record {
      inside = omega (arith, h);
      further = omega arith;
      same = ap lines (split_at t i 13 (omega (arith, h)) e ∙ ap (λ (s : Text). take i t ++ (13 ∷ s)) next)
          ∙ lines_content (take i t) (13 ∷ 10 ∷ drop (i + 2) t) ends.CrLf (lines (drop (i + 2) t)) f refl;
    }
  where
    two : (k : ℕ) → (k + 1) + 1 ≡ k + 2
    two k = omega arith

pub first_cr : (t : Text) (i : ℕ) → i + 1 < length t → is_one_line (take i t) ≡ true → slice_index t i ≡ 13 → (slice_index t (i + 1) == 10) ≡ false → IsFirstEnd t i ends.Cr
first_cr t i h f e g = first_cr_at t i (omega (arith, h)) f e (ap begins_10 (drop_more t (i + 1) 0 h) ∙ g)

pub first_cr_last : (t : Text) (i : ℕ) → i < length t → length t ≤ i + 1 → is_one_line (take i t) ≡ true → slice_index t i ≡ 13 → IsFirstEnd t i ends.Cr
first_cr_last t i h k f e = first_cr_at t i h f e (ap begins_10 (drop_of_length-le t k))

pub first_open : (t : Text) → 0 < length t → is_one_line (take (length t) t) ≡ true → IsFirstEnd t (length t) ends.EndOfText
first_open [] h f = absurd (omega (arith, h))
first_open (b ∷ t) h f = record {
  inside = omega arith;
  further = omega arith;
  same = lines_unended b t (ap is_one_line (sym (take-length (b ∷ t))) ∙ f)
      ∙ ap (λ (s : Text). line s ends.EndOfText ∷ []) (sym (take-length (b ∷ t)))
      ∙ ap (λ (s : Text). line (take (length (b ∷ t)) (b ∷ t)) ends.EndOfText ∷ lines s) (sym (drop_of_length-le (b ∷ t) (le_refl (length (b ∷ t)))))
      ∙ ap (λ (n : ℕ). line (take (length (b ∷ t)) (b ∷ t)) ends.EndOfText ∷ lines (drop n (b ∷ t))) (sym (add-zero (length (b ∷ t))));
}

pub lf_from : (b : ℕ) → is_byte2 10 13 b ≡ true → (b == 13) ≡ false → b ≡ 10
lf_from b h e = elim (b == 10) as (λ (c : Bool). (b == 10) ≡ c → (c || b == 13) ≡ true → b ≡ 10) [
  | true ↦ λ k g. eqb-true b 10 k
  | false ↦ λ k g. absurd (both_ways (b == 13) e g)
] refl h

pub unequal : (b k : ℕ) → ¬ (b ≡ k) → (b == k) ≡ false
unequal b k h = elim (b == k) as (λ (c : Bool). (b == k) ≡ c → c ≡ false) [
  | true ↦ λ e. absurd (h (eqb-true b k e))
  | false ↦ λ e. refl
] refl

-- ---- a first line and what follows it

pub whole_line : (text content more : Text) (end : LineEnd) → lines text ≡ line content end ∷ lines more → text ≡ content ++ (end_bytes end ++ more)
whole_line text content more end same =
    sym (joined-lines text) ∙ ap joined same ∙ ap (λ (t : Text). content ++ (end_bytes end ++ t)) (joined-lines more)

pub one_line : (text content more : Text) (end : LineEnd) → lines text ≡ line content end ∷ lines more → is_one_line content ≡ true
one_line text content more end same = (and_parts _ _ (sym (ap are_well_ended same) ∙ formed-lines text)).0
