-- Two code arrays, an instruction of both at a time.
use Rattle.std.proofs.Common.{◌≡◌, ℕ, ◌+◌, ◌<◌, ◌≤◌, Bool, true, false, ◌&&◌, nat_eq, List, [], ◌∷◌, length, take, drop, Option, Some, None, Ok, IfSome, bytes_eq, refl, sym, ap, ap₂, subst, ◌∙◌, arith}
use Rattle.std.specs.Int.{w8, w16, from_be_bytes}
use Rattle.std.proofs.lemmas.Bool.{and_parts, and_from, eq-eqb, le-ltb, true≢false, false≢true}
use Rattle.std.proofs.lemmas.List.{drop-drop, drop-take}
use Rattle.std.proofs.lemmas.Slice.Eq.{bytes_eq-Decides}
use Rattle.desk_base.specs.Entries.{Pool, tag_at}
use Rattle.desk_code.specs.declared.opcodes.Operand.{Operand}
use Rattle.desk_code.specs.declared.opcodes.Shape.TheVariants as shapes
use Rattle.desk_code.specs.declared.reader.Instruction.{Instruction}
use Rattle.desk_code.specs.Opcodes.{is_named, shape_of, index_size}
use Rattle.desk_code.specs.Instructions.{Instructions, Reading, instruction, within, checked, shaped, instruction_at, instructions_from, instructions_of, plain_bytes}
use Rattle.desk_code.proofs.OneByOne.{at_step, at_end}
use Rattle.desk_compare.specs.Values.{same_value, tag_number}
use Rattle.desk_compare.specs.Codes.{same_index, same_instruction, same_instructions, reads, by_reading, same_code, read_alike, IsOperand, IsStep}
use Rattle.desk_compare.proofs.Agreements.{of_tags, tags_same}

-- ---- lists

bytes_same : (s t : List ℕ) → s ≡ t → bytes_eq s t ≡ true
bytes_same s t h = (bytes_eq-Decides s t).1 h

-- ---- one instruction of both

module _ (left right : Pool) (code other : List ℕ) (at : ℕ) where
  abbrev rest : Pool → List ℕ → ℕ → Instructions
  rest pool bytes n = instructions_from pool n 0 (drop n bytes)

  behind : (pool : Pool) (bytes : List ℕ) (b : ℕ) (bs : List ℕ) (i : Instruction) → drop at bytes ≡ b ∷ bs → instruction_at pool at b bs ≡ Ok i → 0 < i.size → i.size ≤ 1 + length bs
      → rest pool bytes at ≡ record { instructions = i ∷ (rest pool bytes (at + i.size)).instructions; fault = (rest pool bytes (at + i.size)).fault }
  behind pool bytes b bs i h e some fits =
      at_step pool at b (drop at bytes) bs i h e some fits
      ∙ ap (λ (s : List ℕ). record { instructions = i ∷ (instructions_from pool (at + i.size) 0 s).instructions; fault = (instructions_from pool (at + i.size) 0 s).fault }) (drop-drop i.size at bytes)

  step_of : (b c : ℕ) (bs cs : List ℕ) (i j : Instruction) → drop at code ≡ b ∷ bs → drop at other ≡ c ∷ cs → instruction_at left at b bs ≡ Ok i → instruction_at right at c cs ≡ Ok j
      → 0 < i.size → i.size ≤ 1 + length bs → j.size ≡ i.size → j.size ≤ 1 + length cs → same_instruction left right code other i j ≡ true
      → read_alike left right code other (at + i.size) ≡ true → read_alike left right code other at ≡ true
  unfolding read_alike
  step_of b c bs cs i j p q e f some fits size fits' same h =
      let some' : 0 < j.size = omega arith in
      let x = behind left code b bs i p e some fits in
      let y : rest right other at ≡ record { instructions = j ∷ (rest right other (at + i.size)).instructions; fault = (rest right other (at + i.size)).fault } =
      behind right other c cs j q f some' fits' ∙ ap (λ (n : ℕ). record { instructions = j ∷ (rest right other (at + n)).instructions; fault = (rest right other (at + n)).fault }) size in
      let k = and_parts _ _ h in
      let l = and_parts _ _ k.1 in
      rw (x, y) (and_from _ _ k.0 (and_from _ _ l.0 (and_from _ _ same l.1)))

-- ---- by the shape of its opcode

within_ok : (at n : ℕ) (bs : List ℕ) (r : Reading) → n ≤ length bs → within at n bs r ≡ r
within_ok at n bs r h = rw (le-ltb (length bs) n h) refl

checked_ok : (pool : Pool) (operand : Operand) (at b size index : ℕ) → is_named operand (tag_at pool index) ≡ true → checked pool operand at b size index ≡ Ok (instruction at b size (Some index))
checked_ok pool operand at b size index h = rw h refl

plain_at : (pool : Pool) (at b n : ℕ) (bs : List ℕ) → shape_of b ≡ Some (shapes.Bytes n) → n ≤ length bs → instruction_at pool at b bs ≡ Ok (instruction at b (1 + n) None)
unfolding instruction_at
plain_at pool at b n bs h room = ap (shaped pool at b bs) h ∙ within_ok at n bs (Ok (instruction at b (1 + n) None)) room

byte_at : (pool : Pool) (operand : Operand) (at b : ℕ) (bs : List ℕ) → shape_of b ≡ Some (shapes.ByteIndex operand) → 1 ≤ length bs → is_named operand (tag_at pool (from_be_bytes w8 (take 1 bs))) ≡ true
    → instruction_at pool at b bs ≡ Ok (instruction at b 2 (Some (from_be_bytes w8 (take 1 bs))))
unfolding instruction_at
byte_at pool operand at b bs h room named =
    ap (shaped pool at b bs) h ∙ within_ok at 1 bs (checked pool operand at b 2 (from_be_bytes w8 (take 1 bs))) room ∙ checked_ok pool operand at b 2 (from_be_bytes w8 (take 1 bs)) named

index_at : (pool : Pool) (operand : Operand) (n at b : ℕ) (bs : List ℕ) → shape_of b ≡ Some (shapes.Index operand n) → 2 + n ≤ length bs → is_named operand (tag_at pool (from_be_bytes w16 (take 2 bs))) ≡ true
    → instruction_at pool at b bs ≡ Ok (instruction at b (3 + n) (Some (from_be_bytes w16 (take 2 bs))))
unfolding instruction_at
index_at pool operand n at b bs h room named =
    ap (shaped pool at b bs) h ∙ within_ok at (2 + n) bs (checked pool operand at b (3 + n) (from_be_bytes w16 (take 2 bs))) room ∙ checked_ok pool operand at b (3 + n) (from_be_bytes w16 (take 2 bs)) named

-- the bytes behind an index of so many bytes
plain_is : (code : List ℕ) (at b k m : ℕ) (bs : List ℕ) (index : Option ℕ) → drop at code ≡ b ∷ bs → index_size (shape_of b) ≡ k → plain_bytes code (instruction at b (1 + k + m) index) ≡ take m (drop (1 + k) (b ∷ bs))
plain_is code at b k m bs index h size =
    ap₂ (λ (x : ℕ) (y : List ℕ). drop (1 + x) (take (1 + k + m) y)) size h ∙ drop-take (1 + k) m (b ∷ bs)

same_of : (left right : Pool) (code other : List ℕ) (at b size : ℕ) (i j : Option ℕ) → plain_bytes code (instruction at b size i) ≡ plain_bytes other (instruction at b size j) → same_index left right i j ≡ true
    → same_instruction left right code other (instruction at b size i) (instruction at b size j) ≡ true
same_of left right code other at b size i j p h =
    and_from _ _ (eq-eqb at at refl) (and_from _ _ (eq-eqb b b refl) (and_from _ _ (bytes_same _ _ p) h))

-- the tags of two indices that lead to the same value
pub tag_same : (left right : Pool) (i j : ℕ) → same_value left right i j ≡ true → tag_at left i ≡ tag_at right j
tag_same left right i j h = by (nat_eq (tag_number (tag_at left i)) (tag_number (tag_at right j))) refl where
  by : (b : Bool) → b ≡ nat_eq (tag_number (tag_at left i)) (tag_number (tag_at right j)) → tag_at left i ≡ tag_at right j
  by true e = tags_same left right i j (sym e)
  by false e = absurd (true≢false (sym h ∙ of_tags left right i j 3 (omega arith) (sym e)))

module _ (left right : Pool) (b : ℕ) (bs cs : List ℕ) where
  pub plain_step : (n : ℕ) → shape_of b ≡ Some (shapes.Bytes n) → n ≤ length bs → n ≤ length cs → take n bs ≡ take n cs → IsStep left right (b ∷ bs) (b ∷ cs) (1 + n)
  plain_step n h room room' same = (
    omega arith,
    omega arith,
    omega arith,
    λ code other at p q.
        let k : index_size (shape_of b) ≡ 0 = ap index_size h in
        let x : plain_bytes code (instruction at b (1 + n) None) ≡ take n bs = plain_is code at b 0 n bs None p k in
        let y : plain_bytes other (instruction at b (1 + n) None) ≡ take n cs = plain_is other at b 0 n cs None q k in
        step_of left right code other at b b bs cs (instruction at b (1 + n) None) (instruction at b (1 + n) None) p q (plain_at left at b n bs h room) (plain_at right at b n cs h room')
        (omega arith) (omega arith) refl (omega arith) (same_of left right code other at b (1 + n) None None (x ∙ same ∙ sym y) refl),
  )

  pub byte_step : (operand : Operand) → shape_of b ≡ Some (shapes.ByteIndex operand) → 1 ≤ length bs → 1 ≤ length cs
      → IsOperand left right operand (from_be_bytes w8 (take 1 bs)) (from_be_bytes w8 (take 1 cs)) → IsStep left right (b ∷ bs) (b ∷ cs) 2
  byte_step operand h room room' o = (
    omega arith,
    omega arith,
    omega arith,
    λ code other at p q.
        let i : ℕ = from_be_bytes w8 (take 1 bs) in
        let j : ℕ = from_be_bytes w8 (take 1 cs) in
        let k : index_size (shape_of b) ≡ 1 = ap index_size h in
        let x : plain_bytes code (instruction at b 2 (Some i)) ≡ [] = plain_is code at b 1 0 bs (Some i) p k in
        let y : plain_bytes other (instruction at b 2 (Some j)) ≡ [] = plain_is other at b 1 0 cs (Some j) q k in
        let named : is_named operand (tag_at right j) ≡ true = ap (is_named operand) (sym (tag_same left right i j o.1)) ∙ o.0 in
        step_of left right code other at b b bs cs (instruction at b 2 (Some i)) (instruction at b 2 (Some j)) p q (byte_at left operand at b bs h room o.0) (byte_at right operand at b cs h room' named)
        (omega arith) (omega arith) refl (omega arith) (same_of left right code other at b 2 (Some i) (Some j) (x ∙ sym y) o.1),
  )

  pub index_step : (operand : Operand) (n : ℕ) → shape_of b ≡ Some (shapes.Index operand n) → 2 + n ≤ length bs → 2 + n ≤ length cs
      → IsOperand left right operand (from_be_bytes w16 (take 2 bs)) (from_be_bytes w16 (take 2 cs)) → take n (drop 2 bs) ≡ take n (drop 2 cs) → IsStep left right (b ∷ bs) (b ∷ cs) (3 + n)
  index_step operand n h room room' o same = (
    omega arith,
    omega arith,
    omega arith,
    λ code other at p q.
        let i : ℕ = from_be_bytes w16 (take 2 bs) in
        let j : ℕ = from_be_bytes w16 (take 2 cs) in
        let k : index_size (shape_of b) ≡ 2 = ap index_size h in
        let x : plain_bytes code (instruction at b (3 + n) (Some i)) ≡ take n (drop 2 bs) = plain_is code at b 2 n bs (Some i) p k in
        let y : plain_bytes other (instruction at b (3 + n) (Some j)) ≡ take n (drop 2 cs) = plain_is other at b 2 n cs (Some j) q k in
        let named : is_named operand (tag_at right j) ≡ true = ap (is_named operand) (sym (tag_same left right i j o.1)) ∙ o.0 in
        step_of left right code other at b b bs cs (instruction at b (3 + n) (Some i)) (instruction at b (3 + n) (Some j)) p q (index_at left operand n at b bs h room o.0) (index_at right operand n at b cs h room' named)
        (omega arith) (omega arith) refl (omega arith) (same_of left right code other at b (3 + n) (Some i) (Some j) (x ∙ same ∙ sym y) o.1),
  )

-- ---- all of them

module _ (left right : Pool) (s t : List ℕ) where
  -- at the end of both
  pub read_end : (at : ℕ) → drop at s ≡ [] → drop at t ≡ [] → read_alike left right s t at ≡ true
  unfolding read_alike
  read_end at p q =
      rw (at_end left at (drop at s) (ap length p), at_end right at (drop at t) (ap length q)) refl

  by_read : (a b m n : Bool) → (a && (b && m)) ≡ true → by_reading a b m n ≡ true
  by_read true true m n h = h
  by_read true false m n h = absurd (false≢true h)
  by_read false b m n h = absurd (false≢true h)

  -- from the first byte on
  pub read_all : read_alike left right s t 0 ≡ true → same_code left right s t ≡ true
  unfolding read_alike same_code
  read_all h =
      by_read (reads (instructions_of left s).fault) (reads (instructions_of right t).fault) (same_instructions left right s t (instructions_of left s).instructions (instructions_of right t).instructions) (bytes_eq s t) h

-- Both code arrays from a place on, with what the instructions from there on tell of all.
pub record Behind (left right : Pool) (code other one rest : List ℕ) : Type 0 where
  pub at : ℕ
  pub one_is : one ≡ drop at code
  pub rest_is : rest ≡ drop at other
  pub all : read_alike left right code other at ≡ true → read_alike left right code other 0 ≡ true

pub start : (left right : Pool) (code other : List ℕ) → Behind left right code other code other
start left right code other = record { at = 0; one_is = refl; rest_is = refl; all = λ h. h }

pub further : (left right : Pool) (code other one rest ones rests : List ℕ) (n : ℕ) → Behind left right code other one rest → IsStep left right one rest n → ones ≡ drop n one → rests ≡ drop n rest → Behind left right code other ones rests
further left right code other one rest ones rests n b step p q = record {
  at = b.at + n;
  one_is = p ∙ ap (drop n) b.one_is ∙ drop-drop n b.at code;
  rest_is = q ∙ ap (drop n) b.rest_is ∙ drop-drop n b.at other;
  all = λ h. b.all (step.3 code other b.at (sym b.one_is) (sym b.rest_is) h);
}

none_left : (s : List ℕ) → length s ≡ 0 → s ≡ []
none_left [] h = refl
none_left (x ∷ s) h = absurd (omega arith)

pub done : (left right : Pool) (code other one rest : List ℕ) → Behind left right code other one rest → length one ≡ 0 → length rest ≡ 0 → same_code left right code other ≡ true
done left right code other one rest b p q =
    read_all left right code other (b.all (read_end left right code other b.at (sym b.one_is ∙ none_left one p) (sym b.rest_is ∙ none_left rest q)))

-- ---- as the code has them

pub operand_is : (left right : Pool) (operand : Operand) (i j x y : ℕ) → i ≡ x → j ≡ y → IsOperand left right operand i j → IsOperand left right operand x y
operand_is left right operand i j x y p q h = subst (λ (n : ℕ). IsOperand left right operand n y) p (subst (λ (n : ℕ). IsOperand left right operand i n) q h)

module _ (left right : Pool) (b : ℕ) (bs cs : List ℕ) where
  pub plain_found : (n : ℕ) (r : Option ℕ) → shape_of b ≡ Some (shapes.Bytes n) → IfSome r (λ size. size ≡ 1 + n) → IfSome r (λ size. n ≤ length bs) → IfSome r (λ size. n ≤ length cs) → IfSome r (λ size. take n bs ≡ take n cs)
      → IfSome r (IsStep left right (b ∷ bs) (b ∷ cs))
  plain_found n None h size room room' same = tt
  plain_found n (Some k) h size room room' same = subst (IsStep left right (b ∷ bs) (b ∷ cs)) (sym size) (plain_step left right b bs cs n h room room' same)

  pub byte_found : (operand : Operand) (r : Option ℕ) → shape_of b ≡ Some (shapes.ByteIndex operand) → IfSome r (λ size. size ≡ 2) → IfSome r (λ size. 1 ≤ length bs) → IfSome r (λ size. 1 ≤ length cs)
      → IfSome r (λ size. IsOperand left right operand (from_be_bytes w8 (take 1 bs)) (from_be_bytes w8 (take 1 cs))) → IfSome r (IsStep left right (b ∷ bs) (b ∷ cs))
  byte_found operand None h size room room' o = tt
  byte_found operand (Some k) h size room room' o = subst (IsStep left right (b ∷ bs) (b ∷ cs)) (sym size) (byte_step left right b bs cs operand h room room' o)

  pub index_found : (operand : Operand) (n : ℕ) (r : Option ℕ) → shape_of b ≡ Some (shapes.Index operand n) → IfSome r (λ size. size ≡ 3 + n) → IfSome r (λ size. 2 + n ≤ length bs) → IfSome r (λ size. 2 + n ≤ length cs)
      → IfSome r (λ size. IsOperand left right operand (from_be_bytes w16 (take 2 bs)) (from_be_bytes w16 (take 2 cs))) → IfSome r (λ size. take n (drop 2 bs) ≡ take n (drop 2 cs)) → IfSome r (IsStep left right (b ∷ bs) (b ∷ cs))
  index_found operand n None h size room room' o same = tt
  index_found operand n (Some k) h size room room' o same = subst (IsStep left right (b ∷ bs) (b ∷ cs)) (sym size) (index_step left right b bs cs operand n h room room' o same)
