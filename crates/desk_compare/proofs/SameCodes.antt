-- The test of two code arrays tells whether they are the same.
use Rattle.std.proofs.Common.{◌≡◌, ℕ, true, List, [], ◌∷◌, map, Option, Some, None, option_map, bytes_eq, refl, ap, ap₂, ◌∙◌}
use Rattle.std.proofs.lemmas.Bool.{and_parts, and_from, eqb-true, eq-eqb, false≢true}
use Rattle.std.proofs.lemmas.Slice.Eq.{bytes_eq-Decides}
use Rattle.desk_base.specs.Entries.{Pool}
use Rattle.desk_format.specs.Trees.{Tree}
use Rattle.desk_format.specs.Values.{Value, value_of}
use Rattle.desk_code.specs.declared.reader.Instruction.{Instruction}
use Rattle.desk_base.specs.declared.faults.CodeFault.{CodeFault}
use Rattle.desk_code.specs.Instructions.{instructions_of, plain_bytes}
use Rattle.desk_compare.specs.Free.{FreeInstruction, free_instruction, Leaf, code_or, free_code}
use Rattle.desk_compare.specs.Codes.{same_index, same_instruction, same_instructions, reads, by_reading, same_code}
use Rattle.desk_compare.proofs.SameValues.{within_true, within_from}

value_some : (v w : Value) → Some v ≡ Some w → v ≡ w
value_some v w h = cc

leaf_code_of : (xs ys : List FreeInstruction) → Tree.used (Leaf.code_of xs) ≡ Tree.used (Leaf.code_of ys) → xs ≡ ys
leaf_code_of xs ys h = cc

abbrev raw_code : List ℕ → Tree Leaf
raw_code s = Tree.code s

leaf_code : (s t : List ℕ) → raw_code s ≡ raw_code t → s ≡ t
leaf_code s t h = cc

module _ (left right : Pool) where
  index_true : (i j : Option ℕ) → same_index left right i j ≡ true → option_map (value_of left) i ≡ option_map (value_of right) j
  index_true None None h = refl
  index_true (Some i) (Some j) h = ap (λ (v : Value). Some v) (within_true left right 3 i j h)
  index_true None (Some j) h = absurd (false≢true h)
  index_true (Some i) None h = absurd (false≢true h)

  index_from : (i j : Option ℕ) → option_map (value_of left) i ≡ option_map (value_of right) j → same_index left right i j ≡ true
  index_from None None h = refl
  index_from (Some i) (Some j) h = within_from left right 3 i j (value_some _ _ h)
  index_from None (Some j) h = absurd cc
  index_from (Some i) None h = absurd cc

  module _ (s t : List ℕ) where
    instruction_true : (i j : Instruction) → same_instruction left right s t i j ≡ true → free_instruction left s i ≡ free_instruction right t j
    instruction_true i j h =
        let a = and_parts _ _ h in
        let b = and_parts _ _ a.1 in
        let c = and_parts _ _ b.1 in
        let p : i.at ≡ j.at = eqb-true _ _ a.0 in
        let q : i.opcode ≡ j.opcode = eqb-true _ _ b.0 in
        let r : plain_bytes s i ≡ plain_bytes t j = (bytes_eq-Decides _ _).0 c.0 in
        let v : option_map (value_of left) i.index ≡ option_map (value_of right) j.index = index_true i.index j.index c.1 in
        ap (λ (n : ℕ). record { at = n; opcode = i.opcode; bytes = plain_bytes s i; value = option_map (value_of left) i.index }) p
        ∙ ap (λ (n : ℕ). record { at = j.at; opcode = n; bytes = plain_bytes s i; value = option_map (value_of left) i.index }) q
        ∙ ap (λ (n : List ℕ). record { at = j.at; opcode = j.opcode; bytes = n; value = option_map (value_of left) i.index }) r
        ∙ ap (λ (n : Option Value). record { at = j.at; opcode = j.opcode; bytes = plain_bytes t j; value = n }) v

    instruction_from : (i j : Instruction) → free_instruction left s i ≡ free_instruction right t j → same_instruction left right s t i j ≡ true
    instruction_from i j h =
        and_from _ _ (eq-eqb _ _ (ap (λ (x : FreeInstruction). x.at) h))
        (and_from _ _ (eq-eqb _ _ (ap (λ (x : FreeInstruction). x.opcode) h))
        (and_from _ _ ((bytes_eq-Decides _ _).1 (ap (λ (x : FreeInstruction). x.bytes) h)) (index_from i.index j.index (ap (λ (x : FreeInstruction). x.value) h))))

    instructions_true : (is js : List Instruction) → same_instructions left right s t is js ≡ true → map (free_instruction left s) is ≡ map (free_instruction right t) js
    instructions_true [] [] h = refl
    instructions_true (i ∷ is) (j ∷ js) h =
        let a = and_parts _ _ h in
        ap₂ (λ (x : FreeInstruction) (xs : List FreeInstruction). x ∷ xs) (instruction_true i j a.0) (instructions_true is js a.1)
    instructions_true [] (j ∷ js) h = absurd (false≢true h)
    instructions_true (i ∷ is) [] h = absurd (false≢true h)

    first_same : (x y : FreeInstruction) (xs ys : List FreeInstruction) → (x ∷ xs) ≡ (y ∷ ys) → (x ≡ y) × (xs ≡ ys)
    first_same x y xs ys h = (cc, cc)

    instructions_from : (is js : List Instruction) → map (free_instruction left s) is ≡ map (free_instruction right t) js → same_instructions left right s t is js ≡ true
    instructions_from [] [] h = refl
    instructions_from (i ∷ is) (j ∷ js) h =
        let a = first_same _ _ _ _ h in
        and_from _ _ (instruction_from i j a.0) (instructions_from is js a.1)
    instructions_from [] (j ∷ js) h = absurd cc
    instructions_from (i ∷ is) [] h = absurd cc

    reading_true : (is js : List Instruction) (f g : Option CodeFault) → by_reading (reads f) (reads g) (same_instructions left right s t is js) (bytes_eq s t) ≡ true → code_or left s is f ≡ code_or right t js g
    reading_true is js None None h = ap (λ (xs : List FreeInstruction). Tree.used (Leaf.code_of xs)) (instructions_true is js h)
    reading_true is js (Some f) (Some g) h = ap raw_code ((bytes_eq-Decides _ _).0 h)
    reading_true is js None (Some g) h = absurd (false≢true h)
    reading_true is js (Some f) None h = absurd (false≢true h)

    reading_from : (is js : List Instruction) (f g : Option CodeFault) → code_or left s is f ≡ code_or right t js g → by_reading (reads f) (reads g) (same_instructions left right s t is js) (bytes_eq s t) ≡ true
    reading_from is js None None h = instructions_from is js (leaf_code_of _ _ h)
    reading_from is js (Some f) (Some g) h = (bytes_eq-Decides _ _).1 (leaf_code s t h)
    reading_from is js None (Some g) h = absurd cc
    reading_from is js (Some f) None h = absurd cc

    pub code_true : same_code left right s t ≡ true → free_code left s ≡ free_code right t
    unfolding free_code same_code
    code_true h = reading_true _ _ _ _ h

    pub code_from : free_code left s ≡ free_code right t → same_code left right s t ≡ true
    unfolding free_code same_code
    code_from h = reading_from (instructions_of left s).instructions (instructions_of right t).instructions (instructions_of left s).fault (instructions_of right t).fault h
