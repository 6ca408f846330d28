-- Code in a new pool: the same instructions, and renamed values.
use Rattle.std.proofs.Common.{◌≡◌, ℕ, zero, suc, ◌+◌, ◌-◌, ◌*◌, ◌<◌, ◌≤◌, Bool, true, false, cond, nat_lt, nat_le, List, [], ◌∷◌, length, take, get_or, map, Option, Some, None, option_map, IfSome, Ok, Err, refl, sym, ap, ◌∙◌, arith, inl, inr}
use Rattle.std.specs.Int.{w8, w16, from_be_bytes}
use Rattle.std.specs.List.{AllByRecursion}
use Rattle.std.proofs.lemmas.Bool.{cases_lt}
use Rattle.std.proofs.lemmas.List.{get_or-drop, get_or_past}
use Rattle.desk_base.specs.Names.{Text}
use Rattle.desk_base.specs.declared.kinds.Tag.{Tag}
use Rattle.desk_base.specs.declared.kinds.Tag.TheVariants as tags
use Rattle.desk_base.specs.declared.kinds.Used.{Used}
use Rattle.desk_base.specs.Entries.{Entry, Pool, tag_at, tag_of}
use Rattle.desk_format.specs.Split.{entry_of}
use Rattle.desk_format.specs.NewPool.{added}
use Rattle.desk_format.specs.Values.{value_of}
use Rattle.desk_format.specs.Resolved.{Images, renamed_value}
use Rattle.desk_laws.specs.NewPools.{IsNewPool}
use Rattle.desk_code.specs.declared.opcodes.Operand.{Operand}
use Rattle.desk_code.specs.declared.opcodes.Operand.TheVariants as operands
use Rattle.desk_code.specs.declared.opcodes.Shape.{Shape}
use Rattle.desk_code.specs.declared.opcodes.Shape.TheVariants as shapes
use Rattle.desk_code.specs.declared.reader.Instruction.{Instruction}
use Rattle.desk_base.specs.declared.faults.CodeFault.TheVariants as faults
use Rattle.desk_code.specs.Opcodes.{is_named, shape_of, wide_size}
use Rattle.desk_code.specs.Instructions.{Reading, within, checked, wide, widened, tabled, paired, shaped, instruction_at, Instructions, goes_on, instructions_from, instruction}

-- ---- no instruction names a text

no_text : (operand : Operand) → is_named operand (Some tags.Utf8) ≡ false
no_text operands.Loadable = refl
no_text operands.WideLoadable = refl
no_text operands.Field = refl
no_text operands.Method = refl
no_text operands.AnyMethod = refl
no_text operands.InterfaceMethod = refl
no_text operands.CallSite = refl
no_text operands.Class = refl

among_texts : (operand : Operand) (ts : List Text) (k : ℕ) → is_named operand (option_map tag_of (get_or (map entry_of ts) k None)) ≡ false
among_texts operand [] k = refl
among_texts operand (t ∷ ts) zero = no_text operand
among_texts operand (t ∷ ts) (suc k) = among_texts operand ts k

module _ (im : Images) (old new : Pool) (us : List Used) (h : IsNewPool im old us new) where
  behind : (operand : Operand) (i : ℕ) → length old < i → is_named operand (tag_at new i) ≡ is_named operand (tag_at old i)
  behind operand zero lt = absurd (omega arith)
  behind operand (suc j) lt =
      let past : get_or old j None ≡ None = get_or_past old j None (omega arith) in
      let k : length old + (j - length old) ≡ j = omega arith in
      let there : get_or new j None ≡ get_or (map entry_of (added im old us)) (j - length old) None =
      ap (λ (n : ℕ). get_or new n None) (sym k) ∙ sym (get_or-drop (length old) new (j - length old) None) ∙ ap (λ (xs : Pool). get_or xs (j - length old) None) h.appended in
      ap (λ (o : Option Entry). is_named operand (option_map tag_of o)) there
      ∙ among_texts operand (added im old us) (j - length old)
      ∙ sym (ap (λ (o : Option Entry). is_named operand (option_map tag_of o)) past)

  same_named : (operand : Operand) (i : ℕ) → is_named operand (tag_at new i) ≡ is_named operand (tag_at old i)
  same_named operand i =
      elim (cases_lt (length old) i) [
        | inl lt ↦ behind operand i lt
        | inr le ↦ ap (is_named operand) (h.same_tags i le)
      ]

  same_checked : (operand : Operand) (at opcode size i : ℕ) → checked new operand at opcode size i ≡ checked old operand at opcode size i
  same_checked operand at opcode size i = rw (same_named operand i) refl

  same_shaped : (at opcode : ℕ) (s : List ℕ) (shape : Option Shape) → shaped new at opcode s shape ≡ shaped old at opcode s shape
  same_shaped at opcode s (Some (shapes.ByteIndex operand)) = ap (within at 1 s) (same_checked operand at opcode 2 (from_be_bytes w8 (take 1 s)))
  same_shaped at opcode s (Some (shapes.Index operand n)) = ap (within at (2 + n) s) (same_checked operand at opcode (3 + n) (from_be_bytes w16 (take 2 s)))
  same_shaped at opcode s _ = refl

  same_instruction : (at b : ℕ) (s : List ℕ) → instruction_at new at b s ≡ instruction_at old at b s
  unfolding instruction_at
  same_instruction at b s = same_shaped at b s (shape_of b)

  same_goes_on : (r : Reading) (f g : ℕ → Instructions) → ((n : ℕ) → f n ≡ g n) → goes_on r f ≡ goes_on r g
  same_goes_on (Ok i) f g e = ap (λ (c : Instructions). record { instructions = i ∷ c.instructions; fault = c.fault }) (e (i.size - 1))
  same_goes_on (Err x) f g e = refl

  pub same_instructions : (at skip : ℕ) (s : List ℕ) → instructions_from new at skip s ≡ instructions_from old at skip s
  unfolding instructions_from
  same_instructions at skip [] = refl
  same_instructions at (suc skip) (b ∷ s) = same_instructions (at + 1) skip s
  same_instructions at zero (b ∷ s) =
      ap (λ (r : Reading). goes_on r (λ skip. instructions_from new (at + 1) skip s)) (same_instruction at b s)
      ∙ same_goes_on (instruction_at old at b s) (λ skip. instructions_from new (at + 1) skip s) (λ skip. instructions_from old (at + 1) skip s) (λ skip. same_instructions (at + 1) skip s)

  -- ---- values

  -- an index that some operand names
  abbrev pub IsLed : Instruction → Type 0
  IsLed i = IfSome i.index (λ n. value_of new n ≡ renamed_value im (value_of old n))

  text_or : (operand : Operand) (o : Option Tag) → is_named operand o ≡ true → o ≡ Some tags.Utf8 → ⊥
  text_or operand o named is = let no : is_named operand o ≡ false = ap (is_named operand) is ∙ no_text operand in absurd cc

  none_past : (operand : Operand) (i : ℕ) → is_named operand (tag_at old i) ≡ true → i ≤ length old
  none_past operand zero named = omega arith
  none_past operand (suc j) named =
      elim (cases_lt (length old) (suc j)) [
        | inl lt ↦
            let past : get_or old j None ≡ None = get_or_past old j None (omega arith) in
            let no : is_named operand (tag_at old (suc j)) ≡ false = ap (λ (o : Option Entry). is_named operand (option_map tag_of o)) past in
            absurd cc
        | inr le ↦ le
      ]

  renames_at : (operand : Operand) (i : ℕ) → is_named operand (tag_at old i) ≡ true → value_of new i ≡ renamed_value im (value_of old i)
  renames_at operand i named = h.same_values i (none_past operand i named) (text_or operand (tag_at old i) named)

  abbrev RenamesIn : Reading → Type 0
  RenamesIn (Ok i) = IsLed i
  RenamesIn (Err f) = Unit {0}

  in_within : (at n : ℕ) (s : List ℕ) (r : Reading) → RenamesIn r → RenamesIn (within at n s r)
  in_within at n s r k = elim (nat_lt (length s) n) as (λ (x : Bool). RenamesIn (cond x (Err (faults.UnexpectedEnd at)) r)) [ true ↦ tt | false ↦ k ]

  in_checked : (operand : Operand) (at opcode size i : ℕ) → RenamesIn (checked old operand at opcode size i)
  in_checked operand at opcode size i = by (is_named operand (tag_at old i)) refl where
    by : (x : Bool) → is_named operand (tag_at old i) ≡ x → RenamesIn (cond x (Ok (instruction at opcode size (Some i))) (Err (faults.Operand (at + 1))))
    by true e = renames_at operand i e
    by false e = tt

  in_wide : (at opcode : ℕ) (s : List ℕ) (n : Option ℕ) → RenamesIn (wide at opcode s n)
  in_wide at opcode s None = tt
  in_wide at opcode s (Some n) = in_within at n s _ tt

  in_widened : (at opcode : ℕ) (s : List ℕ) → RenamesIn (widened at opcode s)
  in_widened at opcode [] = tt
  in_widened at opcode (b ∷ s) = in_wide at opcode s (wide_size b)

  in_tabled : (at opcode fixed : ℕ) (s : List ℕ) (low high : ℕ) → RenamesIn (tabled at opcode fixed s low high)
  in_tabled at opcode fixed s low high = elim (nat_lt high low) as (λ (x : Bool). RenamesIn (cond x (Err (faults.Switch at)) (within at (fixed + 4 * (high - low + 1)) s (Ok (instruction at opcode (1 + (fixed + 4 * (high - low + 1))) None))))) [ true ↦ tt | false ↦ in_within at (fixed + 4 * (high - low + 1)) s _ tt ]

  in_paired : (at opcode fixed : ℕ) (s : List ℕ) (n : ℕ) → RenamesIn (paired at opcode fixed s n)
  in_paired at opcode fixed s n = elim (nat_le 2147483648 n) as (λ (x : Bool). RenamesIn (cond x (Err (faults.Switch at)) (within at (fixed + 8 * n) s (Ok (instruction at opcode (1 + (fixed + 8 * n)) None))))) [ true ↦ tt | false ↦ in_within at (fixed + 8 * n) s _ tt ]

  in_shaped : (at opcode : ℕ) (s : List ℕ) (shape : Option Shape) → RenamesIn (shaped old at opcode s shape)
  in_shaped at opcode s None = tt
  in_shaped at opcode s (Some (shapes.Bytes n)) = in_within at n s _ tt
  in_shaped at opcode s (Some (shapes.ByteIndex operand)) = in_within at 1 s _ (in_checked operand at opcode 2 (from_be_bytes w8 (take 1 s)))
  in_shaped at opcode s (Some (shapes.Index operand n)) = in_within at (2 + n) s _ (in_checked operand at opcode (3 + n) (from_be_bytes w16 (take 2 s)))
  in_shaped at opcode s (Some shapes.TableSwitch) = in_within at _ s _ (in_tabled at opcode _ s _ _)
  in_shaped at opcode s (Some shapes.LookupSwitch) = in_within at _ s _ (in_paired at opcode _ s _)
  in_shaped at opcode s (Some shapes.Wide) = in_widened at opcode s

  in_goes_on : (r : Reading) (f : ℕ → Instructions) → RenamesIn r → ((n : ℕ) → AllByRecursion IsLed (f n).instructions) → AllByRecursion IsLed (goes_on r f).instructions
  in_goes_on (Ok i) f k e = (k, e (i.size - 1))
  in_goes_on (Err x) f k e = tt

  pub in_instructions : (at skip : ℕ) (s : List ℕ) → AllByRecursion IsLed (instructions_from old at skip s).instructions
  unfolding instructions_from instruction_at
  in_instructions at skip [] = tt
  in_instructions at (suc skip) (b ∷ s) = in_instructions (at + 1) skip s
  in_instructions at zero (b ∷ s) = in_goes_on (instruction_at old at b s) (λ skip. instructions_from old (at + 1) skip s) (in_shaped at b s (shape_of b)) (λ skip. in_instructions (at + 1) skip s)
