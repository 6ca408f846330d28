-- The fault of a code array stands in it.
use Rattle.std.proofs.Common.{◌≡◌, ℕ, zero, suc, ◌+◌, ◌-◌, ◌*◌, ◌<◌, ◌≤◌, Bool, true, false, cond, nat_lt, nat_le, List, [], ◌∷◌, length, take, Option, Some, None, Ok, Err, refl, subst, arith}
use Rattle.std.specs.Int.{w8, w16, from_be_bytes}
use Rattle.std.proofs.lemmas.Bool.{ltb-false}
use Rattle.desk_base.specs.Entries.{Pool, tag_at}
use Rattle.desk_base.specs.declared.faults.CodeFault.{CodeFault}
use Rattle.desk_base.specs.declared.faults.CodeFault.TheVariants as faults
use Rattle.desk_code.specs.declared.opcodes.Operand.{Operand}
use Rattle.desk_code.specs.declared.opcodes.Shape.{Shape}
use Rattle.desk_code.specs.declared.opcodes.Shape.TheVariants as shapes
use Rattle.desk_code.specs.Faults.{place_of}
use Rattle.desk_code.specs.Opcodes.{is_named, shape_of, wide_size}
use Rattle.desk_code.specs.Instructions.{Reading, Instructions, within, checked, wide, widened, tabled, paired, shaped, instruction, instruction_at, goes_on, instructions_from, instructions_of}

-- a fault of an instruction at a place, with so many bytes behind its opcode
abbrev pub IsInside : ℕ → ℕ → Reading → Type 0
IsInside at n (Ok i) = Unit {0}
IsInside at n (Err f) = place_of f < at + (1 + n)

in_within : (at n : ℕ) (s : List ℕ) (r : Reading) → (n ≤ length s → IsInside at (length s) r) → IsInside at (length s) (within at n s r)
in_within at n s r k = by (nat_lt (length s) n) refl where
  by : (x : Bool) → nat_lt (length s) n ≡ x → IsInside at (length s) (cond x (Err (faults.UnexpectedEnd at)) r)
  by true e = omega arith
  by false e = k (ltb-false (length s) n e)

in_checked : (pool : Pool) (operand : Operand) (at opcode size i : ℕ) (n : ℕ) → 1 ≤ n → IsInside at n (checked pool operand at opcode size i)
in_checked pool operand at opcode size i n some =
    elim (is_named operand (tag_at pool i)) as (λ (x : Bool). IsInside at n (cond x (Ok (instruction at opcode size (Some i))) (Err (faults.Operand (at + 1))))) [ true ↦ tt | false ↦ omega arith ]

in_wide : (at opcode : ℕ) (s : List ℕ) (o : Option ℕ) → IsInside at (1 + length s) (wide at opcode s o)
in_wide at opcode s None = omega arith
in_wide at opcode s (Some n) =
    elim (nat_lt (length s) n) as (λ (x : Bool). IsInside at (1 + length s) (cond x (Err (faults.UnexpectedEnd at)) (Ok (instruction at opcode (2 + n) None)))) [ true ↦ omega arith | false ↦ tt ]

in_widened : (at opcode : ℕ) (s : List ℕ) → IsInside at (length s) (widened at opcode s)
in_widened at opcode [] = omega arith
in_widened at opcode (b ∷ s) = more (wide at opcode s (wide_size b)) (in_wide at opcode s (wide_size b)) where
  more : (r : Reading) → IsInside at (1 + length s) r → IsInside at (length (b ∷ s)) r
  more (Ok i) h = tt
  more (Err f) h = omega (arith, h)

in_tabled : (at opcode fixed : ℕ) (s : List ℕ) (low high : ℕ) → IsInside at (length s) (tabled at opcode fixed s low high)
in_tabled at opcode fixed s low high =
    elim (nat_lt high low) as (λ (x : Bool). IsInside at (length s) (cond x (Err (faults.Switch at)) (within at (fixed + 4 * (high - low + 1)) s (Ok (instruction at opcode (1 + (fixed + 4 * (high - low + 1))) None)))))
    [ true ↦ omega arith | false ↦ in_within at (fixed + 4 * (high - low + 1)) s _ (λ _. tt) ]

in_paired : (at opcode fixed : ℕ) (s : List ℕ) (n : ℕ) → IsInside at (length s) (paired at opcode fixed s n)
in_paired at opcode fixed s n =
    elim (nat_le 2147483648 n) as (λ (x : Bool). IsInside at (length s) (cond x (Err (faults.Switch at)) (within at (fixed + 8 * n) s (Ok (instruction at opcode (1 + (fixed + 8 * n)) None)))))
    [ true ↦ omega arith | false ↦ in_within at (fixed + 8 * n) s _ (λ _. tt) ]

in_shaped : (pool : Pool) (at opcode : ℕ) (s : List ℕ) (shape : Option Shape) → IsInside at (length s) (shaped pool at opcode s shape)
in_shaped pool at opcode s None = omega arith
in_shaped pool at opcode s (Some (shapes.Bytes n)) = in_within at n s _ (λ _. tt)
in_shaped pool at opcode s (Some (shapes.ByteIndex operand)) = in_within at 1 s _ (λ h. in_checked pool operand at opcode 2 (from_be_bytes w8 (take 1 s)) (length s) h)
in_shaped pool at opcode s (Some (shapes.Index operand n)) = in_within at (2 + n) s _ (λ h. in_checked pool operand at opcode (3 + n) (from_be_bytes w16 (take 2 s)) (length s) (omega (arith, h)))
in_shaped pool at opcode s (Some shapes.TableSwitch) = in_within at _ s _ (λ _. in_tabled at opcode _ s _ _)
in_shaped pool at opcode s (Some shapes.LookupSwitch) = in_within at _ s _ (λ _. in_paired at opcode _ s _)
in_shaped pool at opcode s (Some shapes.Wide) = in_widened at opcode s

-- the fault of instructions that end before a place
abbrev pub EndsBefore : ℕ → Option CodeFault → Type 0
EndsBefore end None = Unit {0}
EndsBefore end (Some f) = place_of f < end

later : (a b : ℕ) (o : Option CodeFault) → a ≡ b → EndsBefore a o → EndsBefore b o
later a b None e h = tt
later a b (Some f) e h = omega (arith, h)

in_goes_on : (at end : ℕ) (r : Reading) (f : ℕ → Instructions) (n : ℕ) → end ≡ at + (1 + n) → IsInside at n r → ((k : ℕ) → EndsBefore end (f k).fault) → EndsBefore end (goes_on r f).fault
in_goes_on at end (Ok i) f n e h k = k (i.size - 1)
in_goes_on at end (Err x) f n e h k = omega (arith, h)

pub inside : (pool : Pool) (at skip : ℕ) (s : List ℕ) → EndsBefore (at + length s) (instructions_from pool at skip s).fault
unfolding instructions_from instruction_at
inside pool at skip [] = tt
inside pool at (suc skip) (b ∷ s) = later (at + 1 + length s) (at + length (b ∷ s)) _ (omega arith) (inside pool (at + 1) skip s)
inside pool at zero (b ∷ s) =
    in_goes_on at (at + length (b ∷ s)) (instruction_at pool at b s) (λ skip. instructions_from pool (at + 1) skip s) (length s) (omega arith) (in_shaped pool at b s (shape_of b))
    (λ skip. later (at + 1 + length s) (at + length (b ∷ s)) _ (omega arith) (inside pool (at + 1) skip s))

pub fault_inside : (pool : Pool) (code : List ℕ) (f : CodeFault) → (instructions_of pool code).fault ≡ Some f → place_of f < length code
fault_inside pool code f h =
    let k : EndsBefore (0 + length code) (Some f) = subst (λ (o : Option CodeFault). EndsBefore (0 + length code) o) h (inside pool 0 0 code) in
    omega (arith, k)
