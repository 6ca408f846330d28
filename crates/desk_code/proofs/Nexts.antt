-- What the next of the instructions that are to come says of them.
use Rattle.std.proofs.Common.{◌≡◌, List, [], ◌∷◌, Option, Some, None, Ok, Err, refl}
use Rattle.desk_base.specs.declared.faults.CodeFault.{CodeFault}
use Rattle.desk_code.specs.declared.reader.Instruction.{Instruction}
use Rattle.desk_code.specs.Instructions.{Instructions, next_of, behind_next}

some_of : (is : List Instruction) (fault : Option CodeFault) (i : Instruction) → next_of (record { instructions = is; fault = fault }) ≡ Ok (Some i)
    → is ≡ i ∷ (behind_next (record { instructions = is; fault = fault })).instructions
some_of [] None i h = absurd cc
some_of [] (Some f) i h = absurd cc
some_of (j ∷ is) fault i h = let e : j ≡ i = cc in rw e refl

none_of : (is : List Instruction) (fault : Option CodeFault) → next_of (record { instructions = is; fault = fault }) ≡ Ok None → (is ≡ []) × (fault ≡ None)
none_of [] None h = (refl, refl)
none_of [] (Some f) h = absurd cc
none_of (j ∷ is) fault h = absurd cc

fault_of : (is : List Instruction) (fault : Option CodeFault) (f : CodeFault) → next_of (record { instructions = is; fault = fault }) ≡ Err f → (is ≡ []) × (fault ≡ Some f)
fault_of [] None f h = absurd cc
fault_of [] (Some g) f h = (refl, cc)
fault_of (j ∷ is) fault f h = absurd cc

fault_stays : (is : List Instruction) (fault : Option CodeFault) → (behind_next (record { instructions = is; fault = fault })).fault ≡ fault
fault_stays [] fault = refl
fault_stays (i ∷ is) fault = refl

-- an instruction comes first
pub next_some : (c : Instructions) (i : Instruction) → next_of c ≡ Ok (Some i) → c.instructions ≡ i ∷ (behind_next c).instructions
next_some c i h = some_of c.instructions c.fault i h

-- none is left, and there is no fault
pub next_none : (c : Instructions) → next_of c ≡ Ok None → (c.instructions ≡ []) × (c.fault ≡ None)
next_none c h = none_of c.instructions c.fault h

-- none is left, and there is a fault
pub next_fault : (c : Instructions) (f : CodeFault) → next_of c ≡ Err f → (c.instructions ≡ []) × (c.fault ≡ Some f)
next_fault c f h = fault_of c.instructions c.fault f h

-- the fault stays the same
pub same_fault : (c : Instructions) → (behind_next c).fault ≡ c.fault
same_fault c = fault_stays c.instructions c.fault
