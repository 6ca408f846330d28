-- The code arrays of a class, and those of its new class.
use Rattle.std.specs.Prelude.{◌≡◌, ℕ, List, None, IfSome, Ok}
use Rattle.std.specs.List.{AllByRecursion, AllZip}
use Rattle.desk_base.specs.Entries.{text_at}
use Rattle.desk_format.specs.Laws.{IsBytes}
use Rattle.desk_format.specs.Values.{value_of}
use Rattle.desk_format.specs.Resolved.{Images, renamed_value}
use Rattle.desk_format.specs.Exchange.{moved}
use Rattle.desk_format.specs.Classes.{Class, read_class}
use Rattle.desk_format.specs.NewClass.{pool_of, change_of, new_bytes, refusal}
use Rattle.desk_laws.specs.NewPools.{KeepsForms}
use Rattle.desk_code.specs.declared.places.CodeAt.{CodeAt}
use Rattle.desk_code.specs.declared.reader.Instruction.{Instruction}
use Rattle.desk_code.specs.Codes.{codes_in, code_bytes}
use Rattle.desk_code.specs.Instructions.{instructions_of}

-- In the new pool the index of an instruction leads to the renamed value of what it leads to in the old one.
abbrev pub LeadsToRenamed : Images → Class → Instruction → Type 0
LeadsToRenamed im c i = IfSome i.index (λ n. value_of (pool_of im c) n ≡ renamed_value im (value_of c.pool n))

-- A code array of the class of some bytes, and one of its new class. The method's name stays, and its descriptor is the renamed
-- one. Both places move with the body; the bytes stay. They read or fail alike: into the same instructions, with the same fault;
-- and the index of each instruction leads to the renamed value.
pub record IsKeptCode (im : Images) (bytes : List ℕ) (c : Class) (old new : CodeAt) : Type 0 where
  pub member : new.member ≡ moved (change_of im c) old.member
  pub name : text_at (pool_of im c) new.name ≡ text_at c.pool old.name
  pub descriptor : text_at (pool_of im c) new.descriptor ≡ im.desc (text_at c.pool old.descriptor)
  pub at : new.at ≡ moved (change_of im c) old.at
  pub size : new.length ≡ old.length
  pub bytes_stay : code_bytes (new_bytes im bytes c) new ≡ code_bytes bytes old
  pub reads : instructions_of (pool_of im c) (code_bytes (new_bytes im bytes c) new) ≡ instructions_of c.pool (code_bytes bytes old)
  pub values : AllByRecursion (LeadsToRenamed im c) (instructions_of c.pool (code_bytes bytes old)).instructions

-- The code arrays of the new class are those of the class, one by one.
abbrev pub KeepsCodes : Images → List ℕ → Class → Type 0
KeepsCodes im bytes c = AllZip (IsKeptCode im bytes c) (codes_in bytes) (codes_in (new_bytes im bytes c))

-- For each well-formed class for which no refusal stands, under images that keep forms.
abbrev pub KeptCodes : Type 0
KeptCodes = (im : Images) (bytes : List ℕ) (c : Class) → KeepsForms im → IsBytes bytes → read_class bytes ≡ Ok c → refusal im c ≡ None → KeepsCodes im bytes c
