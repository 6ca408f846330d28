-- What the bytes of a class hold, by the class.
use Rattle.std.proofs.Common.{◌≡◌, Result, Ok, ap}
use Rattle.desk_base.specs.Names.{Text}
use Rattle.desk_base.specs.declared.faults.Malformed.{Malformed}
use Rattle.desk_format.specs.Classes.{Class, class_uses, list_in, read_class}
use Rattle.desk_class.specs.Held.{held_by, held_names, held_in}
use Rattle.desk_class.specs.Parts.{class_name, name_in}

-- the class names that the bytes hold
pub held_is : (bytes : Text) (c : Class) → read_class bytes ≡ Ok c → held_in bytes ≡ held_names c
held_is bytes c reads = ap (λ (r : Result Class Malformed). held_by (list_in (λ d. d.pool) r) (list_in class_uses r)) reads

-- the name of the class of the bytes
pub name_is : (bytes : Text) (c : Class) → read_class bytes ≡ Ok c → name_in bytes ≡ class_name c
name_is bytes c reads = ap (list_in class_name) reads
