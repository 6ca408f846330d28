-- The numbers in the body of an entry that is no text and no number, and the bytes of a number (JVMS 4.4).
use Rattle.std.specs.Prelude.{ℕ, List, Option, Some, None}
use Rattle.desk_base.specs.Entries.{Entry, utf8, integer, float, long, double, class, string, fieldref, methodref, interface_methodref, name_and_type, method_handle, method_type, dynamic, invoke_dynamic, module_named, package_named, Pool, entry_at}

-- Two numbers in order; the second is 0 where the body has one alone.
abbrev pub operands_in : Option Entry → Option (ℕ × ℕ)
operands_in None = None
operands_in (Some (utf8 t)) = None
operands_in (Some (integer b)) = None
operands_in (Some (float b)) = None
operands_in (Some (long b)) = None
operands_in (Some (double b)) = None
operands_in (Some (class i)) = Some (i, 0)
operands_in (Some (string i)) = Some (i, 0)
operands_in (Some (fieldref c n)) = Some (c, n)
operands_in (Some (methodref c n)) = Some (c, n)
operands_in (Some (interface_methodref c n)) = Some (c, n)
operands_in (Some (name_and_type n d)) = Some (n, d)
operands_in (Some (method_handle k i)) = Some (k, i)
operands_in (Some (method_type d)) = Some (d, 0)
operands_in (Some (dynamic n i)) = Some (n, i)
operands_in (Some (invoke_dynamic n i)) = Some (n, i)
operands_in (Some (module_named i)) = Some (i, 0)
operands_in (Some (package_named i)) = Some (i, 0)

-- those of the entry that an index names
abbrev pub operands_at : Pool → ℕ → Option (ℕ × ℕ)
operands_at pool i = operands_in (entry_at pool i)

abbrev pub number_in : Option Entry → Option (List ℕ)
number_in (Some (integer b)) = Some b
number_in (Some (float b)) = Some b
number_in (Some (long b)) = Some b
number_in (Some (double b)) = Some b
number_in _ = None

-- the bytes of the number that an index names, and none at another index
abbrev pub number_at : Pool → ℕ → Option (List ℕ)
number_at pool i = number_in (entry_at pool i)
