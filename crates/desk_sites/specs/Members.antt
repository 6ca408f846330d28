-- The member that an index names (JVMS 4.4.2): a field or a method by its class, its name and its descriptor.
use Rattle.std.specs.Prelude.{ℕ, unwrap_or}
use Rattle.desk_base.specs.Names.{Text}
use Rattle.desk_base.specs.Entries.{Pool, text_at}
use Rattle.desk_pool.specs.Bodies.{operands_at}

-- the numbers of an entry: of a member, the indices of its class and of its name and type; of a class, that of its name; of a name and
-- type, those of both
abbrev pub operands_or : Pool → ℕ → ℕ × ℕ
operands_or pool i = unwrap_or (operands_at pool i) (0, 0)

-- the text of its class, as it stands
abbrev pub member_class : Pool → ℕ → Text
member_class pool i = text_at pool (operands_or pool (operands_or pool i).0).0

abbrev pub member_name : Pool → ℕ → Text
member_name pool i = text_at pool (operands_or pool (operands_or pool i).1).0

abbrev pub member_descriptor : Pool → ℕ → Text
member_descriptor pool i = text_at pool (operands_or pool (operands_or pool i).1).1
