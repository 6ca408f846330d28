-- What the desk takes no more of.
use Rattle.std.specs.Prelude.{ℕ}

-- how many bytes a file may have
abbrev pub file_size : ℕ
file_size = 67108864

-- how many bytes a rule file may have
abbrev pub rule_size : ℕ
rule_size = 1048576
