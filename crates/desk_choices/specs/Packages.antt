-- Packages as class files write them (JVMS 4.2.1).
use Rattle.std.specs.Prelude.{ℕ, ◌==◌, if◌then◌else◌}

-- a byte with `/` for `.`
abbrev pub slashed_byte : ℕ → ℕ
slashed_byte b = if b == 46 then 47 else b
