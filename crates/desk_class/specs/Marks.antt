-- Numbers of texts, by which most texts are told apart.
use Rattle.std.specs.Prelude.{ℕ, ◌-◌, length, take, drop, nat_le, if◌then◌else◌}
use Rattle.std.specs.Hash.FoldHasher as folding
use Rattle.std.specs.declared.hash.FoldHasher.{FoldHasher}
use Rattle.std.specs.declared.cmp.Ordering.{Ordering}
use Rattle.std.specs.Ordering.{nat_cmp, on, then_cmp}
use Rattle.std.specs.Cmp.Lexicographic.{slice_cmp}
use Rattle.desk_base.specs.Names.{Text}
use Rattle.desk_format.specs.Members.{Named}

-- the mark of a text: its hash
abbrev pub mark : Text → ℕ
mark text = folding.finish (folding.write folding.initial text)

-- texts in the order of their marks, and in byte order where these are equal
abbrev pub marked_cmp : Text → Text → Ordering
marked_cmp = then_cmp (on mark nat_cmp) (slice_cmp nat_cmp)

-- ---- marks of members

-- a text hashed, or the first and the last 128 bytes of one of more than 256
abbrev pub ends_hashed : FoldHasher → Text → FoldHasher
ends_hashed hasher text =
    if nat_le (length text) 256 then folding.write hasher text else folding.write (folding.write hasher (take 128 text)) (drop (length text - 128) text)

-- the mark of a name and a descriptor
abbrev pub named_mark : Named → ℕ
named_mark named = folding.finish (ends_hashed (ends_hashed folding.initial named.name) named.descriptor)
