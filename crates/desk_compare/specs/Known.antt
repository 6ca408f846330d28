-- The constant pools of two classes, and pairs of indices that lead to the same value there.
use Rattle.std.specs.Prelude.{◌≡◌, true}
use Rattle.desk_base.specs.Entries.{Pool}
use Rattle.desk_compare.specs.declared.known.IndexPair.{IndexPair}
use Rattle.desk_compare.specs.Values.{same_value}

pub record TwoPools : Type 0 where
  pub left : Pool
  pub right : Pool

-- two indices that lead to the same value
abbrev pub AreSame : Pool → Pool → IndexPair → Type 0
AreSame left right p = same_value left right p.left p.right ≡ true
