use Rattle.std.proofs.Common.{◌≡◌, ◌≤◌, ◌-◌, length, [], ◌∷◌, ◌++◌}
use Rattle.desk_base.specs.Names.{Text}
use Rattle.desk_packages.specs.Renames.{key_of}
use Rattle.desk_packages.specs.Keys.{IsCutAt, AllBegin}
use Rattle.desk_packages.proofs.narrowing.count_below.Given as goal

abbrev pub invariant-loop-low : goal.invariant-loop-low
invariant-loop-low l = record {
  order : l.low ≤ l.high;
  within : l.high ≤ length l.renames;
  cut : (start : Text) → length start ≡ l.place → AllBegin key_of l.renames start (length l.renames) → IsCutAt key_of l.renames (start ++ l.limit ∷ []) l.low l.high;
}

abbrev pub decreases-loop-low : goal.decreases-loop-low
decreases-loop-low l = l.high - l.low
