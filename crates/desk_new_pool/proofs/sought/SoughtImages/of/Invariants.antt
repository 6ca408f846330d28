use Rattle.std.proofs.Common.{◌≡◌, drop}
use Rattle.desk_new_pool.specs.Places.{in_set}
use Rattle.desk_new_pool.specs.Sought.{sought_among, KnowsLengths}
use Rattle.desk_new_pool.proofs.sought.SoughtImages.of.Given as goal

abbrev pub invariant-loop-place : goal.invariant-loop-place
invariant-loop-place l = record {
  images : in_set l.images ≡ sought_among l.texts (drop l.place l.wants);
  lengths : KnowsLengths l.has_length (in_set l.images);
}
