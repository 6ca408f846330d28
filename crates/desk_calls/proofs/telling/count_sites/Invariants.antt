use Rattle.std.proofs.Common.{◌≡◌, ◌≤◌, ◌*◌, take}
use Rattle.std.specs.List.{sum_by}
use Rattle.desk_calls.specs.Told.{site_count}
use Rattle.desk_calls.proofs.telling.count_sites.Given as goal

abbrev pub invariant-loop-one : goal.invariant-loop-one
invariant-loop-one l = record {
  sites_is : l.sites ≡ sum_by site_count (take l.one-index l.found);
  sites_fit : l.sites ≤ l.one-index * 18446744073709551615;
}
