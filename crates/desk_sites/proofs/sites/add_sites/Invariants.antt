use Rattle.std.proofs.Common.{◌≡◌, ◌++◌, length}
use Rattle.desk_sites.specs.Sites.{sites_among, sites_of_code, read_code}
use Rattle.desk_sites.proofs.sites.add_sites.Given as goal

abbrev pub invariant-loop-instruction : goal.invariant-loop-instruction
invariant-loop-instruction l = record {
  sites : l.sites.items ++ sites_among l.pool.entries l.scope l.code l.reader.instructions ≡ l.fn.sites.items ++ sites_of_code l.fn.pool.entries l.fn.scope l.fn.bytes l.fn.code;
  fault : l.reader.fault ≡ (read_code l.fn.pool.entries l.fn.bytes l.fn.code).fault;
}

abbrev pub decreases-loop-instruction : goal.decreases-loop-instruction
decreases-loop-instruction l = length l.reader.instructions
