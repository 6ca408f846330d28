use Rattle.std.proofs.Common.{◌≡◌, take, drop}
use Rattle.desk_sites.specs.Sites.{sites_of_codes, first_fault}
use Rattle.desk_sites.proofs.sites.sites_of_codes.Given as goal

abbrev pub invariant-loop-code : goal.invariant-loop-code
invariant-loop-code l = record {
  sites : l.sites.items ≡ sites_of_codes l.pool.entries l.scope l.bytes (take l.code-index l.codes);
  fault : first_fault l.pool.entries l.bytes (drop l.code-index l.codes) ≡ first_fault l.fn.pool.entries l.fn.bytes l.fn.codes;
}
