use Rattle.std.proofs.Common.{[], arith}
use Rattle.desk_format.specs.PoolBytes.{print_pool}
use Rattle.desk_laws.proofs.Again.{pool_again}
use Rattle.desk_laws.proofs.Inverse.{pool_ensures}
use Rattle.desk_laws.proofs.Spelled.{Spelled, pool_spelled}
use Rattle.desk_laws.proofs.laws.printed_pools.Goals as goal

pub returns : goal.returns
returns c = record {
  well_formed = λ at s g bytes e. ((pool_ensures at s bytes).runs g e).fact;
  bytes = λ at s g bytes e. ((pool_spelled at s bytes).runs g e).parts;
  behind = λ at s g bytes e. let o : Spelled [] print_pool at s g = (pool_spelled at s bytes).runs g e in omega (arith, o.place);
  again = pool_again;
}
