use Rattle.std.proofs.Common.{◌≡◌, drop}
use Rattle.desk_chains.specs.Chains.{first_pair}
use Rattle.desk_chains.proofs.Gifts.{InVain}
use Rattle.desk_chains.proofs.chain.first_between.Given as goal

-- the first pair stands in what is left, and what gives a text that was tried leads nowhere
abbrev pub invariant-loop-first : goal.invariant-loop-first
invariant-loop-first g l = record {
  pairs : first_pair g.A.LeadsTo.leads (drop l.first-index l.firsts) l.seconds ≡ first_pair g.A.LeadsTo.leads l.firsts l.seconds;
  vain : InVain g.A.LeadsTo.gives g.A.LeadsTo.leads l.seconds l.tried;
}
