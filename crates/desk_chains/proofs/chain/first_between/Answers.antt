use Rattle.std.proofs.Common.{◌∙◌, ap, sym, Some, arith}
use Rattle.desk_base.specs.Names.{Text}
use Rattle.desk_chains.specs.Chains.{chain_of, chain_at}
use Rattle.desk_chains.proofs.Chains.{pair_here, pair_later}
use Rattle.desk_chains.proofs.Gifts.{skipped, vain_more}
use Rattle.desk_chains.proofs.chain.first_between.Goals as goal

pub returns-in-Some : goal.returns-in-Some
returns-in-Some g c =
    ap (chain_of c.args.kind g.A.Keyed.key_of g.B.Keyed.key_of)
    (sym c.loop-first.invariant.pairs ∙ pair_here g.A.LeadsTo.leads c.args.firsts.now c.args.seconds.now _ c.first-item.result c.in-Some.second.now (omega arith) c.first-item.is c.in-Some.ensures)
    ∙ ap (λ (t : Text). Some (chain_at c.args.kind t (g.B.Keyed.key_of c.in-Some.second.now))) (sym c.key.ensures)
    ∙ ap (λ (t : Text). Some (chain_at c.args.kind c.key.result.now t)) (sym c.key-in-Some.ensures)

pub loop-first-preserved-then-holds : goal.loop-first-preserved-then-holds
loop-first-preserved-then-holds g c =
    let none = skipped g.A.LeadsTo.gives g.A.LeadsTo.leads c.args.seconds.now c.loop-first.tried c.first-item.result c.gift-given.result c.gift-given.ensures (sym c.holds.ensures ∙ c.if-holds.true) c.loop-first.invariant.vain in
    record {
      pairs = pair_later g.A.LeadsTo.leads c.args.firsts.now c.args.seconds.now _ c.first-item.result (omega arith) c.first-item.is none ∙ c.loop-first.invariant.pairs;
      vain = c.loop-first.invariant.vain;
    }

pub loop-first-preserved : goal.loop-first-preserved
loop-first-preserved g c = record {
  pairs = pair_later g.A.LeadsTo.leads c.args.firsts.now c.args.seconds.now _ c.first-item.result (omega arith) c.first-item.is c.in_default.ensures ∙ c.loop-first.invariant.pairs;
  vain = vain_more g.A.LeadsTo.gives g.A.LeadsTo.leads c.args.seconds.now c.loop-first.tried c.note.new.set c.first-item.result c.gift-given.result c.gift-given.ensures c.in_default.ensures c.note.ensures c.loop-first.invariant.vain;
}
