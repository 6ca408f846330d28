use Rattle.std.proofs.Common.{arith}
use Rattle.desk_packages.proofs.Searched.{lower_still, higher_still, nowhere, place_found, at_place}
use Rattle.desk_packages.proofs.keyed.place_of.Goals as goal

pub loop-low-preserved-in-Less : goal.loop-low-preserved-in-Less
loop-low-preserved-in-Less g c =
    let at = at_place g.R.Keyed.key_of c.args.rules.now c.args.key.now _ _ _ _ c.index-rules-middle.is c.key.ensures c.in-Less.ensures in
    record {
      order = omega arith;
      within = c.loop-low.invariant.within;
      lower = lower_still g.R.Keyed.key_of c.args.rules.now c.requires c.args.key.now _ _ (omega arith) at;
      higher = c.loop-low.invariant.higher;
    }

pub loop-low-preserved : goal.loop-low-preserved
loop-low-preserved g c =
    let at = at_place g.R.Keyed.key_of c.args.rules.now c.args.key.now _ _ _ _ c.index-rules-middle.is c.key.ensures c.in-Greater.ensures in
    record {
      order = omega arith;
      within = omega arith;
      lower = c.loop-low.invariant.lower;
      higher = higher_still g.R.Keyed.key_of c.args.rules.now c.requires c.args.key.now _ _ at;
    }

pub returns-in-Equal : goal.returns-in-Equal
returns-in-Equal g c =
    let at = at_place g.R.Keyed.key_of c.args.rules.now c.args.key.now _ _ _ _ c.index-rules-middle.is c.key.ensures c.in-Equal.ensures in
    place_found g.R.Keyed.key_of c.args.rules.now c.args.key.now _ _ (omega arith) at

pub returns : goal.returns
returns g c = nowhere g.R.Keyed.key_of c.args.rules.now c.args.key.now _ _ c.loop-low.invariant (omega arith)
